-- The letters of the worked examples, and their bytes.
use Rattle.std.specs.Prelude.{ℕ, List, [], ◌∷◌, ◌++◌, codes}
use Rattle.pcrf_values.specs.Places.{OriginHost, FramedIpv6Prefix, OfSession}
use Rattle.pcrf_values.specs.Values.{Text, Prefix}
use Rattle.pcrf_values.specs.Facts.{End, Field, Aborted}
use Rattle.pcrf_model.specs.Sessions.{gx, af}
use Rattle.pcrf_model.specs.Operations.{Operation}
use Rattle.pcrf_model.specs.Letters.{Range, Snapshot, Acknowledgement, LetterValue}

-- the end of a session, by the request of number 5, at counter 2 of site 0
abbrev pub ending : Operation
ending = record { counter = 2; site = 0; number = 5; session = gx (codes "gw;1;1"); facts = End ∷ [] }

-- the range of it, at position 1, from site 0 in its first epoch
abbrev pub ended : LetterValue
ended = record { edition = 7; site = 0; epoch = 1; body = Range 1 (ending ∷ []) }

-- length; version, edition, site, epoch, kind; position and count; stamp and number; session; count and fact
abbrev pub ended_bytes : List ℕ
ended_bytes =
    0 ∷ 0 ∷ 0 ∷ 48 ∷ []
    ++ (3 ∷ 0 ∷ 0 ∷ 0 ∷ 7 ∷ 0 ∷ 0 ∷ 1 ∷ 1 ∷ [])
    ++ (0 ∷ 0 ∷ 0 ∷ 0 ∷ 0 ∷ 0 ∷ 0 ∷ 1 ∷ 0 ∷ 0 ∷ 0 ∷ 1 ∷ [])
    ++ (0 ∷ 0 ∷ 0 ∷ 0 ∷ 0 ∷ 0 ∷ 0 ∷ 2 ∷ 0 ∷ 0 ∷ 0 ∷ 0 ∷ 5 ∷ [])
    ++ (1 ∷ 0 ∷ 6 ∷ 103 ∷ 119 ∷ 59 ∷ 49 ∷ 59 ∷ 49 ∷ [])
    ++ (0 ∷ 0 ∷ 0 ∷ 1 ∷ 1 ∷ [])

-- the abort of a call at counter 1 of site 0
abbrev pub aborting : Operation
aborting = record { counter = 1; site = 0; number = 0; session = af (codes "af;1"); facts = Aborted ∷ [] }

-- the range of it, at position 0
abbrev pub aborted : LetterValue
aborted = record { edition = 7; site = 0; epoch = 1; body = Range 0 (aborting ∷ []) }

-- as the bytes of the range above
abbrev pub aborted_bytes : List ℕ
aborted_bytes =
    0 ∷ 0 ∷ 0 ∷ 46 ∷ []
    ++ (3 ∷ 0 ∷ 0 ∷ 0 ∷ 7 ∷ 0 ∷ 0 ∷ 1 ∷ 1 ∷ [])
    ++ (0 ∷ 0 ∷ 0 ∷ 0 ∷ 0 ∷ 0 ∷ 0 ∷ 0 ∷ 0 ∷ 0 ∷ 0 ∷ 1 ∷ [])
    ++ (0 ∷ 0 ∷ 0 ∷ 0 ∷ 0 ∷ 0 ∷ 0 ∷ 1 ∷ 0 ∷ 0 ∷ 0 ∷ 0 ∷ 0 ∷ [])
    ++ (2 ∷ 0 ∷ 4 ∷ 97 ∷ 102 ∷ 59 ∷ 49 ∷ [])
    ++ (0 ∷ 0 ∷ 0 ∷ 1 ∷ 8 ∷ [])

-- 2001:db8:0:10::/60
abbrev pub network : List ℕ
network = 32 ∷ 1 ∷ 13 ∷ 184 ∷ 0 ∷ 0 ∷ 0 ∷ 16 ∷ 0 ∷ 0 ∷ 0 ∷ 0 ∷ 0 ∷ 0 ∷ 0 ∷ 0 ∷ []

-- of a session that is reached by a prefix of 60 bits alone, the prefix, as site 0 tells it at counter 1 by the request of number 0
abbrev pub reaching : Operation
reaching = record {
  counter = 1;
  site = 0;
  number = 0;
  session = gx (codes "g");
  facts = Field (OfSession FramedIpv6Prefix) (record { number = 0; counter = 1; site = 0 }) (Prefix (60, network)) ∷ [];
}

-- the range of it
abbrev pub reached : LetterValue
reached = record { edition = 7; site = 0; epoch = 1; body = Range 0 (reaching ∷ []) }

-- in a letter of version v; behind the count kind, field, length and the bytes that it needs
abbrev pub reached_bytes : ℕ → List ℕ
reached_bytes v =
    0 ∷ 0 ∷ 0 ∷ 53 ∷ []
    ++ (v ∷ 0 ∷ 0 ∷ 0 ∷ 7 ∷ 0 ∷ 0 ∷ 1 ∷ 1 ∷ [])
    ++ (0 ∷ 0 ∷ 0 ∷ 0 ∷ 0 ∷ 0 ∷ 0 ∷ 0 ∷ 0 ∷ 0 ∷ 0 ∷ 1 ∷ [])
    ++ (0 ∷ 0 ∷ 0 ∷ 0 ∷ 0 ∷ 0 ∷ 0 ∷ 1 ∷ 0 ∷ 0 ∷ 0 ∷ 0 ∷ 0 ∷ [])
    ++ (1 ∷ 0 ∷ 1 ∷ 103 ∷ [])
    ++ (0 ∷ 0 ∷ 0 ∷ 1 ∷ 2 ∷ 7 ∷ 60 ∷ 32 ∷ 1 ∷ 13 ∷ 184 ∷ 0 ∷ 0 ∷ 0 ∷ 16 ∷ [])

-- what site 1 then says that it took of site 0
abbrev pub taken : LetterValue
taken = record { edition = 7; site = 1; epoch = 1; body = Acknowledgement 0 1 1 }

-- length; version, edition, site, epoch, kind; maker, its epoch, cursor
abbrev pub taken_bytes : List ℕ
taken_bytes =
    0 ∷ 0 ∷ 0 ∷ 20 ∷ []
    ++ (3 ∷ 0 ∷ 0 ∷ 0 ∷ 7 ∷ 1 ∷ 0 ∷ 1 ∷ 3 ∷ [])
    ++ (0 ∷ 0 ∷ 1 ∷ 0 ∷ 0 ∷ 0 ∷ 0 ∷ 0 ∷ 0 ∷ 0 ∷ 1 ∷ [])

-- what site 0 holds then: that end, and the host of a call that site 1 made at counter 2, which came with counter 3 as the clock
abbrev pub known : LetterValue
known = record {
  edition = 7;
  site = 0;
  epoch = 1;
  body = Snapshot (record {
    facts = (gx (codes "gw;1;1"), End) ∷ (af (codes "a"), Field (OfSession OriginHost) (record { number = 0; counter = 2; site = 1 }) (Text (codes "h"))) ∷ [];
    clock = 3;
  }) 2;
}

-- length; version, edition, site, epoch, kind; clock, length of the log, count; session, count, end; session, count, host and its tag
abbrev pub known_bytes : List ℕ
known_bytes =
    0 ∷ 0 ∷ 0 ∷ 69 ∷ []
    ++ (3 ∷ 0 ∷ 0 ∷ 0 ∷ 7 ∷ 0 ∷ 0 ∷ 1 ∷ 2 ∷ [])
    ++ (0 ∷ 0 ∷ 0 ∷ 0 ∷ 0 ∷ 0 ∷ 0 ∷ 3 ∷ 0 ∷ 0 ∷ 0 ∷ 0 ∷ 0 ∷ 0 ∷ 0 ∷ 2 ∷ 0 ∷ 0 ∷ 0 ∷ 2 ∷ [])
    ++ (1 ∷ 0 ∷ 6 ∷ 103 ∷ 119 ∷ 59 ∷ 49 ∷ 59 ∷ 49 ∷ 0 ∷ 0 ∷ 0 ∷ 1 ∷ 1 ∷ [])
    ++ (2 ∷ 0 ∷ 1 ∷ 97 ∷ 0 ∷ 0 ∷ 0 ∷ 1 ∷ 2 ∷ 4 ∷ 0 ∷ 1 ∷ 104 ∷ [])
    ++ (0 ∷ 0 ∷ 0 ∷ 0 ∷ 0 ∷ 0 ∷ 0 ∷ 0 ∷ 0 ∷ 0 ∷ 0 ∷ 2 ∷ 1 ∷ [])
