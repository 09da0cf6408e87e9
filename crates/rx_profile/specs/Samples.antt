-- An abort session request of the worked example, and its bytes.
use Rattle.std.specs.Prelude.{ℕ, List, [], ◌∷◌, ◌++◌, None, codes}
use Rattle.std.specs.declared.net.ipv4_addr.Ipv4Addr.{Ipv4Addr}
use Rattle.pcrf_model.specs.Replies.{AbortValue}
use Rattle.dia_base.specs.declared.form.MessageForm.TheVariants.{Own}
use Rattle.dia_base.specs.declared.identity.Identity.{Identity}

-- the abort of a call of the application function `af`
abbrev pub call_abort : AbortValue
call_abort = record { session = codes "af;1"; host = codes "af"; realm = codes "r" }

-- the site `s0`, wherever it is
abbrev pub own_names : Ipv4Addr → Identity
own_names address = record { host = codes "s0"; realm = codes "r"; address = address; form = Own; state = None }

-- header; Session-Id and Auth-Application-Id; Origin-Host and Origin-Realm; Destination-Realm and Destination-Host; Abort-Cause
abbrev pub abort_bytes : List ℕ
abort_bytes =
    (1 ∷ 0 ∷ 0 ∷ 108 ∷ 192 ∷ 0 ∷ 1 ∷ 18 ∷ 1 ∷ 0 ∷ 0 ∷ 20 ∷ 0 ∷ 0 ∷ 0 ∷ 7 ∷ 0 ∷ 0 ∷ 0 ∷ 8 ∷ [])
    ++ (0 ∷ 0 ∷ 1 ∷ 7 ∷ 64 ∷ 0 ∷ 0 ∷ 12 ∷ 97 ∷ 102 ∷ 59 ∷ 49 ∷ 0 ∷ 0 ∷ 1 ∷ 2 ∷ 64 ∷ 0 ∷ 0 ∷ 12 ∷ 1 ∷ 0 ∷ 0 ∷ 20 ∷ [])
    ++ (0 ∷ 0 ∷ 1 ∷ 8 ∷ 64 ∷ 0 ∷ 0 ∷ 10 ∷ 115 ∷ 48 ∷ 0 ∷ 0 ∷ 0 ∷ 0 ∷ 1 ∷ 40 ∷ 64 ∷ 0 ∷ 0 ∷ 9 ∷ 114 ∷ 0 ∷ 0 ∷ 0 ∷ [])
    ++ (0 ∷ 0 ∷ 1 ∷ 27 ∷ 64 ∷ 0 ∷ 0 ∷ 9 ∷ 114 ∷ 0 ∷ 0 ∷ 0 ∷ 0 ∷ 0 ∷ 1 ∷ 37 ∷ 64 ∷ 0 ∷ 0 ∷ 10 ∷ 97 ∷ 102 ∷ 0 ∷ 0 ∷ [])
    ++ (0 ∷ 0 ∷ 1 ∷ 244 ∷ 192 ∷ 0 ∷ 0 ∷ 16 ∷ 0 ∷ 0 ∷ 40 ∷ 175 ∷ 0 ∷ 0 ∷ 0 ∷ 0 ∷ [])
