-- Scenes at the edges of the definitions: several due sessions, the last counter, removed flows, ended sessions, full letters.
use Rattle.std.specs.Prelude.{ℕ, List, [], ◌∷◌, Option, Some, None, Ok, Err, codes, replicate}
use Rattle.std.proofs.Common.{option_map}
use Rattle.pcrf_values.specs.declared.numbers.RequestKind.TheVariants.{Initial, Update}
use Rattle.pcrf_values.specs.Places.{OfRuleName}
use Rattle.pcrf_values.specs.Values.{Value}
use Rattle.pcrf_values.specs.Facts.{Field}
use Rattle.pcrf_values.specs.Limits.{delta_limit}
use Rattle.pcrf_model.specs.Holdings.{SessionFact}
use Rattle.pcrf_model.specs.Requests.{ComponentValue, RequestValue, Ccr, Aar}
use Rattle.pcrf_model.specs.Replies.{ReplyValue, Own, Pushed, Done}
use Rattle.pcrf_model.specs.Pushing.{push}
use Rattle.pcrf_model.specs.Steps.{SiteState}
use Rattle.pcrf_model.specs.Letters.{LetterValue}
use Rattle.pcrf_model.specs.Cursors.{start_cursors, letter_of}
use Rattle.pcrf_model.specs.Worlds.{WorldEvent, ServeAt, Letter, Merge, Restart, Replied, Lettered, Merged, Restarted, NoMemory, WorldAnswer, WorldTook, start, WholeLogs, after_all}
use Rattle.pcrf_model.specs.Letterbox.{writing}
use Rattle.pcrf_model.specs.Samples.{user_with, request, operator, imsi, e164, first_session, second_session, host_address, initial, update, call, hang_up, audio, sip_rule}
use Rattle.pcrf_model.specs.Scenes.{serves, one, with_call, call_pushed, last_operation}

-- ---- two gateways, each with a call that it was not told of

-- an initial request of the second session by another gateway
abbrev pub from_other_gateway : RequestValue
from_other_gateway = Ccr (record {
  session = second_session.id;
  host = codes "gw2";
  realm = codes "r";
  kind = Initial;
  number = 0;
  user = user_with (Some (host_address 2)) (Some (codes "ims")) (Some (e164 ∷ imsi ∷ []));
})

-- a call of another application session from the address of that session
abbrev pub other_call : RequestValue
other_call = Aar (record {
  session = codes "af;2";
  host = codes "af";
  realm = codes "r";
  user = user_with (Some (host_address 2)) None None;
  components = audio ∷ [];
})

-- both sessions, and both calls
abbrev pub two_due : SiteState
two_due = serves 0 (serves 0 with_call from_other_gateway) other_call

-- the session to whose gateway site 0 pushes, by host
abbrev pub pushed_session : Option (List ℕ) → Option (List ℕ)
pushed_session name = session_in (push delta_limit operator 0 two_due.holding name).reply
  where
    session_in : ReplyValue → Option (List ℕ)
    session_in (Pushed p) = option_map (λ x. x.session) p
    session_in r = None

-- ---- one flow of two removed

-- the component again, with its first flow and that Flow-Status
abbrev pub flow_status : ℕ → ComponentValue
flow_status s = record {
  number = 1;
  media = None;
  status = None;
  rate_up = None;
  rate_down = None;
  flows = record { number = 1; filters = None; usage = None; status = Some s; rate_up = None; rate_down = None } ∷ [];
}

-- its flow is removed
abbrev pub flow_removed : SiteState
flow_removed = serves 0 call_pushed (call None (flow_status 4 ∷ []))

-- and described again
abbrev pub flow_described_again : SiteState
flow_described_again = serves 0 flow_removed (call None (audio ∷ []))

-- ---- updates of the access point

-- an update of the first session under that number, to that access point
abbrev pub update_to : ℕ → List ℕ → RequestValue
update_to n name = request first_session Update n (user_with None (Some name) None)

-- the session moved to an access point without a default
abbrev pub moved_access_point : SiteState
moved_access_point = serves 0 one (update_to 5 (codes "net"))

-- ---- ended sessions

-- the call ended
abbrev pub call_ended : SiteState
call_ended = serves 0 with_call hang_up

-- ---- equal tags

-- what was told of a rule's name under the one tag
abbrev pub told_as : Value → SessionFact
told_as v = (first_session, Field (OfRuleName sip_rule.name) (record { number = 0; counter = 1; site = 0 }) v)

-- ---- letters

-- the reply of so many operations
abbrev pub own_of : ℕ → ReplyValue
own_of n = Own (replicate n last_operation) n

-- a letter of so many operations, from the first one on
abbrev pub letter_of_many : ℕ → Option LetterValue
letter_of_many n = letter_of (start_cursors 0 1) operator.edition 0 (own_of n)

-- site 0 serves twice, makes a letter, starts again, serves another request and makes another letter; site 1 takes both
abbrev pub two_epochs : List WorldEvent
two_epochs =
    ServeAt 0 (initial first_session (host_address 1)) ∷ ServeAt 0 (update 1 None) ∷ Letter 0 1 ∷ Restart 0
    ∷ ServeAt 0 (initial second_session (host_address 2)) ∷ Letter 0 1 ∷ Merge 1 0 ∷ Merge 1 1 ∷ []

-- with these answers to the last two
abbrev pub two_epochs_answered : WorldAnswer → WorldAnswer → WorldTook
two_epochs_answered older newer =
    after_all (writing WholeLogs) (start 2) two_epochs
    (Ok (Replied Done) ∷ Ok (Replied Done) ∷ Ok (Lettered 0) ∷ Ok (Restarted 2) ∷ Ok (Replied Done) ∷ Ok (Lettered 1) ∷ older ∷ newer ∷ [])

-- both letters whole
abbrev pub both_epochs : WorldTook
both_epochs = two_epochs_answered (Ok Merged) (Ok Merged)

-- memory ran out past the first operation of the older letter
abbrev pub first_of_older : WorldTook
first_of_older = two_epochs_answered (Err (NoMemory 1)) (Ok Merged)
