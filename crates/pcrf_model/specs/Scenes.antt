-- What the sites of the worked examples went through.
use Rattle.std.specs.Prelude.{ℕ, false, List, [], ◌∷◌, Option, Some, None, codes, length, slice_get}
use Rattle.std.proofs.Common.{option_map}
use Rattle.pcrf_values.specs.declared.tag.Tag.{Tag}
use Rattle.pcrf_values.specs.declared.refusal.Refusal.{Refusal}
use Rattle.pcrf_values.specs.RuleValues.{DeltaValue}
use Rattle.pcrf_values.specs.Limits.{last_counter, delta_limit}
use Rattle.pcrf_values.specs.Places.{FramedIpAddress, CalledStationId, SubscriptionIds, OriginHost, OriginRealm, RequestType, MediaType, ComponentRateUp, ComponentRateDown, FlowDescriptions, FlowUsage, FlowStatus, OfSession, OfComponent, OfFlow, address}
use Rattle.pcrf_values.specs.Values.{Number, Text, Subscribers, Filters, Address}
use Rattle.pcrf_values.specs.Facts.{Field}
use Rattle.pcrf_model.specs.Holdings.{nothing_held, union}
use Rattle.pcrf_model.specs.Operations.{Operation, holding_of}
use Rattle.pcrf_model.specs.Views.{View, view}
use Rattle.pcrf_model.specs.Requests.{RequestValue}
use Rattle.pcrf_model.specs.Replies.{PushValue, ReplyValue, OnGx, Pushed, Granted, Rejected}
use Rattle.pcrf_model.specs.Serving.{serve}
use Rattle.pcrf_model.specs.Pushing.{push}
use Rattle.pcrf_model.specs.SiteOverviews.{GxShown, AfShown}
use Rattle.pcrf_model.specs.Steps.{SiteState, with_own}
use Rattle.pcrf_model.specs.Samples.{imsi, e164, sip_rule, uplink, any_to_any, operator, first_session, second_session, host_address, initial, update, termination, call, hang_up, audio, no_media, status_only, many_flows, ims_quality}

-- ---- one step of a site

-- a site that took nothing
abbrev pub empty_site : SiteState
empty_site = record { holding = nothing_held; log = [] }

-- what site i answers
abbrev pub answers : ℕ → SiteState → RequestValue → ReplyValue
answers i s q = (serve delta_limit operator i s.holding q).reply

-- site i after the request
abbrev pub serves : ℕ → SiteState → RequestValue → SiteState
serves i s q = with_own s (serve delta_limit operator i s.holding q).added

-- what site i pushes to any host
abbrev pub pushes : ℕ → SiteState → ReplyValue
pushes i s = (push delta_limit operator i s.holding None).reply

-- site i after the push
abbrev pub pushed : ℕ → SiteState → SiteState
pushed i s = with_own s (push delta_limit operator i s.holding None).added

-- with operations of another site
abbrev pub taking : SiteState → List Operation → SiteState
taking s os = record s { holding = union s.holding (holding_of os) }

-- what the site reads
abbrev pub seen : SiteState → View
seen s = view s.holding.facts

-- granted, with the default quality of service
abbrev pub granted : DeltaValue → ReplyValue
granted d = OnGx (Granted d (Some ims_quality))

-- a credit control request refused
abbrev pub rejected : Refusal → ReplyValue
rejected r = OnGx (Rejected r)

-- a push to the gateway of the first session
abbrev pub push_of : DeltaValue → ReplyValue
push_of d = Pushed (Some (record { session = first_session.id; host = codes "gw"; realm = codes "r"; delta = d }))

-- nothing is pushed
abbrev pub no_push : ReplyValue
no_push = Pushed None

-- how many rules are installed by a push
abbrev pub count_installed : ReplyValue → Option ℕ
count_installed (Pushed p) = option_map (λ (x : PushValue). length x.delta.installed) p
count_installed r = None

-- the counter of the first operation that the site made
abbrev pub first_counter : SiteState → Option ℕ
first_counter s = option_map (λ (o : Operation). o.counter) (slice_get s.log 0)

-- ---- the first session at site 0, and its call

-- the first session
abbrev pub one : SiteState
one = serves 0 empty_site (initial first_session (host_address 1))

-- and the same request again
abbrev pub repeated : SiteState
repeated = serves 0 one (initial first_session (host_address 1))

-- and its call
abbrev pub with_call : SiteState
with_call = serves 0 one (call (Some (host_address 1)) (audio ∷ []))

-- or a call with a signalling flow
abbrev pub with_signalling : SiteState
with_signalling = serves 0 one (call (Some (host_address 1)) (no_media ∷ audio ∷ []))

-- whose rules are pushed
abbrev pub call_pushed : SiteState
call_pushed = pushed 0 with_call

-- the component's status is changed alone
abbrev pub disabled : SiteState
disabled = serves 0 call_pushed (call None (status_only 3 ∷ []))

-- the component is removed
abbrev pub component_removed : SiteState
component_removed = serves 0 call_pushed (call None (status_only 4 ∷ []))

-- after that push the component is described again
abbrev pub described_again : SiteState
described_again = serves 0 (pushed 0 component_removed) (call None (audio ∷ []))

-- ---- another session of the same address

-- a second session of the same address
abbrev pub two_sessions : SiteState
two_sessions = serves 0 one (initial second_session (host_address 1))

-- and a call
abbrev pub bound_to_second : SiteState
bound_to_second = serves 0 two_sessions (call (Some (host_address 1)) [])

-- the second session ends
abbrev pub second_ended : SiteState
second_ended = serves 0 bound_to_second (termination second_session 1)

-- two sessions under equal stamps, for the site restarted in between and took its own letter
abbrev pub equal_stamps : SiteState
equal_stamps = serves 0 (taking (serves 0 empty_site (initial second_session (host_address 1))) one.log) (call (Some (host_address 1)) [])

-- ---- the first session ends under its call
-- the first session ends while its call lasts
abbrev pub ended_under_call : SiteState
ended_under_call = serves 0 with_call (termination first_session 1)

-- ---- updates out of order

-- an update with a greater number
abbrev pub updated : SiteState
updated = serves 0 one (update 2 (Some (host_address 2)))

-- and one with a number between
abbrev pub updated_late : SiteState
updated_late = serves 0 updated (update 1 (Some (host_address 3)))

-- two updates, of which the later has the lower number
abbrev pub overshadowed : SiteState
overshadowed = serves 0 (serves 0 one (update 5 None)) (update 4 None)

-- ---- two sites

-- site 1 took what the first session made
abbrev pub other : SiteState
other = taking empty_site one.log

-- and serves an update
abbrev pub other_updated : SiteState
other_updated = serves 1 other (update 9 None)

-- meanwhile the session ends at site 0
abbrev pub ended_there : SiteState
ended_there = serves 0 one (termination first_session 3)

-- which then takes the update
abbrev pub ended_and_told : SiteState
ended_and_told = taking ended_there other_updated.log

-- site 1 serves an update whose number is 1
abbrev pub moved : SiteState
moved = serves 1 other (update 1 None)

-- the call ends at site 0
abbrev pub hung_up : SiteState
hung_up = serves 0 call_pushed hang_up

-- site 0 in the end
abbrev pub first_after_hang_up : SiteState
first_after_hang_up = taking hung_up moved.log

-- site 1 in the end
abbrev pub other_after_hang_up : SiteState
other_after_hang_up = taking moved hung_up.log

-- the call is served at site 1, which took what the first session made
abbrev pub call_elsewhere : SiteState
call_elsewhere = serves 1 other (call (Some (host_address 1)) (audio ∷ []))

-- site 2 took the call, and not its session
abbrev pub call_alone : SiteState
call_alone = taking empty_site call_elsewhere.log

-- and the session then
abbrev pub call_and_session : SiteState
call_and_session = taking call_alone one.log

-- ---- equal stamps with different contents

-- site 0 began again, and serves the same session from another address
abbrev pub after_restart : SiteState
after_restart = serves 0 empty_site (initial first_session (host_address 9))

-- a site that takes the older operation first, each twice
abbrev pub older_first : SiteState
older_first = taking (taking (taking (taking empty_site one.log) one.log) after_restart.log) after_restart.log

-- a site that takes the newer one first, each twice
abbrev pub newer_first : SiteState
newer_first = taking (taking (taking (taking empty_site after_restart.log) after_restart.log) one.log) one.log

-- ---- the last counter

-- an operation under the last counter
abbrev pub last_operation : Operation
last_operation =
    let t : Tag = record { number = 0; counter = last_counter; site = 1 } in
    record { counter = last_counter; site = 1; number = 0; session = second_session; facts = Field address t (Address (host_address 2)) ∷ [] }

-- site 0 took it
abbrev pub at_the_end : SiteState
at_the_end = taking one (last_operation ∷ [])

-- and so with a call
abbrev pub call_at_the_end : SiteState
call_at_the_end = taking with_call (last_operation ∷ [])

-- ---- more rules than a message carries

-- a call of fifty flows
abbrev pub many_rules : SiteState
many_rules = serves 0 one (call (Some (host_address 1)) (many_flows 50 ∷ []))

-- after a push
abbrev pub first_forty : SiteState
first_forty = pushed 0 many_rules

-- after another
abbrev pub all_fifty : SiteState
all_fifty = pushed 0 first_forty

-- ---- what an operator sees

-- the first session, live at site 0
abbrev pub live_first : GxShown
live_first = record {
  fields =
      (OfSession FramedIpAddress, Address (host_address 1)) ∷ (OfSession CalledStationId, Text (codes "ims")) ∷ (OfSession SubscriptionIds, Subscribers (e164 ∷ imsi ∷ []))
      ∷ (OfSession OriginHost, Text (codes "gw")) ∷ (OfSession OriginRealm, Text (codes "r")) ∷ (OfSession RequestType, Number 1) ∷ [];
  home = Some 0;
  rules = sip_rule ∷ [];
  told = (codes "op/sip", sip_rule) ∷ [];
}

-- the call, bound to none: its fields, those of its component, those of its flows
abbrev pub live_call : AfShown
live_call = record {
  fields =
      (OfSession FramedIpAddress, Address (host_address 1)) ∷ (OfSession OriginHost, Text (codes "af")) ∷ (OfSession OriginRealm, Text (codes "r")) ∷ (OfSession RequestType, Number 0)
      ∷ (OfComponent 1 MediaType, Number 0) ∷ (OfComponent 1 ComponentRateUp, Number 41000) ∷ (OfComponent 1 ComponentRateDown, Number 80000)
      ∷ (OfFlow 1 1 FlowDescriptions, Filters (uplink ∷ any_to_any ∷ [])) ∷ (OfFlow 1 2 FlowDescriptions, Filters (uplink ∷ [])) ∷ (OfFlow 1 2 FlowUsage, Number 1)
      ∷ (OfFlow 1 2 FlowStatus, Number 2) ∷ [];
  binding = None;
  aborted = false;
}
