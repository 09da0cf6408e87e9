-- What is not of the form: one sample for each thing that the form asks.
use Rattle.std.specs.Prelude.{ℕ, List, [], ◌∷◌, map, Some, None, codes}
use Rattle.pcrf_values.specs.declared.tag.Tag.{Tag}
use Rattle.pcrf_values.specs.declared.numbers.RequestKind.TheVariants.{Update}
use Rattle.pcrf_values.specs.Places.{MediaType, OfComponent, OfRuleName, address}
use Rattle.pcrf_values.specs.Values.{Subscriber, Number, Address, Told}
use Rattle.pcrf_values.specs.Facts.{Fact, End, Field}
use Rattle.pcrf_model.specs.Sessions.{Session}
use Rattle.pcrf_model.specs.Holdings.{Holding}
use Rattle.pcrf_model.specs.Operations.{Operation}
use Rattle.pcrf_model.specs.Tables.{Tables}
use Rattle.pcrf_model.specs.Requests.{RequestValue}
use Rattle.pcrf_model.specs.Samples.{user_with, request, signalling_class, operator, imsi, e164, first_session, call_session, host_address, call, status_only, sip_rule}

-- ---- requests and tables

-- an update that names that access point and those subscribers
abbrev pub update_naming : List ℕ → List Subscriber → RequestValue
update_naming n ids = request first_session Update 1 (user_with None (Some n) (Some ids))

-- an access point in capitals
abbrev pub in_capitals : RequestValue
in_capitals = update_naming (codes "IMS") (imsi ∷ [])

-- subscribers out of order
abbrev pub out_of_order : RequestValue
out_of_order = update_naming (codes "ims") (imsi ∷ e164 ∷ [])

-- one component twice
abbrev pub one_component_twice : RequestValue
one_component_twice = call None (status_only 2 ∷ status_only 3 ∷ [])

-- a Flow-Status past REMOVED
abbrev pub unknown_status : RequestValue
unknown_status = call None (status_only 5 ∷ [])

-- a QCI that TS 29.212 does not have
abbrev pub no_such_qci : Tables
no_such_qci = record operator { signalling = record signalling_class { qci = 0 } }

-- ---- operations

-- the tag of the first operation of site 0, with that number
abbrev pub first_tag : ℕ → Tag
first_tag n = record { number = n; counter = 1; site = 0 }

-- the first operation of site 0, with that number, on the session
abbrev pub first_operation : ℕ → Session → List Fact → Operation
first_operation n s facts = record { counter = 1; site = 0; number = n; session = s; facts = facts }

-- an address
abbrev pub addressed : Fact
addressed = Field address (first_tag 0) (Address (host_address 1))

-- without facts
abbrev pub without_facts : Operation
without_facts = first_operation 0 first_session []

-- the end with a fact that it overshadows
abbrev pub end_and_more : Operation
end_and_more = first_operation 0 first_session (End ∷ addressed ∷ [])

-- two values at one place
abbrev pub two_at_one_place : Operation
two_at_one_place = first_operation 0 first_session (addressed ∷ Field address (first_tag 0) (Address (host_address 2)) ∷ [])

-- a tag of another number
abbrev pub other_number : Operation
other_number = first_operation 3 first_session (addressed ∷ [])

-- a component of a gateway's session
abbrev pub component_of_gateway : Operation
component_of_gateway = first_operation 0 first_session (Field (OfComponent 1 MediaType) (first_tag 0) (Number 0) ∷ [])

-- a rule told to an application function
abbrev pub told_to_function : Operation
told_to_function = first_operation 0 call_session (Field (OfRuleName (codes "op/sip")) (first_tag 0) (Told sip_rule) ∷ [])

-- a rule told under another name
abbrev pub told_as_another : Operation
told_as_another = first_operation 0 first_session (Field (OfRuleName (codes "op/web")) (first_tag 0) (Told sip_rule) ∷ [])

-- a stamp of a site past the last
abbrev pub unknown_site : Operation
unknown_site = record (first_operation 0 first_session (End ∷ [])) { site = 16 }

-- ---- holdings

-- facts of the first session
abbrev pub holding_with : List Fact → ℕ → Holding
holding_with facts clock = record { facts = map (λ f. (first_session, f)) facts; clock = clock }
