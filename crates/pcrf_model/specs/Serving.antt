-- Serving: what a site replies to a request, and the operation that the request makes there.
use Rattle.std.specs.Prelude.{ℕ, [], ◌++◌, Option, Some, None}
use Rattle.std.proofs.Common.{option_map, unwrap_or}
use Rattle.pcrf_values.specs.RuleValues.{DeltaValue}
use Rattle.pcrf_values.specs.Results.{success}
use Rattle.pcrf_values.specs.declared.refusal.Refusal.{Refusal}
use Rattle.pcrf_values.specs.declared.numbers.RequestKind.{RequestKind}
use Rattle.pcrf_values.specs.declared.numbers.RequestKind.TheVariants.{Initial, Update, Termination}
use Rattle.pcrf_model.specs.Sessions.{Session, gx, af}
use Rattle.pcrf_model.specs.Holdings.{Holding, under}
use Rattle.pcrf_model.specs.Operations.{Operation, with_operation}
use Rattle.pcrf_model.specs.Views.{View, view}
use Rattle.pcrf_model.specs.Tables.{Tables}
use Rattle.pcrf_model.specs.Rules.{rules, quality_of}
use Rattle.pcrf_model.specs.Differences.{told_rules_of, difference, first}
use Rattle.pcrf_model.specs.Requests.{CcrValue, AarValue, StrValue, BaseValue, RequestValue, Ccr, Aar, Str, Base}
use Rattle.pcrf_model.specs.Replies.{Granted, Rejected, ReplyValue, OnGx, Done, Refused, OnBase, Outcome}
use Rattle.pcrf_model.specs.Making.{ccr_fields, told_facts, aar_facts, next_tag, next_operation, end_operation}
use Rattle.pcrf_model.specs.Refusals.{ccr_refusal, aar_refusal, str_refusal, base_refusal}

-- no names and no rules
abbrev pub empty_delta : DeltaValue
empty_delta = record { removed = []; installed = [] }

-- what the gateway is to be told of a session: the first entries of the difference, at most so many
abbrev pub delta_of : ℕ → Tables → View → Session → DeltaValue
delta_of most t v s = first most (difference (told_rules_of v s) (rules t v s))

-- An initial request or an update that is accepted: its fields, and what the gateway is told on the holding with these fields, at most so many
-- entries; the difference and the default quality of service that the session then shows are answered.
unfoldable pub provision_outcome : ℕ → Tables → ℕ → Holding → CcrValue → Outcome
provision_outcome most t i h q =
    let s : Session = gx q.session in
    let fields = ccr_fields q (next_tag i h q.number) in
    let v : View = view (h.facts ++ under s fields) in
    let d : DeltaValue = delta_of most t v s in
    record {
      reply = OnGx (Granted d (quality_of t v s));
      added = Some (next_operation i h q.number s (fields ++ told_facts (next_tag i h 0) d));
    }

-- a termination that is accepted: the end alone
abbrev pub termination_outcome : ℕ → Holding → CcrValue → Outcome
termination_outcome i h q = record { reply = OnGx (Granted empty_delta None); added = Some (end_operation i h q.number (gx q.session)) }

-- a credit control request that is accepted, by its type
abbrev pub accepted_ccr : ℕ → Tables → ℕ → Holding → CcrValue → RequestKind → Outcome
accepted_ccr most t i h q Initial = provision_outcome most t i h q
accepted_ccr most t i h q Update = provision_outcome most t i h q
accepted_ccr most t i h q Termination = termination_outcome i h q

-- an AA request that is accepted: what it describes
abbrev pub description_outcome : ℕ → Holding → AarValue → Outcome
description_outcome i h q = record { reply = Done; added = Some (next_operation i h 0 (af q.session) (aar_facts q (next_tag i h 0))) }

-- a session termination request that is accepted: the end alone
abbrev pub session_end_outcome : ℕ → Holding → StrValue → Outcome
session_end_outcome i h q = record { reply = Done; added = Some (end_operation i h 0 (af q.session)) }

-- refused, with nothing added, or accepted
abbrev pub refusal_or : (Refusal → ReplyValue) → Option Refusal → Outcome → Outcome
refusal_or as_reply None accepted = accepted
refusal_or as_reply (Some r) accepted = record { reply = as_reply r; added = None }

-- a credit control request
unfoldable pub serve_ccr : ℕ → Tables → ℕ → Holding → CcrValue → Outcome
serve_ccr most t i h q = refusal_or (λ r. OnGx (Rejected r)) (ccr_refusal t h q) (accepted_ccr most t i h q q.kind)

-- an AA request
unfoldable pub serve_aar : Tables → ℕ → Holding → AarValue → Outcome
serve_aar t i h q = refusal_or Refused (aar_refusal t i h q) (description_outcome i h q)

-- a session termination request
unfoldable pub serve_str : ℕ → Holding → StrValue → Outcome
serve_str i h q = refusal_or Refused (str_refusal h q) (session_end_outcome i h q)

-- a base request adds nothing
abbrev pub serve_base : BaseValue → Outcome
serve_base q = record { reply = OnBase (unwrap_or (option_map (λ (r : Refusal). r.code) (base_refusal q.kind)) success); added = None }

-- What site i, which holds h, replies and adds, telling at most so many entries of a difference; a refused request adds nothing.
abbrev pub serve : ℕ → Tables → ℕ → Holding → RequestValue → Outcome
serve most t i h (Ccr q) = serve_ccr most t i h q
serve most t i h (Aar q) = serve_aar t i h q
serve most t i h (Str q) = serve_str i h q
serve most t i h (Base q) = serve_base q

-- with the operation, if there is one
abbrev pub with_added : Holding → Option Operation → Holding
with_added h None = h
with_added h (Some o) = with_operation h o
