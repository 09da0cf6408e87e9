-- What the definitions give to an accepted request that brings nothing new: it is granted, and its gateway is told nothing.
use Rattle.std.proofs.Common.{◌≡◌, ℕ, ◌+◌, max, true, List, ◌++◌, Option, Some, refl, sym, ap, ◌∙◌, option_and_then}
use Rattle.std.proofs.lemmas.List.{append-nil}
use Rattle.pcrf_values.specs.Limits.{delta_limit}
use Rattle.pcrf_values.specs.Facts.{Fact}
use Rattle.pcrf_values.specs.Held.{kept_list, join_of}
use Rattle.pcrf_values.specs.Values.{Value}
use Rattle.pcrf_model.specs.Holdings.{Holding, facts_on, kept_of}
use Rattle.pcrf_model.specs.Laws.{DifferInOne}
use Rattle.pcrf_model.specs.Operations.{Operation, with_operation}
use Rattle.pcrf_model.specs.Replies.{OnGx, Granted}
use Rattle.pcrf_model.specs.Requests.{CcrValue}
use Rattle.pcrf_model.specs.Rules.{rules}
use Rattle.pcrf_model.specs.Serving.{delta_of, empty_delta, provision_outcome}
use Rattle.pcrf_model.specs.Sessions.{gx}
use Rattle.pcrf_model.specs.Tables.{ApnRow, Tables, apn_row}
use Rattle.pcrf_model.specs.Views.{as_text, view}
use Rattle.pcrf_model.proofs.TakingLaws.{taking_changes_one}
use Rattle.indexed_state.specs.Alike.{BringsNothing, ShowAlike}
use Rattle.indexed_state.proofs.NothingNew.{nothing_told, rules_stay}
use Rattle.indexed_state.proofs.PlacedRecord.{put_known}
use Rattle.site_machine.specs.Facts.{fields_of, opens, operation_made, operation_told, operation_with}
use Rattle.site_machine.specs.Sites.{SiteValue}
use Rattle.site_machine.specs.Replies.{quality_shown}
use Rattle.site_machine.proofs.Replies.{provisioned_is, quality_is}

-- the operation of the fields alone
pub fields_alone : (site counter : ℕ) (q : CcrValue) → operation_told site counter q q.kind empty_delta ≡ operation_made site counter q q.kind
fields_alone site counter q = ap (operation_with site counter q) (append-nil (fields_of site counter q q.kind))

-- the quality of service stays where the same access point shows
pub same_quality : (t : Tables) (own known : List Fact) → ShowAlike own known → quality_shown t own ≡ quality_shown t known
same_quality t own known alike = ap (λ (shown : Option Value). option_and_then (λ (r : ApnRow). r.default) (option_and_then (apn_row t) (option_and_then as_text shown))) alike.at_apn

module _ (s : SiteValue) (q : CcrValue) (opening : opens q.kind ≡ true) (kept : kept_of s.state.holding ≡ s.state.holding) (known : List Fact)
    (joins : known ≡ join_of (facts_on s.state.holding.facts (gx q.session)) (kept_list (fields_of s.number (s.state.holding.clock + 1) q q.kind)))
    (nothing : BringsNothing s.tables s.state.holding (gx q.session) known) where
  -- what is held
  abbrev h : Holding
  h = s.state.holding

  -- the operation of the fields
  abbrev made : Operation
  made = operation_made s.number (s.state.holding.clock + 1) q q.kind

  -- what is held with it
  abbrev k : Holding
  k = kept_of (with_operation s.state.holding made)

  -- the record is what is known then
  there : known ≡ facts_on k.facts (gx q.session)
  there = put_known h made kept (max h.clock made.counter) refl (gx q.session) refl known joins

  -- and no other session's is another
  differs : DifferInOne h.facts k.facts (gx q.session)
  differs = taking_changes_one h made kept

  -- the rules are those that were
  pub same_rules : rules s.tables (view h.facts) (gx q.session) ≡ rules s.tables (view k.facts) (gx q.session)
  same_rules = rules_stay s.tables h k q.session known there differs nothing

  -- so this is what the request gives
  pub refreshed_is : provision_outcome delta_limit s.tables s.number h q ≡ record { reply = OnGx (Granted empty_delta (quality_shown s.tables known)); added = Some made }
  refreshed_is =
      let none : delta_of delta_limit s.tables (view k.facts) (gx q.session) ≡ empty_delta = nothing_told s.tables h k q.session known there differs nothing delta_limit in
      let quality = quality_is s.tables k.facts (gx q.session) ∙ ap (quality_shown s.tables) (sym there) in
      let alone = fields_alone s.number (h.clock + 1) q in
      provisioned_is s.tables s.number h q q.kind opening
      ∙ (λ i. record { reply = OnGx (Granted (none i) (quality i)); added = Some (operation_told s.number (h.clock + 1) q q.kind (none i)) })
      ∙ (λ i. record { reply = OnGx (Granted empty_delta (quality_shown s.tables known)); added = Some (alone i) })
