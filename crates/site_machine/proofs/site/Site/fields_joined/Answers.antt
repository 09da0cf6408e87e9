use Rattle.std.proofs.Common.{◌≡◌, List, IfOk, map, ap, sym, ◌∙◌, subst}
use Rattle.gx_records.specs.GxFacts.{fact_of}
use Rattle.pcrf_values.specs.Facts.{Fact}
use Rattle.pcrf_values.specs.Held.{kept_list, join_of}
use Rattle.pcrf_model.specs.Holdings.{facts_on}
use Rattle.pcrf_model.specs.Sessions.{gx}
use Rattle.gx_profile.specs.Requests.{ccr_view}
use Rattle.site_machine.proofs.PlacedRecord.{make_a_record}
use Rattle.site_machine.proofs.site.Site.fields_joined.Goals as goal

pub of_facts-requires : goal.of_facts-requires
of_facts-requires c = make_a_record c.args.self.now (ccr_view c.args.ccr.now) c.args.counter c.requires.within c.requires.next c.note_number.ensures c.note_ccr.ensures _ c.requires.fields

pub returns : goal.returns
returns c =
    let s = c.args.self.now in
    let own = facts_on s.state.holding.facts (gx (ccr_view c.args.ccr.now).session) in
    let made = c.in_ok-made.ensures ∙ ap kept_list c.requires.fields in
    subst (λ (one : List Fact). IfOk c.with_fields.result (λ known. known ≡ join_of own one)) made c.with_fields.ensures
