use Rattle.std.proofs.Common.{◌≡◌, ℕ, ◌+◌, ◌≤◌, true, List, ◌++◌, map, Some, ap, sym, ◌∙◌, subst, arith}
use Rattle.std.proofs.lemmas.List.{append-nil}
use Rattle.pcrf_values.specs.Facts.{Fact}
use Rattle.pcrf_values.specs.Held.{kept_list, join_of}
use Rattle.pcrf_model.specs.Forms.{is_operation}
use Rattle.pcrf_model.specs.Holdings.{facts_on}
use Rattle.pcrf_model.specs.Operations.{Operation}
use Rattle.pcrf_model.specs.Sessions.{gx}
use Rattle.gx_records.specs.declared.fact.GxFact.{GxFact}
use Rattle.gx_records.specs.GxFacts.{fact_of}
use Rattle.gx_profile.specs.Requests.{ccr_view}
use Rattle.indexed_state.specs.Alike.{BringsNothing}
use Rattle.site_machine.specs.Facts.{operation_with}
use Rattle.site_machine.specs.Sites.{with_made}
use Rattle.site_machine.proofs.Formed.{made_formed, stamped}
use Rattle.site_machine.proofs.site.Site.refresh.Goals as goal

pub all_made-requires : goal.all_made-requires
all_made-requires g c =
    let s = c.args.self.now in
    let q = ccr_view c.args.ccr.now in
    let next = c.requires.next in
    let facts = map fact_of c.args.facts.items in
    let fields = ap (λ (none : List GxFact). facts ++ map fact_of none) c.new.ensures.items ∙ append-nil facts ∙ c.requires.fields in
    (λ i. is_operation (operation_with s.number c.args.counter q (fields i)))
    ∙ made_formed c.args.counter s.number q (stamped c.args.counter s.number (omega (arith, next)) c.requires.within c.note_number.ensures) c.note_ccr.ensures

pub add_refreshed-requires-clause-nothing : goal.add_refreshed-requires-clause-nothing
add_refreshed-requires-clause-nothing g c =
    let s = c.args.self.now in
    let q = ccr_view c.args.ccr.now in
    let own = facts_on s.state.holding.facts (gx q.session) in
    let facts = map fact_of c.args.facts.items in
    let fields = ap (λ (none : List GxFact). facts ++ map fact_of none) c.new.ensures.items ∙ append-nil facts ∙ c.requires.fields in
    subst (λ (fs : List Fact). BringsNothing s.tables s.state.holding (gx q.session) (join_of own (kept_list fs)))
    (sym fields ∙ sym (ap (λ (o : Operation). o.facts) c.in_ok-operation.ensures)) c.requires.nothing

pub returns-clause-ok : goal.returns-clause-ok
returns-clause-ok g c =
    let s = c.args.self.now in
    let q = ccr_view c.args.ccr.now in
    let facts = map fact_of c.args.facts.items in
    let fields = ap (λ (none : List GxFact). facts ++ map fact_of none) c.new.ensures.items ∙ append-nil facts ∙ c.requires.fields in
    c.in_ok-add_refreshed.ensures.ok
    ∙ ap (λ (o : Operation). with_made s (Some o)) c.in_ok-operation.ensures
    ∙ ap (λ (fs : List Fact). with_made s (Some (operation_with s.number c.args.counter q fs))) fields
