use Rattle.std.proofs.Common.{ℕ, List, Vec, Global, Result, Bor, IfOk, ap, ◌∙◌, subst}
use Rattle.std.specs.List.{AllZip}
use Rattle.std.specs.declared.alloc.AllocError.{AllocError}
use Rattle.pcrf_values.specs.RuleValues.{RuleValue}
use Rattle.pcrf_model.specs.Views.{view}
use Rattle.rayon.proofs.ToStd.{slice-AllZip}
use Rattle.pcc_rules.specs.Many.{IsRulesOf}
use Rattle.pcc_rules.proofs.Collected.{collected}
use Rattle.pcc_rules.proofs.many.derive_many.Goals as goal

pub returns : goal.returns
returns g c =
    let ids = c.args.sessions.now in
    let h = c.in_ok-collect.ensures in
    let shown = ap (λ it. it.base.slice.now) c.map.ensures.base ∙ ap (λ it. it.slice.now) c.with_min_len.ensures.base ∙ c.par_iter.ensures in
    let answered : AllZip (λ (z : Bor (List ℕ)) (q : Result (Vec RuleValue Global) AllocError). IfOk q (IsRulesOf c.args.tables.now (view c.args.state.now.facts) z.now)) h.1.0 h.0
    = subst (λ f. AllZip (λ (z : Bor (List ℕ)) (q : Result (Vec RuleValue Global) AllocError). IfOk q (IsRulesOf f.1.now (view f.2.now.facts) z.now)) h.1.0 h.0) c.map.ensures.f h.1.2 in
    collected AllocError (IsRulesOf c.args.tables.now (view c.args.state.now.facts)) ids c.in_ok-collect.field-0 h.0
    (slice-AllZip h.1.0 ids (h.1.1 ∙ shown) (λ x (q : Result (Vec RuleValue Global) AllocError). IfOk q (IsRulesOf c.args.tables.now (view c.args.state.now.facts) x)) h.0 answered) h.2
