use Rattle.std.proofs.Common.{ℕ, List, Vec, Global, Result, Bor, IfOk, ap, ◌∙◌, subst}
use Rattle.std.specs.List.{AllZip}
use Rattle.std.specs.declared.alloc.AllocError.{AllocError}
use Rattle.std.proofs.lemmas.Result.{IfOk-weaker}
use Rattle.pcrf_values.specs.RuleValues.{RuleValue}
use Rattle.pcrf_model.specs.Tables.{Tables}
use Rattle.pcrf_model.specs.Views.{View, view}
use Rattle.rayon.proofs.ListFacts.{AllZip-weaken}
use Rattle.rayon.proofs.ToStd.{slice-AllZip}
use Rattle.bind_index.specs.Index.{IndexValue, Covers}
use Rattle.pcc_rules.specs.Many.{AreRulesOf, IsRulesOf}
use Rattle.pcc_rules.proofs.Collected.{collected}
use Rattle.pcc_rules.proofs.many.derive_many_by.Goals as goal

-- what is given of each session
abbrev IsRulesBy : Tables → View → IndexValue → List ℕ → Vec RuleValue Global → Type 0
IsRulesBy t v index id made = Covers v index → IsRulesOf t v id made

pub returns : goal.returns
returns g c =
    let t = c.args.tables.now in
    let v = view c.args.state.now.facts in
    let index = c.args.index.now in
    let ids = c.args.sessions.now in
    let h = c.in_ok-collect.ensures in
    let shown = ap (λ it. it.base.slice.now) c.map.ensures.base ∙ ap (λ it. it.slice.now) c.with_min_len.ensures.base ∙ c.par_iter.ensures in
    let answered : AllZip (λ (z : Bor (List ℕ)) (q : Result (Vec RuleValue Global) AllocError). IfOk q (IsRulesBy t v index z.now)) h.1.0 h.0
    = subst (λ f. AllZip (λ (z : Bor (List ℕ)) (q : Result (Vec RuleValue Global) AllocError). IfOk q (IsRulesBy f.1.now (view f.2.now.facts) f.3.now z.now)) h.1.0 h.0) c.map.ensures.f h.1.2 in
    IfOk-weaker c.in_ok-collect.field-0 (λ made. AllZip (IsRulesBy t v index) ids made.items) (λ made. Covers v index → AreRulesOf t v ids made.items)
    (λ made all covers. AllZip-weaken (IsRulesBy t v index) (IsRulesOf t v) (λ x y e. e covers) ids made.items all)
    (collected AllocError (IsRulesBy t v index) ids c.in_ok-collect.field-0 h.0
    (slice-AllZip h.1.0 ids (h.1.1 ∙ shown) (λ x (q : Result (Vec RuleValue Global) AllocError). IfOk q (IsRulesBy t v index x)) h.0 answered) h.2)
