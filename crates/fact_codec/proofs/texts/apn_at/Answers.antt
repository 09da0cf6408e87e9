use Rattle.std.proofs.Common.{◌≡◌, ◌∙◌, sym, ap, rules, append_assoc}
use Rattle.std.specs.Ordering.{is_eq}
use Rattle.pcrf_values.specs.Orders.{text_cmp}
use Rattle.pcrf_values.proofs.OrderLaws.{eq_is, text_ranked}
use Rattle.fact_codec.proofs.texts.apn_at.Goals as goal

pub returns-clause-spelled : goal.returns-clause-spelled
returns-clause-spelled c =
    let passed = c.is_eq.ensures ∙ ap is_eq (c.cmp.ensures ∙ ap (λ s. text_cmp s c.in_ok-text.text.now) c.as_slice.ensures.bytes) in
    let same : c.in-Some.apn ≡ c.in_ok-text.text.now = eq_is text_ranked c.in-Some.apn c.in_ok-text.text.now (sym passed ∙ c.if-not-is_eq.false) in
    rw same (search (rules, append_assoc))
