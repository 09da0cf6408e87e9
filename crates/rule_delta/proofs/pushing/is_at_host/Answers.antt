use Rattle.std.proofs.Common.{ℕ, false, List, Option, sym, ap, ◌∙◌, option_map, option_and_then, unwrap_or}
use Rattle.std.specs.Option.{option_copied}
use Rattle.std.specs.Ordering.{is_eq}
use Rattle.std.proofs.lemmas.Map.Text.{is_eq-slice_cmp}
use Rattle.pcrf_values.specs.Orders.{text_cmp}
use Rattle.pcrf_values.specs.Values.{Entry}
use Rattle.pcrf_model.specs.Views.{as_text}
use Rattle.rule_delta.specs.ByRecord.{is_at_host}
use Rattle.rule_delta.proofs.pushing.is_at_host.Goals as goal

pub returns-in-Some-host : goal.returns-in-Some-host
returns-in-Some-host c =
    let wanted = c.in-Some.wanted.now in
    c.eq.ensures
    ∙ sym (is_eq-slice_cmp c.as_slice.result.now wanted)
    ∙ ap (λ (x : List ℕ). is_eq (text_cmp x wanted)) (c.as_slice.ensures.items)
    ∙ ap (λ (o : Option Entry). unwrap_or (option_map (λ (x : List ℕ). is_eq (text_cmp x wanted)) (option_and_then as_text (option_map (λ (e : Entry). e.1) o))) false) c.in-Some-host.ensures
    ∙ sym (ap (λ h. is_at_host (option_copied h) c.args.known.now) c.in-Some.is)
