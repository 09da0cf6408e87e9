use Rattle.std.proofs.Common.{◌≡◌, ◌∙◌, sym, ap, refl, true, false, map}
use Rattle.std.specs.List.{list_any}
use Rattle.pcrf_values.proofs.Plain.{clash}
use Rattle.pcrf_values.specs.Facts.{position}
use Rattle.lattice_core.specs.Beneath.{beneath_of, removes}
use Rattle.lattice_core.specs.Orders.{last_before}
use Rattle.lattice_core.proofs.KeepLaws.{kept_more, past_last, none_before}
use Rattle.lattice_core.proofs.keeping.may_follow.Goals as goal

pub returns-then-not-is_past_last-clause-not_kept : goal.returns-then-not-is_past_last-clause-not_kept
returns-then-not-is_past_last-clause-not_kept g c _ kept =
    let fact = g.F.TypedFact.fact in
    let zs = map fact c.args.kept.now in
    let f = fact c.args.fact.now in
    clash (last_before (position f) zs) (past_last zs f kept) (sym c.is_past_last.ensures ∙ c.if-not-is_past_last.true)

pub returns-then-is_removed-clause-not_kept : goal.returns-then-is_removed-clause-not_kept
returns-then-is_removed-clause-not_kept g c _ kept =
    let fact = g.F.TypedFact.fact in
    let zs = map fact c.args.kept.now in
    let f = fact c.args.fact.now in
    let gone : list_any (removes (beneath_of f)) zs ≡ true = sym (ap (λ b. list_any (removes b) zs) c.beneath.ensures) ∙ sym c.is_removed.ensures ∙ c.if-is_removed.true in
    clash (list_any (removes (beneath_of f)) zs) gone (none_before zs f kept)

pub returns : goal.returns
returns g c =
    let fact = g.F.TypedFact.fact in
    let past : last_before (position (fact c.args.fact.now)) (map fact c.args.kept.now) ≡ true = sym c.is_past_last.ensures ∙ c.if-not-is_past_last.false in
    let stays : list_any (removes (beneath_of (fact c.args.fact.now))) (map fact c.args.kept.now) ≡ false = cc in
    record {
      kept = λ _. kept_more (map fact c.args.kept.now) (fact c.args.fact.now) c.requires past stays;
      not_kept = λ e. clash true refl e;
    }
