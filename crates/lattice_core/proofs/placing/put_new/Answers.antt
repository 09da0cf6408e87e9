use Rattle.std.proofs.Common.{◌≡◌, ◌∙◌, map, true, false, refl, arith, Result, Ok, Err, if◌then◌else◌, IsOk}
use Rattle.std.specs.Result.{is_ok}
use Rattle.std.specs.List.{list_any}
use Rattle.lattice_core.specs.Beneath.{beneath_of, removes}
use Rattle.lattice_core.proofs.PutLaws.{put_new, put_gone}
use Rattle.lattice_core.proofs.placing.put_new.Goals as goal

-- what stands where a call succeeds
at_ok : {T E A : Type 0} (r : Result T E) (a b : A) → IsOk r → (if is_ok r then a else b) ≡ a
at_ok (Ok x) a b h = refl
at_ok (Err e) a b h = grind arith

pub returns-then-is_removed-clause-joins : goal.returns-then-is_removed-clause-joins
returns-then-is_removed-clause-joins g c =
    let fact = g.F.TypedFact.fact in
    let gone : list_any (removes (beneath_of (fact c.args.fact))) (map fact c.args.kept.now.items) ≡ true = cc in
    put_gone fact c.args.kept.now.items c.args.at c.args.fact c.requires.gap c.requires.held gone

pub returns-clause-joins : goal.returns-clause-joins
returns-clause-joins g c =
    let fact = g.F.TypedFact.fact in
    let stays : list_any (removes (beneath_of (fact c.args.fact))) (map fact c.args.kept.now.items) ≡ false = cc in
    put_new fact c.args.kept.now.items c.insert.new.self.items c.args.at c.args.fact
    (c.insert.ensures.items ∙ at_ok c.insert.result _ _ (c.insert.ensures.succeeds c.requires.room))
    c.requires.field c.requires.gap c.requires.held stays
