use Rattle.std.proofs.Common.{◌++◌, ◌∷◌, [], ap, ◌∙◌}
use Rattle.std.proofs.lemmas.List.{map-append}
use Rattle.std.proofs.lemmas.Iterator.Adapters.{YieldsList-from_vec}
use Rattle.std.proofs.lemmas.Iterator.Consumers.{YieldsList-so_far, YieldsList-turn}
use Rattle.std.proofs.lemmas.Result.{err_from_is_err_and}
use Rattle.dia_base.proofs.Refusals.{refusal_among_push}
use Rattle.rx_profile.proofs.RefusedBehind.{refused_behind}
use Rattle.rx_profile.proofs.component.each_from.Goals as goal

pub returns-in_err-from_raw-clause-refused : goal.returns-in_err-from_raw-clause-refused
returns-in_err-from_raw-clause-refused g c =
    let p = err_from_is_err_and c.from_residual-in_err-from_raw.result c.from_residual-in_err-from_raw.ensures.1 in
    let gives = c.into_iter-raw-iterator.ensures.into_iter_gives in
    let road = YieldsList-from_vec {s = c.into_iter-raw-iterator.result} c.args.raws.items gives.0 (gives.1 ∙ c.args.raws.ok.0) in
    let turn = YieldsList-turn road c.loop-raw.yielded c.loop-raw.raw-iterator c.loop-raw.yielded_by c.next.result c.next.new.self c.in-Some.raw c.in-Some.is c.next.ensures.steps in
    let front = YieldsList-so_far road c.loop-raw.yielded c.loop-raw.raw-iterator c.loop-raw.yielded_by in
    rw (p.1, p.2) (refused_behind g.X.FromRaw.refusal_of c.args.raws.items c.loop-raw.yielded c.in-Some.raw c.in_err-from_raw.field-0.0 front turn.0 turn.1 c.loop-raw.invariant.granted c.in_err-from_raw.ensures.refused)

pub loop-raw-preserved : goal.loop-raw-preserved
loop-raw-preserved g c =
    record {
      granted = refusal_among_push g.X.FromRaw.refusal_of c.loop-raw.yielded c.in-Some.raw c.loop-raw.invariant.granted c.in_ok-from_raw.ensures.accepted;
      made = rw (c.in_ok-push.ensures.items, c.in_ok-from_raw.ensures.made, map-append) (ap (λ front. front ++ g.X.FromRaw.of_raw c.in-Some.raw ∷ []) c.loop-raw.invariant.made);
    }
