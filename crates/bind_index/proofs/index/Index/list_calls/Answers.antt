use Rattle.std.proofs.Common.{subst}
use Rattle.site_join.specs.States.{Records}
use Rattle.bind_index.specs.Index.{ListsCall}
use Rattle.bind_index.proofs.Covering.{grows_through}
use Rattle.bind_index.proofs.Records.{EachLeft, each_next, call_grows}
use Rattle.bind_index.proofs.index.Index.list_calls.Goals as goal

pub returns-in_err-cover_call-clause-grows : goal.returns-in_err-cover_call-clause-grows
returns-in_err-cover_call-clause-grows c = grows_through _ _ _ c.loop-id.invariant.grows c.cover_call.ensures.grows

pub loop-id-preserved : goal.loop-id-preserved
loop-id-preserved c = record {
  grows = grows_through _ _ _ c.loop-id.invariant.grows c.cover_call.ensures.grows;
  listed = each_next ListsCall call_grows c.loop-id.self c.cover_call.new.self (c.in-Some.id.now, c.in-Some.known.now) c.next.new.self c.args.sessions
      (subst (λ (es : Records). EachLeft ListsCall c.loop-id.self es c.args.sessions) c.in-Some.ensures.steps c.loop-id.invariant.listed)
      c.cover_call.ensures.grows c.in_ok-cover_call.ensures.lists;
}
