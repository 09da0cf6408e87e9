use Rattle.std.proofs.Common.{◌≡◌, IfOk, Option, option_map, subst}
use Rattle.std.specs.Option.{option_copied}
use Rattle.pcrf_model.specs.Replies.{PushValue}
use Rattle.pcrf_model.specs.ReplyViews.{push_view}
use Rattle.rule_delta.proofs.DueRecord.{pushed_is}
use Rattle.rule_delta.proofs.pushing.next_push.Goals as goal

pub returns-clause-push : goal.returns-clause-push
returns-clause-push c = subst (λ (o : Option PushValue). IfOk c.first_push.result (λ push. option_map push_view push ≡ o))
    (pushed_is c.args.tables.now c.args.site (option_copied c.args.host) c.args.state.now.facts c.all_gx.result (record { ascending = c.all_gx.ensures.ascending; reads = c.all_gx.ensures.facts }))
    c.first_push.ensures.push

pub returns-clause-names : goal.returns-clause-names
returns-clause-names c = c.first_push.ensures.names
