use Rattle.std.proofs.Common.{◌≡◌, IfOk, Option, option_map, ap, ◌∙◌, subst}
use Rattle.std.specs.Option.{option_copied}
use Rattle.pcrf_model.specs.Replies.{PushValue}
use Rattle.pcrf_model.specs.Views.{view}
use Rattle.pcrf_model.specs.ReplyViews.{push_view}
use Rattle.rule_delta.specs.ByRecord.{push_due}
use Rattle.rule_delta.proofs.DueAlone.{push_alone}
use Rattle.rule_delta.proofs.cached_telling.push_by.Goals as goal

pub returns-in_default-clause-push : goal.returns-in_default-clause-push
returns-in_default-clause-push c =
    let t = c.args.tables.now in
    let facts = c.args.state.now.facts in
    let name = option_copied c.args.asked.now.host in
    ap (push_due t (view facts) c.args.asked.now.site name c.args.session.now) c.in_default.ensures ∙ push_alone t c.args.asked.now.site facts c.args.session.now name

pub returns-clause-push : goal.returns-clause-push
returns-clause-push c =
    let t = c.args.tables.now in
    let facts = c.args.state.now.facts in
    let name = option_copied c.args.asked.now.host in
    subst (λ (o : Option PushValue). IfOk c.push_known.result (λ push. option_map push_view push ≡ o))
    (ap (push_due t (view facts) c.args.asked.now.site name c.args.session.now) c.in-Some.ensures ∙ push_alone t c.args.asked.now.site facts c.args.session.now name)
    c.push_known.ensures.push
