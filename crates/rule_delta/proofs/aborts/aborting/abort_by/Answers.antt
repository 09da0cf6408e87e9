use Rattle.std.proofs.Common.{◌≡◌, IfOk, Option, option_map, ap, ◌∙◌, subst}
use Rattle.std.specs.Option.{option_copied}
use Rattle.pcrf_model.specs.Replies.{AbortValue}
use Rattle.pcrf_model.specs.Views.{view}
use Rattle.rx_profile.specs.Aborts.{abort_view}
use Rattle.rule_delta.specs.AbortsByRecord.{abort_if_abandoned}
use Rattle.rule_delta.proofs.ByRecord.{abort_alone}
use Rattle.rule_delta.proofs.aborts.aborting.abort_by.Goals as goal

pub returns-in_default : goal.returns-in_default
returns-in_default c =
    let facts = c.args.state.now.facts in
    let name = option_copied c.args.asked.now.host in
    ap (abort_if_abandoned (view facts) c.args.asked.now.site name c.args.session.now) c.in_default.ensures ∙ abort_alone c.args.asked.now.site facts c.args.session.now name

pub returns : goal.returns
returns c =
    let facts = c.args.state.now.facts in
    let name = option_copied c.args.asked.now.host in
    subst (λ (o : Option AbortValue). IfOk c.abort_known.result (λ abort. option_map abort_view abort ≡ o))
    (ap (abort_if_abandoned (view facts) c.args.asked.now.site name c.args.session.now) c.in-Some.ensures ∙ abort_alone c.args.asked.now.site facts c.args.session.now name)
    c.abort_known.ensures
