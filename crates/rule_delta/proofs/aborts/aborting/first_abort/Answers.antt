use Rattle.std.proofs.Common.{◌≡◌, IfOk, Option, option_map, subst}
use Rattle.std.specs.Option.{option_copied}
use Rattle.pcrf_model.specs.Replies.{AbortValue}
use Rattle.rx_profile.specs.Aborts.{abort_view}
use Rattle.rule_delta.proofs.Records.{aborted_is}
use Rattle.rule_delta.proofs.aborts.aborting.first_abort.Goals as goal

pub returns : goal.returns
returns c = subst (λ (o : Option AbortValue). IfOk c.first_of.result (λ abort. option_map abort_view abort ≡ o))
    (aborted_is c.args.site (option_copied c.args.host) c.args.state.now.facts c.all_af.result (record { ascending = c.all_af.ensures.ascending; reads = c.all_af.ensures.facts }))
    c.first_of.ensures
