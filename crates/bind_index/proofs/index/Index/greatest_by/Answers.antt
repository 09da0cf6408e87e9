use Rattle.std.proofs.Common.{sym, ap, ◌∙◌}
use Rattle.pcrf_model.specs.Sessions.{Gx}
use Rattle.bind_index.specs.Index.{listed_in}
use Rattle.bind_index.proofs.Indexed.{found_in_all, found_in_both}
use Rattle.bind_index.proofs.CoveredNetworks.{network_of_all}
use Rattle.bind_index.proofs.index.Index.greatest_by.Goals as goal

pub returns-then-spans_networks : goal.returns-then-spans_networks
returns-then-spans_networks c = found_in_all c.args.self.now c.args.asking.now c.args.state.now.facts _ _ _ (network_of_all c.args.prefix.now (sym c.spans_networks.ensures ∙ c.if-spans_networks.true))
    (c.gateways_in.ensures ∙ ap (listed_in c.args.self.now Gx) c.all_networks-all.ensures) c.greatest_listed-best.ensures

pub returns : goal.returns
returns c = found_in_both c.args.self.now c.args.asking.now c.args.state.now.facts _ _ _ _ _
    (c.gateways_in.ensures ∙ ap (listed_in c.args.self.now Gx) c.all_networks-all.ensures)
    (c.gateways_in-2.ensures ∙ ap (listed_in c.args.self.now Gx) c.network_of.ensures)
    c.greatest_listed-best.ensures c.greatest_listed.ensures
