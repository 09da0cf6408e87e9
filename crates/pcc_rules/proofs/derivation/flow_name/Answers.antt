use Rattle.std.proofs.Common.{rules, ◌≡◌, ℕ, ◌≤◌, length, List, sym, subst, append_assoc}
use Rattle.std.specs.Prelude.{IfOk}
use Rattle.pcrf_values.specs.Limits.{rule_name_limit}
use Rattle.pcrf_model.specs.Flows.{flow_rule_name}
use Rattle.pcc_rules.specs.FlowsAlone.{flow_of}
use Rattle.pcc_rules.proofs.Names.{flow_name_fits}
use Rattle.pcc_rules.proofs.derivation.flow_name.Goals as goal

pub name_of-requires-clause-within : goal.name_of-requires-clause-within
name_of-requires-clause-within c =
    let text : c.extend_from_slice-2.new.self.items ≡ flow_rule_name (flow_of c.args.session.now c.args.component c.args.flow) = search (rules, append_assoc) in
    let short : length c.args.session.now ≤ 512 = search rules in
    subst (λ (xs : List ℕ). length xs ≤ rule_name_limit) (sym text) (flow_name_fits c.args.session.now c.args.component c.args.flow short c.ranges.component.fits c.ranges.flow.fits)

pub returns : goal.returns
returns c =
    let text : c.extend_from_slice-2.new.self.items ≡ flow_rule_name (flow_of c.args.session.now c.args.component c.args.flow) = search (rules, append_assoc) in
    subst (λ (xs : List ℕ). IfOk c.name_of.result (λ name. name ≡ xs)) text c.name_of.ensures
