use Rattle.std.proofs.Common.{◌≡◌, ℕ, List, ◌++◌, OnOk, map, Option, option_map, option_copied, option_to_list, ap, ◌∙◌, subst}
use Rattle.pcrf_values.specs.Facts.{Fact, Field}
use Rattle.pcrf_values.specs.Places.{OfFlow, FlowStatus}
use Rattle.pcrf_values.specs.Values.{Number}
use Rattle.af_records.specs.RecordFacts.{fact_of}
use Rattle.rx_profile.specs.Values.{flow_value}
use Rattle.site_machine.proofs.Said.{five_added, flow_said}
use Rattle.site_machine.proofs.facts.flow.put_said.Goals as goal

pub returns : goal.returns
returns c =
    let t = c.args.tag in
    let n = c.args.parts.now.number in
    let os : List Fact = map fact_of c.args.facts.now.items in
    let after = λ (fs : List Fact). λ (l : List Fact). fs ++ l in
    let usage = ap option_to_list c.usage.ensures in
    let status = ap option_to_list (c.status.ensures ∙ ap (λ (x : Option ℕ). option_map (λ y. Field (OfFlow c.args.component n FlowStatus) t (Number y)) x) c.open_status.ensures) in
    let first = c.in_ok-put.ensures ∙ ap (after os) (ap option_to_list c.in_ok-descriptions.ensures) in
    let second = c.in_ok-put-2.ensures ∙ ap (after (map fact_of c.put.new.facts.items)) usage in
    let third = c.in_ok-put-3.ensures ∙ ap (after (map fact_of c.put-2.new.facts.items)) status in
    let fourth = c.in_ok-put-4.ensures ∙ ap (after (map fact_of c.put-3.new.facts.items)) (ap option_to_list c.rate_up.ensures) in
    let last = ap (after (map fact_of c.put-4.new.facts.items)) (ap option_to_list c.rate_down.ensures) in
    let all = five_added os _ _ _ _ _ first second third fourth ∙ ap (after os) (flow_said c.args.component t (flow_value c.args.parts.now (option_copied c.args.filters)) c.requires) in
    subst (λ (l : List Fact). OnOk c.put-5.result (map fact_of c.put-5.new.facts.items ≡ l)) (last ∙ all) c.put-5.ensures
