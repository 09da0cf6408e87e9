use Rattle.std.proofs.Common.{◌≡◌, ℕ, List, ◌++◌, OnOk, map, Option, option_map, option_to_list, ap, ◌∙◌, subst}
use Rattle.pcrf_values.specs.Facts.{Fact, Field}
use Rattle.pcrf_values.specs.Places.{OfComponent, ComponentStatus}
use Rattle.pcrf_values.specs.Values.{Number}
use Rattle.af_records.specs.RecordFacts.{fact_of}
use Rattle.rx_profile.specs.Values.{component_value}
use Rattle.site_machine.proofs.Said.{five_added, component_said}
use Rattle.site_machine.proofs.facts.component.put_said.Goals as goal

pub returns : goal.returns
returns c =
    let t = c.args.tag in
    let n = c.args.parts.now.number in
    let os : List Fact = map fact_of c.args.facts.now.items in
    let after = λ (fs : List Fact). λ (l : List Fact). fs ++ l in
    let status = ap option_to_list (c.status.ensures ∙ ap (λ (x : Option ℕ). option_map (λ y. Field (OfComponent n ComponentStatus) t (Number y)) x) c.open_status.ensures) in
    let first = c.in_ok-put.ensures ∙ ap (after os) (ap option_to_list c.media_type.ensures) in
    let second = c.in_ok-put-2.ensures ∙ ap (after (map fact_of c.put.new.facts.items)) status in
    let third = c.in_ok-put-3.ensures ∙ ap (after (map fact_of c.put-2.new.facts.items)) (ap option_to_list c.rate_up.ensures) in
    let fourth = c.in_ok-put-4.ensures ∙ ap (after (map fact_of c.put-3.new.facts.items)) (ap option_to_list c.rate_down.ensures) in
    let all = five_added os _ _ _ _ _ first second third fourth ∙ ap (after os) (component_said t (component_value c.args.parts.now c.args.flows.now) c.requires) in
    subst (λ (l : List Fact). OnOk c.put_flows.result (map fact_of c.put_flows.new.facts.items ≡ l)) all c.put_flows.ensures
