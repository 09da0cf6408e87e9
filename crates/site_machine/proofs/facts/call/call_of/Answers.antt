use Rattle.std.proofs.Common.{◌≡◌, List, ◌++◌, IfOk, map, ap, ◌∙◌, subst, flat_map}
use Rattle.pcrf_values.specs.declared.tag.Tag.{Tag}
use Rattle.pcrf_values.specs.Facts.{Fact}
use Rattle.pcrf_values.specs.Held.{kept_list}
use Rattle.pcrf_model.specs.Making.{component_facts}
use Rattle.pcrf_model.specs.Sessions.{Af}
use Rattle.pcrf_model.specs.Forms.{is_record}
use Rattle.pcrf_model.proofs.ServedForms.{call_in_form}
use Rattle.af_records.specs.RecordFacts.{fact_of}
use Rattle.rx_profile.specs.Requests.{aar_view}
use Rattle.site_machine.specs.Call.{call_fields, call_facts}
use Rattle.site_machine.proofs.Apart.{call_is_whole}
use Rattle.site_machine.proofs.facts.call.call_of.Goals as goal

pub returns-clause-all : goal.returns-clause-all
returns-clause-all c =
    let view = aar_view c.args.aar.now in
    let tag : Tag = record { number = 0; counter = c.args.counter; site = c.args.site } in
    let fields = ap (λ (fs : List Fact). fs ++ flat_map (component_facts tag) c.as_slice-components.result.now) c.in_ok-facts.ensures in
    let components = ap (λ cs. call_fields view tag ++ flat_map (component_facts tag) cs) c.as_slice-components.ensures.components in
    let made : map fact_of c.put_components.new.facts.items ≡ call_facts c.args.site c.args.counter view = c.in_ok-put_components.ensures ∙ (fields ∙ components) in
    subst (λ (fs : List Fact). IfOk c.of.result (λ call. call ≡ fs))
    (ap kept_list made ∙ call_is_whole view c.args.site c.args.counter c.as_slice-components.ensures.apart)
    c.of.ensures

pub of-requires : goal.of-requires
of-requires c =
    let view = aar_view c.args.aar.now in
    let tag : Tag = record { number = 0; counter = c.args.counter; site = c.args.site } in
    let fields = ap (λ (fs : List Fact). fs ++ flat_map (component_facts tag) c.as_slice-components.result.now) c.in_ok-facts.ensures in
    let components = ap (λ cs. call_fields view tag ++ flat_map (component_facts tag) cs) c.as_slice-components.ensures.components in
    let made : map fact_of c.put_components.new.facts.items ≡ call_facts c.args.site c.args.counter view = c.in_ok-put_components.ensures ∙ (fields ∙ components) in
    ap (is_record Af) made ∙ call_in_form c.args.counter c.args.site view c.requires.first c.requires.within c.note_aar.ensures
