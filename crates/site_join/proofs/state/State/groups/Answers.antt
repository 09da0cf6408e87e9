use Rattle.std.proofs.Common.{◌≡◌, true, ◌++◌, List, map, sym, ap, ◌∙◌, subst, rules}
use Rattle.std.specs.List.{filter_map}
use Rattle.pcrf_model.specs.Sessions.{gx, af}
use Rattle.site_join.specs.Groups.{Group, are_groups, group_at, group_of, facts_of_groups}
use Rattle.site_join.proofs.GroupLaws.{groups_are_facts, groups_apart}
use Rattle.site_join.proofs.FormedGroups.{groups_formed}
use Rattle.site_join.proofs.state.State.groups.Goals as goal

pub returns-clause-facts : goal.returns-clause-facts
returns-clause-facts c =
    let gateways : map group_of c.add_gx.new.groups.items ≡ filter_map (group_at gx) c.all_gx.result = search rules in
    let all : map group_of c.add_af.new.groups.items ≡ filter_map (group_at gx) c.all_gx.result ++ filter_map (group_at af) c.all_af.result =
    c.in_ok-add_af.ensures ∙ ap (λ (l : List Group). l ++ filter_map (group_at af) c.all_af.result) gateways in
    ap facts_of_groups all ∙ groups_are_facts c.args.self.now c.note_kept.ensures c.all_gx.result c.all_af.result (record { ascending = c.all_gx.ensures.ascending; reads = c.all_gx.ensures.facts }) (record { ascending = c.all_af.ensures.ascending; reads = c.all_af.ensures.facts })

pub returns-clause-form : goal.returns-clause-form
returns-clause-form c =
    let gateways : map group_of c.add_gx.new.groups.items ≡ filter_map (group_at gx) c.all_gx.result = search rules in
    let all : map group_of c.add_af.new.groups.items ≡ filter_map (group_at gx) c.all_gx.result ++ filter_map (group_at af) c.all_af.result =
    c.in_ok-add_af.ensures ∙ ap (λ (l : List Group). l ++ filter_map (group_at af) c.all_af.result) gateways in
    let held = c.args.self.now in
    subst (λ (gs : List Group). are_groups held.clock gs ≡ true) (sym all)
    (groups_formed held c.note_form.ensures c.note_kept.ensures (filter_map (group_at gx) c.all_gx.result ++ filter_map (group_at af) c.all_af.result)
    (groups_apart held c.note_kept.ensures c.all_gx.result c.all_af.result (record { ascending = c.all_gx.ensures.ascending; reads = c.all_gx.ensures.facts }) (record { ascending = c.all_af.ensures.ascending; reads = c.all_af.ensures.facts }))
    (groups_are_facts held c.note_kept.ensures c.all_gx.result c.all_af.result (record { ascending = c.all_gx.ensures.ascending; reads = c.all_gx.ensures.facts }) (record { ascending = c.all_af.ensures.ascending; reads = c.all_af.ensures.facts })))
