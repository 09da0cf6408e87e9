use Rattle.std.proofs.Common.{rules, ◌≡◌, List, ◌++◌, map, ap, ◌∙◌}
use Rattle.std.specs.List.{flat_map}
use Rattle.std.proofs.lemmas.List.Folds.{flat_map-map}
use Rattle.dia_codec.specs.Spelling.{avp_views}
use Rattle.dia_base.specs.Rows.{values_of}
use Rattle.dia_base.specs.NeighbourAvps.{vendor_specific_application_id}
use Rattle.dia_base.specs.NeighbourRequests.{applications_among, vendor_applications}
use Rattle.dia_base.specs.declared.neighbours.applications.ApplicationId.{ApplicationId}
use Rattle.dia_base.proofs.neighbours.applications.read_applications.Goals as goal

pub returns-clause-read : goal.returns-clause-read
returns-clause-read c =
    let avps = avp_views c.args.avps.now in
    let values = values_of vendor_specific_application_id avps in
    let alone : c.in_ok-found.found.items ≡ applications_among avps = search rules in
    let groups : c.in_ok-groups.groups.items ≡ map vendor_applications values = search rules in
    let added : c.add_groups.new.found.items ≡ c.in_ok-found.found.items ++ flat_map (λ g. g) c.in_ok-groups.groups.items = search rules in
    added
    ∙ ap (λ (l : List ApplicationId). l ++ flat_map (λ g. g) c.in_ok-groups.groups.items) alone
    ∙ ap (λ (gs : List (List ApplicationId)). applications_among avps ++ flat_map (λ g. g) gs) groups
    ∙ ap (λ (l : List ApplicationId). applications_among avps ++ l) (flat_map-map (λ (g : List ApplicationId). g) vendor_applications values)
