use Rattle.std.proofs.Common.{◌≡◌, List, ◌++◌, map, OnOk, ap, ◌∙◌, subst}
use Rattle.pcrf_values.specs.Ascending.{ascending}
use Rattle.pcrf_values.specs.Facts.{Fact}
use Rattle.pcrf_model.specs.Retelling.{all_removed}
use Rattle.gx_records.specs.GxFacts.{fact_of}
use Rattle.site_machine.specs.Told.{told_fact}
use Rattle.site_machine.proofs.ToldOrder.{away_entries, name_cmp, told_in_order}
use Rattle.site_machine.proofs.facts.gateway.put_told_away.Goals as goal

pub returns : goal.returns
returns c =
    let told = c.args.told.now in
    let entries = c.in_ok-entries.ensures ∙ ap (ascending name_cmp) (c.in_ok-names_removed.ensures ∙ away_entries told) in
    let facts = ap (map (told_fact c.args.tag)) entries ∙ told_in_order c.args.tag (all_removed told) in
    subst (λ (fs : List Fact). OnOk c.put_entries.result (map fact_of c.put_entries.new.facts.items ≡ map fact_of c.args.facts.now.items ++ fs)) facts c.put_entries.ensures
