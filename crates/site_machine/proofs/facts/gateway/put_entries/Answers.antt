use Rattle.std.proofs.Common.{rules, ◌≡◌, List, [], ◌∷◌, ◌++◌, map, ap, sym, ◌∙◌, append_assoc}
use Rattle.std.proofs.lemmas.List.{map-append}
use Rattle.pcrf_values.specs.Facts.{Fact}
use Rattle.gx_records.specs.GxFacts.{fact_of}
use Rattle.gx_records.specs.declared.fact.GxFact.TheVariants.{Told}
use Rattle.site_machine.specs.Told.{ToldName, told_fact}
use Rattle.site_machine.proofs.facts.gateway.put_entries.Goals as goal

pub loop-name-preserved : goal.loop-name-preserved
loop-name-preserved c =
    let before = c.loop-name.facts.items in
    let own : List Fact = map fact_of c.args.facts.now.items in
    let e : ToldName = (c.in-Some.name, c.in-Some.rule) in
    let pushed : c.push.new.self.items ≡ before ++ Told c.args.tag c.in-Some.name c.in-Some.rule ∷ [] = search rules in
    ap (map fact_of) pushed
    ∙ map-append fact_of before (Told c.args.tag c.in-Some.name c.in-Some.rule ∷ [])
    ∙ ap (λ (fs : List Fact). fs ++ told_fact c.args.tag e ∷ []) c.loop-name.invariant
    ∙ append_assoc own (map (told_fact c.args.tag) c.loop-name.yielded) (told_fact c.args.tag e ∷ [])
    ∙ ap (λ (fs : List Fact). own ++ fs) (sym (map-append (told_fact c.args.tag) c.loop-name.yielded (e ∷ [])))
