use Rattle.std.proofs.Common.{◌≡◌, ℕ, List, sym, subst}
use Rattle.pcrf_values.specs.Orders.{text_cmp}
use Rattle.lattice_core.specs.Entries.{value_at}
use Rattle.pcrf_values.specs.Facts.{Fact}
use Rattle.pcrf_model.specs.Holdings.{facts_on}
use Rattle.pcrf_model.specs.Sessions.{af}
use Rattle.pcrf_model.specs.Views.{view}
use Rattle.site_join.specs.States.{record_facts}
use Rattle.rule_delta.proofs.AbortListed.{next_records, all_records}
use Rattle.rule_delta.proofs.aborts.waiting.all_waiting.Goals as goal

pub loop-id-preserved : goal.loop-id-preserved
loop-id-preserved c = λ e m.
    next_records (view c.args.state.now.facts) c.loop-id.waiting c.wait_one.new.waiting c.loop-id.id-iterator c.next.new.self c.in-Some.id.now c.in-Some.field-0-1.now e
    c.wait_one.ensures.keeps c.in-Some.ensures.steps c.wait_one.ensures.waits (c.loop-id.invariant e m)

pub returns-clause-all : goal.returns-clause-all
returns-clause-all c =
    all_records c.args.state.now.facts c.loop-id.waiting c.into_iter-id-iterator.result c.loop-id.id-iterator
    (subst (λ (l : List (List ℕ × List Fact)). (id : List ℕ) → record_facts (value_at text_cmp l id) ≡ facts_on c.args.state.now.facts (af id)) (sym c.into_iter-id-iterator.ensures.into_iter_gives) c.all_af-id-items.ensures.facts)
    c.loop-id.invariant c.in-None.ensures.steps.0
