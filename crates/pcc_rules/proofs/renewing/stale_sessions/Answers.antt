use Rattle.std.proofs.Common.{◌≡◌, ℕ, List, [], ◌∷◌, ◌++◌, ◌⊎◌, sym, ap, ◌∙◌, subst}
use Rattle.pcrf_values.specs.Orders.{text_cmp}
use Rattle.pcrf_values.specs.Sets.{In}
use Rattle.lattice_core.specs.Entries.{value_at}
use Rattle.pcrf_values.specs.Facts.{Fact}
use Rattle.pcrf_model.specs.Holdings.{facts_on}
use Rattle.pcrf_model.specs.Sessions.{gx}
use Rattle.site_join.specs.States.{record_facts}
use Rattle.pcc_rules.proofs.Fresh.{IsSeen, next_seen, all_stale}
use Rattle.pcc_rules.proofs.renewing.stale_sessions.Goals as goal

pub loop-session-preserved-in_ok-push : goal.loop-session-preserved-in_ok-push
loop-session-preserved-in_ok-push c = λ e m.
    subst (λ (found : List (List ℕ)). In e c.next.new.self ⊎ IsSeen c.args.lists.now found e)
    (sym (c.in_ok-push.ensures.items ∙ ap (λ (x : List ℕ). c.loop-session.found.items ++ x ∷ []) c.in_ok-try_copy.ensures))
    (next_seen c.args.lists.now c.loop-session.found.items c.loop-session.session-iterator c.next.new.self c.in-Some.session.now c.in-Some.known.now e c.in-Some.ensures.steps
    (c.loop-session.invariant e m))

pub returns : goal.returns
returns c =
    all_stale c.args.state.now.facts c.args.lists.now c.loop-session.found.items c.into_iter-session-iterator.result c.loop-session.session-iterator
    (subst (λ (l : List (List ℕ × List Fact)). (id : List ℕ) → record_facts (value_at text_cmp l id) ≡ facts_on c.args.state.now.facts (gx id)) (sym c.into_iter-session-iterator.ensures.into_iter_gives) c.all_gx-session-items.ensures.facts)
    c.loop-session.invariant c.in-None.ensures.steps.0
