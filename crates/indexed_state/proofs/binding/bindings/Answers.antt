use Rattle.std.proofs.Common.{◌≡◌, ℕ, IfOk, List, Option, subst}
use Rattle.indexed_state.proofs.Bound.{bindings_are}
use Rattle.indexed_state.proofs.binding.bindings.Goals as goal

pub returns : goal.returns
returns c = subst (λ (l : List (List ℕ × Option (List ℕ))). IfOk c.bindings_among.result (λ found. found.items ≡ l))
    (bindings_are c.args.state.now.facts c.all_af.result (record { ascending = c.all_af.ensures.ascending; reads = c.all_af.ensures.facts }))
    c.bindings_among.ensures
