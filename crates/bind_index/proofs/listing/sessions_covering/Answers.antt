use Rattle.std.proofs.Common.{◌≡◌, ℕ, IfOk, List, subst}
use Rattle.bind_index.specs.Listings.{Covers}
use Rattle.bind_index.proofs.Listed.{lists_the_same}
use Rattle.bind_index.proofs.listing.sessions_covering.Goals as goal

pub returns : goal.returns
returns c = subst (λ (l : List (List ℕ)). IfOk c.list.result (λ ids. ids.items ≡ l))
    (lists_the_same c.args.state.now.facts c.all_gx.result (record { ascending = c.all_gx.ensures.ascending; reads = c.all_gx.ensures.facts }) (Covers c.args.prefix.now))
    c.list.ensures
