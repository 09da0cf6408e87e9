-- What a site holds after each operation that it makes or takes.
use Rattle.std.proofs.Common.{◌≡◌, List, [], ◌∷◌, ◌++◌, sym, ap, ◌∙◌}
use Rattle.pcrf_values.proofs.SetLaws.{Same-turn}
use Rattle.pcrf_model.specs.Holdings.{Holding, under, union, kept_of}
use Rattle.pcrf_model.specs.Operations.{Operation, with_operation, holding_of}
use Rattle.pcrf_model.proofs.UnionLaws.{union_assoc, union_nothing, kept_of-union, holding_of-Same}

-- one operation more
pub holding_of-one : (os : List Operation) (o : Operation) → holding_of (os ++ o ∷ []) ≡ with_operation (holding_of os) o
holding_of-one os o = holding_of-Same (os ++ o ∷ []) (o ∷ os) (Same-turn os (o ∷ []))

-- ---- what is kept of what was taken, one operation after the other

-- of none
pub takes_none : (h : Holding) → kept_of h ≡ h → kept_of (union h (holding_of [])) ≡ h
takes_none h kept = union_nothing h ∙ kept

-- of one more
pub takes_more : (h : Holding) (os : List Operation) (o : Operation) → kept_of (with_operation (kept_of (union h (holding_of os))) o) ≡ kept_of (union h (holding_of (os ++ o ∷ [])))
takes_more h os o =
    let one : Holding = record { facts = under o.session o.facts; clock = o.counter } in
    kept_of-union (union h (holding_of os)) one
    ∙ ap kept_of (union_assoc h (holding_of os) one)
    ∙ ap (λ (k : Holding). kept_of (union h k)) (sym (holding_of-one os o))
