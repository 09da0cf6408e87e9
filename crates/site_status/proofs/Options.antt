-- What a fact for each variant says of one.
use Rattle.std.proofs.Common.{◌≡◌}
use Rattle.std.specs.Prelude.{Option, Some, None, MatchOption, IfSome}

-- of the value that is there
pub some_of : {A : Type 0} (r : Option A) (P : Type 0) (Q : A → Type 0) → MatchOption r P Q → IfSome r Q
some_of None P Q fact = tt
some_of (Some value) P Q fact = fact

-- where there is none
pub none_of : {A : Type 0} (r : Option A) (P : Type 0) (Q : A → Type 0) → MatchOption r P Q → r ≡ None → P
none_of None P Q fact is = fact
none_of (Some value) P Q fact is = absurd (cc)
