-- Which rules can change where one session changes that has a prefix.
use Rattle.std.specs.Prelude.{◌≡◌, ℕ, true, List, ◌⊎◌, Some}
use Rattle.pcrf_values.specs.Prefixes.{Ipv6Prefix, covers}
use Rattle.pcrf_values.specs.Places.{prefix}
use Rattle.pcrf_values.specs.Values.{Prefix}
use Rattle.pcrf_model.specs.Holdings.{SessionFact}
use Rattle.pcrf_model.specs.Laws.{DifferInOne, NeverMeet, ShowsNoPrefix}
use Rattle.pcrf_model.specs.Rules.{rules}
use Rattle.pcrf_model.specs.Sessions.{Session, is_gx}
use Rattle.pcrf_model.specs.Tables.{Tables}
use Rattle.pcrf_model.specs.Views.{View, view, value}

-- the session shows that prefix in the one view or in the other
abbrev pub HasPrefix : View → View → Session → Ipv6Prefix → Type 0
HasPrefix v w s p = (value v s prefix ≡ Some (Prefix p)) ⊎ (value w s prefix ≡ Some (Prefix p))

-- None of the prefixes that s shows in either view covers one that d shows in either, nor, where d is of a gateway, the other way round; and if s is
-- d itself it shows none.
pub record NeverCover (v w : View) (d s : Session) : Type 0 where
  pub over : (p q : Ipv6Prefix) → HasPrefix v w d p → HasPrefix v w s q → covers q p ≡ true → ⊥
  pub under : is_gx d.kind ≡ true → (p q : Ipv6Prefix) → HasPrefix v w d p → HasPrefix v w s q → covers p q ≡ true → ⊥
  pub itself : s ≡ d → ShowsNoPrefix v w d

-- Where one session changes, the rules stay of each that shows, before and after, no address that the one shows before or after, and no prefix that
-- covers one of its prefixes or, where it is of a gateway, is covered by one.
abbrev pub NeighboursAlone : Type 0
NeighboursAlone = (t : Tables) (xs ys : List SessionFact) (d s : Session) →
    DifferInOne xs ys d →
    NeverMeet (view xs) (view ys) d s → NeverCover (view xs) (view ys) d s →
    rules t (view xs) s ≡ rules t (view ys) s
