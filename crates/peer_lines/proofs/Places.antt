-- What sites said, after one said something.
use Rattle.std.proofs.Common.{◌≡◌, ℕ, zero, suc, ◌≤◌, List, [], ◌∷◌, map, set, get_or, length, refl, sym, ap, ◌∙◌, arith}
use Rattle.std.proofs.Math.Seq.{map-set_same}
use Rattle.peer_lines.specs.Hosts.{HostsValue, changed_at, with_said}
use Rattle.peer_lines.specs.Said.{SaidValue, said_value}
use Rattle.peer_lines.specs.declared.said.Said.{Said}

module _ {A B : Type 0} (f : A → B) (change : B → B) where
  -- one took the place of what stood there, and shows what becomes of that
  set_shows : (xs : List A) (n : ℕ) (x y : A) → x ≡ get_or xs n x → f y ≡ change (f x) → map f (set xs n y) ≡ changed_at n change (map f xs)
  set_shows [] n x y there shows = refl
  set_shows (z ∷ zs) zero x y there shows = ap (λ b. b ∷ map f zs) (shows ∙ ap (λ a. change (f a)) there)
  set_shows (z ∷ zs) (suc n) x y there shows = ap (λ bs. f z ∷ bs) (set_shows zs n x y there shows)

  -- where nothing stands nothing becomes of it
  none_shows : (xs : List A) (n : ℕ) → length xs ≤ n → map f xs ≡ changed_at n change (map f xs)
  none_shows [] n past = refl
  none_shows (z ∷ zs) zero past = let no : ⊥ = omega arith in absurd no
  none_shows (z ∷ zs) (suc n) past = ap (λ bs. f z ∷ bs) (none_shows zs n (omega arith))

-- what a site of that number and these places knows
abbrev shown : ℕ → List Said → HostsValue
shown own places = record { own = own; said = map said_value places }

module _ (own : ℕ) (places : List Said) (known : HostsValue) (is : shown own places ≡ known) (site : ℕ) (change : SaidValue → SaidValue) where
  -- after one site said something
  pub said_shows : (before after : Said) → before ≡ get_or places site before → said_value after ≡ change (said_value before)
      → shown own (set places site after) ≡ with_said known site change
  said_shows before after there shows =
      let put : List SaidValue → HostsValue = λ said. record { own = own; said = said } in
      ap put (set_shows said_value change places site before after there shows) ∙ ap (λ h. with_said h site change) is

  -- after one said something of which nothing is known
  pub unsaid_shows : length places ≤ site → known ≡ with_said known site change
  unsaid_shows past =
      let put : List SaidValue → HostsValue = λ said. record { own = own; said = said } in
      sym is ∙ ap put (none_shows said_value change places site past) ∙ ap (λ h. with_said h site change) is

  -- in other words
  pub unsaid_stays : length places ≤ site → shown own places ≡ with_said known site change
  unsaid_stays past = is ∙ unsaid_shows past

  -- after one said something that changed nothing
  pub same_shows : (before after : Said) → before ≡ get_or places site before → said_value after ≡ said_value before
      → shown own (set places site after) ≡ known
  same_shows before after there shows =
      let put : List SaidValue → HostsValue = λ said. record { own = own; said = said } in
      ap put (map-set_same said_value places site after before (shows ∙ ap said_value there)) ∙ is
