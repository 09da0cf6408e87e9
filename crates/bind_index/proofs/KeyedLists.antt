-- Lists by key after the list at one key changed, and what a table by hashes has under a key.
use Rattle.std.proofs.Common.{◌≡◌, Bool, true, false, cond, List, [], ◌∷◌, length, arith, Option, Some, None, refl, sym, ap, ◌∙◌, Ordering, if◌then◌else◌}
use Rattle.std.specs.BTreeMap.{is_at}
use Rattle.std.specs.Cmp.{IsTotalOrder}
use Rattle.std.specs.Map.{lookup}
use Rattle.std.specs.Ordering.{is_eq}
use Rattle.pcrf_values.specs.Exact.{IsExact}
use Rattle.pcrf_values.proofs.OrderLaws.{eq_is}
use Rattle.bind_index.specs.Lists.{ids_or_none, ids_at, is_nothing_listed}

-- lists of Session-Ids by key, as the entries of a tree
abbrev pub Lists : Type 0 → Type 0 → Type 0
Lists K A = List (K × List A)

module _ {K V : Type 0} (cmp : K → K → Ordering) (eq : K → K → Bool) (ties : (x y : K) → eq x y ≡ is_eq (cmp x y)) where
  -- a key that is equal is one that the order doesn't tell apart
  pub found_alike : (es : List (K × V)) (q : K) → lookup (eq q) es ≡ lookup (is_at (cmp q)) es
  found_alike es q = λ i. lookup (λ x. ties q x i) es

  -- so are the keys at which a change of the table is seen
  pub changed_alike : (key : K) (w : Option V) (es fs : List (K × V))
      → ((q : K) → lookup (eq q) fs ≡ cond (eq key q) w (lookup (eq q) es))
      → (q : K) → lookup (is_at (cmp q)) fs ≡ cond (is_at (cmp key) q) w (lookup (is_at (cmp q)) es)
  changed_alike key w es fs changes q = sym (found_alike fs q) ∙ changes q ∙ (λ i. cond (ties key q i) w (found_alike es q i))

module _ {K A : Type 0} (cmp : K → K → Ordering) (total : IsTotalOrder cmp) (same : IsExact cmp) (es now : Lists K A) (is : es ≡ now) (key : K) where
  -- after w took the place of what stood at the key, or came there, or nothing is left there, each key has the list that it had, and that key has w
  written : (n : Lists K A) (o w : Option (List A)) (f : List A → List A)
      → o ≡ lookup (is_at (cmp key)) es
      → ((q : K) → lookup (is_at (cmp q)) n ≡ cond (is_at (cmp key) q) w (lookup (is_at (cmp q)) es))
      → ids_or_none w ≡ f (ids_or_none o) → (k : K) → ids_at cmp n k ≡ (if is_eq (cmp key k) then f (ids_at cmp now k) else ids_at cmp now k)
  written n o w f stood writes made k = ap ids_or_none (writes k) ∙ by (is_eq (cmp key k)) refl
    where
      here : is_eq (cmp key k) ≡ true → ids_or_none o ≡ ids_at cmp now k
      here t =
          ap ids_or_none (stood ∙ ap (λ q. lookup (is_at (cmp q)) es) (eq_is (record { total = total; same = same }) key k t))
          ∙ ap (λ m. ids_at cmp m k) is

      by : (b : Bool) → is_eq (cmp key k) ≡ b → ids_or_none (cond b w (lookup (is_at (cmp k)) es)) ≡ (if b then f (ids_at cmp now k) else ids_at cmp now k)
      by true t = made ∙ ap f (here t)
      by false t = ap (λ m. ids_at cmp m k) is

  -- after w took the place of what stood at the key, or came there
  pub changed : (n : Lists K A) (o : Option (List A)) (w : List A) (f : List A → List A)
      → o ≡ lookup (is_at (cmp key)) es
      → ((q : K) → lookup (is_at (cmp q)) n ≡ cond (is_at (cmp key) q) (Some w) (lookup (is_at (cmp q)) es))
      → w ≡ f (ids_or_none o) → (k : K) → ids_at cmp n k ≡ (if is_eq (cmp key k) then f (ids_at cmp now k) else ids_at cmp now k)
  changed n o w f stood writes made = written n o (Some w) f stood writes made

  -- after what stood there, or took its place, was taken out
  pub emptied : (m n : Lists K A) (x w : List A) (f : List A → List A) → Some x ≡ lookup (is_at (cmp key)) es
      → ((q : K) → lookup (is_at (cmp q)) m ≡ cond (is_at (cmp key) q) (Some w) (lookup (is_at (cmp q)) es))
      → ((q : K) → lookup (is_at (cmp q)) n ≡ cond (is_at (cmp key) q) None (lookup (is_at (cmp q)) m))
      → [] ≡ f x → (k : K) → ids_at cmp n k ≡ (if is_eq (cmp key k) then f (ids_at cmp now k) else ids_at cmp now k)
  emptied m n x w f stood writes takes made = written n (Some x) None f stood (λ q. takes q ∙ ap (λ o. cond (is_at (cmp key) q) None o) (writes q) ∙ over (is_at (cmp key) q) (lookup (is_at (cmp q)) es)) made
    where
      over : (b : Bool) (o : Option (List A)) → cond b None (cond b (Some w) o) ≡ cond b None o
      over true o = refl
      over false o = refl

  -- where w is what stood there, each key has the list that it had
  pub unchanged : (n : Lists K A) (x w : List A) → Some x ≡ lookup (is_at (cmp key)) es
      → ((q : K) → lookup (is_at (cmp q)) n ≡ cond (is_at (cmp key) q) (Some w) (lookup (is_at (cmp q)) es))
      → w ≡ x → (k : K) → ids_at cmp n k ≡ ids_at cmp now k
  unchanged n x w stood writes made k = changed n (Some x) w (λ ids. ids) stood writes made k ∙ either (is_eq (cmp key k))
    where
      either : (b : Bool) → (if b then ids_at cmp now k else ids_at cmp now k) ≡ ids_at cmp now k
      either true = refl
      either false = refl

  -- where nothing stood there and nothing came, too
  pub absent : (f : List A → List A) → f [] ≡ [] → None ≡ lookup (is_at (cmp key)) es → (k : K) → ids_at cmp es k ≡ (if is_eq (cmp key k) then f (ids_at cmp now k) else ids_at cmp now k)
  absent f nothing stood k = ap (λ m. ids_at cmp m k) is ∙ by (is_eq (cmp key k)) refl
    where
      none : is_eq (cmp key k) ≡ true → ids_at cmp now k ≡ []
      none t =
          ap (λ m. ids_at cmp m k) (sym is)
          ∙ ap ids_or_none (ap (λ q. lookup (is_at (cmp q)) es) (sym (eq_is (record { total = total; same = same }) key k t)) ∙ sym stood)

      by : (b : Bool) → is_eq (cmp key k) ≡ b → ids_at cmp now k ≡ (if b then f (ids_at cmp now k) else ids_at cmp now k)
      by true t = none t ∙ sym (ap f (none t) ∙ nothing)
      by false t = refl

-- where nothing is listed no key has a list
pub none_listed : {K A : Type 0} (cmp : K → K → Ordering) (ls : List (K × List A)) → length ls ≡ 0 → (k : K) → ids_at cmp ls k ≡ []
none_listed cmp [] e k = refl
none_listed cmp (x ∷ xs) e k = absurd (omega (arith, e))

-- that is so just where the table has no entry
pub listed_none : {K A : Type 0} (b : Bool) (ls : List (K × List A)) → (b ≡ true → length ls ≡ 0) → (length ls ≡ 0 → b ≡ true) → b ≡ is_nothing_listed ls
listed_none true [] none back = refl
listed_none true (x ∷ xs) none back = absurd (omega (arith, none refl))
listed_none false [] none back = back refl
listed_none false (x ∷ xs) none back = refl
