-- Reading so many values one after the other, as a loop does.
use Rattle.std.proofs.Common.{◌≡◌, ℕ, suc, ◌-◌, ◌+◌, ◌≤◌, ◌<◌, List, [], ◌∷◌, ◌++◌, Option, Some, None, refl, sym, ap, ◌∙◌, append_assoc, arith}
use Rattle.std.specs.List.{flat_map}
use Rattle.std.proofs.lemmas.List.{append-nil}
use Rattle.std.proofs.lemmas.List.Concat.{flat_map-append}
use Rattle.fact_codec.specs.declared.fault.Unread.{Unread}
use Rattle.fact_codec.specs.declared.fault.Unread.TheVariants.{BadShape, NoMemory}
use Rattle.fact_codec.specs.Reading.{Reader, give, go_on, many, Fails}

-- what was read before, and what is still read
abbrev pub with_front : {A : Type 0} → List A → Option (List A × List ℕ) → Option (List A × List ℕ)
with_front front None = None
with_front front (Some x) = Some (front ++ x.0, x.1)

module _ {A : Type 0} (r : Reader A) where
  regroup : (front : List A) (x : A) (read : Option (List A × List ℕ)) → with_front front (go_on read (λ xs. give (x ∷ xs))) ≡ with_front (front ++ x ∷ []) read
  regroup front x None = refl
  regroup front x (Some xs) = ap (λ (l : List A). Some (l, xs.1)) (simp append_assoc)

  -- one more was read
  pub goes_on : (front : List A) (count i : ℕ) (bytes : List ℕ) (x : A) (after : List ℕ) (total : Option (List A × List ℕ)) → i < count → r bytes ≡ Some (x, after)
      → with_front front (many r (count - i) bytes) ≡ total → with_front (front ++ x ∷ []) (many r (count - (i + 1)) after) ≡ total
  unfolding many
  goes_on front count i bytes x after total lt h so_far =
      let k : count - i ≡ suc (count - (i + 1)) = omega arith in
      let one : with_front front (many r (count - i) bytes) ≡ with_front (front ++ x ∷ []) (many r (count - (i + 1)) after) = rw (k, h) (regroup front x (many r (count - (i + 1)) after)) in
      sym one ∙ so_far

  -- one was not read
  pub ends : (e : Unread) (front : List A) (count i : ℕ) (bytes : List ℕ) (total : Option (List A × List ℕ)) → i < count → Fails e (r bytes)
      → with_front front (many r (count - i) bytes) ≡ total → Fails e total
  unfolding many
  ends NoMemory front count i bytes total lt h so_far = tt
  ends BadShape front count i bytes total lt h so_far =
      let k : count - i ≡ suc (count - (i + 1)) = omega arith in
      let one : with_front front (many r (count - i) bytes) ≡ None = rw (k, h) refl in
      sym so_far ∙ one

  -- all were read
  pub is_done : (front : List A) (count i : ℕ) (bytes : List ℕ) (total : Option (List A × List ℕ)) → count ≤ i → with_front front (many r (count - i) bytes) ≡ total → total ≡ Some (front, bytes)
  unfolding many
  is_done front count i bytes total le so_far =
      let k : count - i ≡ 0 = omega arith in
      let one : with_front front (many r (count - i) bytes) ≡ Some (front, bytes) = rw k (ap (λ (l : List A). Some (l, bytes)) (append-nil front)) in
      sym so_far ∙ one

-- and so are the bytes before what is left
pub spelled_on : {A : Type 0} (spell : A → List ℕ) (xs : List A) (x : A) (bytes rest after : List ℕ) → bytes ≡ flat_map spell xs ++ rest → rest ≡ spell x ++ after → bytes ≡ flat_map spell (xs ++ x ∷ []) ++ after
spelled_on spell xs x bytes rest after so_far one =
    so_far ∙ rw (one, flat_map-append spell xs (x ∷ [])) (simp append_assoc)
