-- At which place the newest message of a key stands, as messages come and go.
use Rattle.std.proofs.Common.{◌≡◌, ℕ, zero, suc, ◌+◌, ◌-◌, ◌<◌, ◌≤◌, ◌==◌, ◌&&◌, Bool, true, false, cond, Option, Some, None, List, [], ◌∷◌, ◌++◌, length, slice_get, unwrap_or, refl, sym, ap, ◌∙◌, arith}
use Rattle.std.specs.Str.{bytes_eq}
use Rattle.std.proofs.lemmas.Bool.{eqb-true}
use Rattle.std.proofs.lemmas.Slice.Eq.{bytes_eq-Decides}
use Rattle.watched_links.specs.Keys.{same_key}
use Rattle.watched_links.specs.Kept.{newest_at, newest_of}
use Rattle.watched_links.specs.declared.message.MessageKey.{MessageKey as Key}
use Rattle.watched_links.specs.declared.message.RecentMessage.{RecentMessage}

-- ---- keys

both_true : (p q : Bool) → (p && q) ≡ true → (p ≡ true) × (q ≡ true)
both_true false q e = absurd (cc)
both_true true q e = (refl, e)

bytes_true : (xs ys : List ℕ) → bytes_eq xs ys ≡ true → xs ≡ ys
bytes_true xs ys e = grind (arith, bytes_eq-Decides xs ys, e)

-- keys that are the same are so to each other one
pub keys_alike : (k q : Key) → same_key k q ≡ true → (m : Key) → same_key m q ≡ same_key m k
keys_alike k q e m =
    let command = both_true (k.command == q.command) _ e in let number = both_true (k.number == q.number) _ command.1 in let session = both_true (bytes_eq k.session.items q.session.items) _ number.1 in
    let host = both_true (bytes_eq k.host.items q.host.items) (bytes_eq k.peer.items q.peer.items) session.1 in
    let c : k.command ≡ q.command = eqb-true _ _ command.0 in
    let n : k.number ≡ q.number = eqb-true _ _ number.0 in
    let s : k.session.items ≡ q.session.items = bytes_true _ _ session.0 in
    let h : k.host.items ≡ q.host.items = bytes_true _ _ host.0 in
    let p : k.peer.items ≡ q.peer.items = bytes_true _ _ host.1 in
    λ i. (m.command == sym c i)
    && ((m.number == sym n i)
    && (bytes_eq m.session.items (sym s i) && (bytes_eq m.host.items (sym h i) && bytes_eq m.peer.items (sym p i))))

-- ---- places

-- keys that are the same have one place
pub alike_at : (k q : Key) → ((m : Key) → same_key m q ≡ same_key m k) → (first : ℕ) (kept : List RecentMessage)
    → newest_at first q kept ≡ newest_at first k kept
alike_at k q same first [] = refl
alike_at k q same first (m ∷ kept) = λ i. cond (same m.key i) (Some first) (alike_at k q same (suc first) kept i)

-- the oldest, of another key, is no matter
pub last_other : (first : ℕ) (q : Key) (kept : List RecentMessage) (oldest : RecentMessage) → same_key oldest.key q ≡ false
    → newest_at first q (kept ++ oldest ∷ []) ≡ newest_at first q kept
last_other first q [] oldest other = ap (λ b. cond b (Some first) None) other
last_other first q (m ∷ kept) oldest other = ap (λ r. cond (same_key m.key q) (Some first) r) (last_other (suc first) q kept oldest other)

pub some_same : (a b : ℕ) → Some a ≡ Some b → a ≡ b
some_same a b e = ap (λ o. unwrap_or o 0) e

pub not_some : (o : Option ℕ) (n : ℕ) → None ≡ o → o ≡ Some n → ⊥
not_some o n none some = let no : ◌≡◌ {A = Option ℕ} None (Some n) = none ∙ some in absurd (cc)

-- where the newest is the oldest there is none without it
none_behind : (b : Bool) (r s : Option ℕ) (first n : ℕ) → first < n → cond b (Some first) r ≡ Some n → (r ≡ Some n → s ≡ None) → cond b (Some first) s ≡ None
none_behind true r s first n below e next = let same : first ≡ n = some_same first n e in absurd (omega arith)
none_behind false r s first n below e next = next e

pub none_left : (first : ℕ) (k : Key) (kept : List RecentMessage) (oldest : RecentMessage)
    → newest_at first k (kept ++ oldest ∷ []) ≡ Some (first + length kept) → newest_at first k kept ≡ None
none_left first k [] oldest e = refl
none_left first k (m ∷ kept) oldest e =
    let below : first < first + suc (length kept) = omega arith in
    let shift : first + suc (length kept) ≡ suc first + length kept = omega arith in
    none_behind (same_key m.key k) _ _ first (first + suc (length kept)) below e (λ r. none_left (suc first) k kept oldest (r ∙ ap Some shift))

-- where it isn't the oldest that is no matter
alone_is : (b : Bool) (first n : ℕ) → n ≡ first → (cond b (Some first) None ≡ Some n → ⊥) → cond b (Some first) None ≡ None
alone_is true first n same apart = absurd (apart (ap Some (sym same)))
alone_is false first n same apart = refl

same_behind : (b : Bool) (r s : Option ℕ) (first n : ℕ) → (cond b (Some first) r ≡ Some n → ⊥) → ((r ≡ Some n → ⊥) → r ≡ s)
    → cond b (Some first) r ≡ cond b (Some first) s
same_behind true r s first n apart next = refl
same_behind false r s first n apart next = next apart

pub same_left : (first : ℕ) (k : Key) (kept : List RecentMessage) (oldest : RecentMessage)
    → (newest_at first k (kept ++ oldest ∷ []) ≡ Some (first + length kept) → ⊥) → newest_at first k (kept ++ oldest ∷ []) ≡ newest_at first k kept
same_left first k [] oldest apart = let same : first + 0 ≡ first = omega arith in alone_is (same_key oldest.key k) first (first + 0) same apart
same_left first k (m ∷ kept) oldest apart =
    let shift : suc first + length kept ≡ first + suc (length kept) = omega arith in
    same_behind (same_key m.key k) _ _ first (first + suc (length kept)) apart
    (λ other. same_left (suc first) k kept oldest (λ e. other (e ∙ ap Some shift)))

-- ---- what is known of all keys

module _ (first : ℕ) (known : Key → Option ℕ) where
  -- one message more
  pub put_known : (copy : Key) (m : RecentMessage) (kept items : List RecentMessage) (after : Key → Option ℕ) → 0 < first
      → ((q : Key) → same_key copy q ≡ same_key m.key q) → ((q : Key) → known q ≡ newest_at first q kept)
      → ((q : Key) → after q ≡ cond (same_key copy q) (Some (first - 1)) (known q)) → items ≡ m ∷ kept
      → (q : Key) → after q ≡ newest_at (first - 1) q items
  put_known copy m kept items after some same all puts is q =
      let shift : first ≡ suc (first - 1) = omega arith in
      puts q ∙ ap (λ b. cond b (Some (first - 1)) (known q)) (same q)
      ∙ ap (λ r. cond (same_key m.key q) (Some (first - 1)) r) (all q ∙ ap (λ n. newest_at n q kept) shift)
      ∙ ap (λ l. newest_at (first - 1) q l) (sym is)

  module _ (oldest : RecentMessage) (before kept : List RecentMessage) (all : (q : Key) → known q ≡ newest_at first q before) (is : before ≡ kept ++ oldest ∷ []) where
    -- what is known of a key
    known_of : (q : Key) → known q ≡ newest_at first q (kept ++ oldest ∷ [])
    known_of q = all q ∙ ap (λ l. newest_at first q l) is

    -- the oldest, which is the newest of its key, goes
    out_case : (q : Key) (b : Bool) → same_key oldest.key q ≡ b → known oldest.key ≡ Some (first + length kept)
        → cond b None (known q) ≡ newest_at first q kept
    out_case q true e here =
        let alone = none_left first oldest.key kept oldest (sym (known_of oldest.key) ∙ here) in
        sym (alike_at oldest.key q (keys_alike oldest.key q e) first kept ∙ alone)
    out_case q false e here = known_of q ∙ last_other first q kept oldest e

    pub out_known : (after : Key → Option ℕ) → known oldest.key ≡ Some (first + length kept)
        → ((q : Key) → after q ≡ cond (same_key oldest.key q) None (known q)) → (q : Key) → after q ≡ newest_at first q kept
    out_known after here takes q = takes q ∙ out_case q (same_key oldest.key q) refl here

    -- the oldest goes, and isn't the newest of its key
    stay_case : (q : Key) (b : Bool) → same_key oldest.key q ≡ b → (known oldest.key ≡ Some (first + length kept) → ⊥) → known q ≡ newest_at first q kept
    stay_case q true e other =
        let alike = alike_at oldest.key q (keys_alike oldest.key q e) first in
        known_of q ∙ alike (kept ++ oldest ∷ []) ∙ same_left first oldest.key kept oldest (λ last. other (known_of oldest.key ∙ last)) ∙ sym (alike kept)
    stay_case q false e other = known_of q ∙ last_other first q kept oldest e

    pub stay_known : (known oldest.key ≡ Some (first + length kept) → ⊥) → (q : Key) → known q ≡ newest_at first q kept
    stay_known other q = stay_case q (same_key oldest.key q) refl other

-- ---- what is found

none_case : (b : Bool) (first : ℕ) (m : RecentMessage) (r : Option ℕ) (s : Option RecentMessage) → cond b (Some first) r ≡ None → (r ≡ None → s ≡ None) → cond b (Some m) s ≡ None
none_case true first m r s e next = absurd (cc)
none_case false first m r s e next = next e

-- of a key without a place nothing is kept
pub none_found : (first : ℕ) (k : Key) (kept : List RecentMessage) → newest_at first k kept ≡ None → newest_of k kept ≡ None
none_found first k [] e = refl
none_found first k (m ∷ kept) e = none_case (same_key m.key k) first m _ _ e (none_found (suc first) k kept)

-- one that has a place stands there
abbrev Stands : ℕ → ℕ → List RecentMessage → Option RecentMessage → Type 0
Stands first place kept found = (first ≤ place) × (slice_get kept (place - first) ≡ found)

one_case : (b : Bool) (first place : ℕ) (m : RecentMessage) (kept : List RecentMessage) (r : Option ℕ) (s : Option RecentMessage)
    → cond b (Some first) r ≡ Some place → (r ≡ Some place → Stands (suc first) place kept s) → Stands first place (m ∷ kept) (cond b (Some m) s)
one_case true first place m kept r s e next =
    let same : first ≡ place = some_same first place e in
    let none : place - first ≡ 0 = omega arith in
    (omega arith, ap (λ n. slice_get (m ∷ kept) n) none)
one_case false first place m kept r s e next =
    let behind = next e in
    let above : suc first ≤ place = behind.0 in
    let one : place - first ≡ suc (place - suc first) = omega arith in
    (omega arith, ap (λ n. slice_get (m ∷ kept) n) one ∙ behind.1)

pub one_found : (first place : ℕ) (k : Key) (kept : List RecentMessage) → newest_at first k kept ≡ Some place
    → (first ≤ place) × (slice_get kept (place - first) ≡ newest_of k kept)
one_found first place k [] e = absurd (cc)
one_found first place k (m ∷ kept) e = one_case (same_key m.key k) first place m kept _ _ e (one_found (suc first) place k kept)
