-- Sessions that are forgotten one after the other.
use Rattle.std.proofs.Common.{◌≡◌, Bool, true, false, cond, List, [], ◌∷◌, append_assoc, ap, inl, inr}
use Rattle.pcrf_values.specs.Sets.{In}
use Rattle.pcrf_model.specs.Sessions.{Session}
use Rattle.pcrf_model.specs.Holdings.{Holding}
use Rattle.site_machine.specs.Forgotten.{forgotten, has_ended}
use Rattle.site_lock.specs.Deeds.{KeeperValue, forgettable, forgot_more}

-- one that has ended goes first
pub first_goes : (h : Holding) (r : Session) (rs : List Session) → has_ended h r ≡ true → forgettable h (r ∷ rs) ≡ r ∷ forgettable (forgotten h r) rs
first_goes h r rs e = ap (λ b. cond b (r ∷ forgettable (forgotten h r) rs) (forgettable h rs)) e

-- and one that hasn't is passed over
pub first_stays : (h : Holding) (r : Session) (rs : List Session) → has_ended h r ≡ false → forgettable h (r ∷ rs) ≡ forgettable h rs
first_stays h r rs e = ap (λ b. cond b (r ∷ forgettable (forgotten h r) rs) (forgettable h rs)) e

-- the keeper gains them one after the other
pub gains_more : (k : KeeperValue) (r : Session) (rs : List Session) → forgot_more (forgot_more k (r ∷ [])) rs ≡ forgot_more k (r ∷ rs)
gains_more k r rs = ap (λ (fs : List Session). record { first = k.first; beginnings = k.beginnings; forgot = fs }) (append_assoc k.forgot (r ∷ []) rs)

-- those that are forgotten are of those that were given
pub of_these : (h : Holding) (rs : List Session) (q : Session) → In q (forgettable h rs) → In q rs
of_these h [] q i = i
of_these h (r ∷ rs) q i = by (has_ended h r) i (of_these (forgotten h r) rs q) (of_these h rs q)
  where
    by : (b : Bool) → In q (cond b (r ∷ forgettable (forgotten h r) rs) (forgettable h rs)) → (In q (forgettable (forgotten h r) rs) → In q rs) → (In q (forgettable h rs) → In q rs) → In q (r ∷ rs)
    by true (inl e) gone all = inl e
    by true (inr j) gone all = inr (gone j)
    by false j gone all = inr (all j)
