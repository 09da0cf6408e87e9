-- The fields of a session, in order.
use Rattle.std.proofs.Common.{◌≡◌, List, [], ◌∷◌, inl, inr, refl, sym, subst, Ordering, Less}
use Rattle.pcrf_values.specs.Ascending.{Rises, IsBelowAll}
use Rattle.pcrf_values.specs.Sets.{In}
use Rattle.pcrf_values.specs.Places.{place_cmp, SessionField, OfSession, session_fields}
use Rattle.pcrf_values.specs.Places as places

module _ {A : Type 0} (R : A → A → Ordering) where
  -- below each of these, one by one
  abbrev pub Precedes : A → List A → Type 0
  Precedes x [] = Unit {0}
  Precedes x (y ∷ ys) = (R x y ≡ Less) × Precedes x ys

  -- so below all of them
  pub all_below : (x : A) (ys : List A) → Precedes x ys → IsBelowAll R x ys
  all_below x [] p y i = absurd i
  all_below x (z ∷ zs) p y (inl q) = subst (λ (w : A). R x w ≡ Less) (sym q) p.0
  all_below x (z ∷ zs) p y (inr i) = all_below x zs p.1 y i

-- by place
abbrev field_cmp : SessionField → SessionField → Ordering
field_cmp f g = place_cmp (OfSession f) (OfSession g)

-- those fields are in the order of their places
pub fields_rise : Rises field_cmp session_fields
fields_rise = (
  below_each places.FramedIpAddress (places.CalledStationId ∷ after_apn) (refl, (refl, (refl, (refl, (refl, (refl, tt)))))),
  (
    below_each places.CalledStationId after_apn (refl, (refl, (refl, (refl, (refl, tt))))),
    (
      below_each places.SubscriptionIds (places.OriginHost ∷ places.OriginRealm ∷ places.RequestType ∷ places.FramedIpv6Prefix ∷ []) (refl, (refl, (refl, (refl, tt)))),
      (
        below_each places.OriginHost (places.OriginRealm ∷ places.RequestType ∷ places.FramedIpv6Prefix ∷ []) (refl, (refl, (refl, tt))),
        (
          below_each places.OriginRealm (places.RequestType ∷ places.FramedIpv6Prefix ∷ []) (refl, (refl, tt)),
          (below_each places.RequestType (places.FramedIpv6Prefix ∷ []) (refl, tt), (below_each places.FramedIpv6Prefix [] tt, tt)),
        ),
      ),
    ),
  ),
)
  where
    after_apn : List SessionField
    after_apn = places.SubscriptionIds ∷ places.OriginHost ∷ places.OriginRealm ∷ places.RequestType ∷ places.FramedIpv6Prefix ∷ []

    below_each : (f : SessionField) (gs : List SessionField) → Precedes field_cmp f gs → IsBelowAll field_cmp f gs
    below_each = all_below field_cmp
