-- Who is asked to abort of those that wait, and who may wait no longer.
use Rattle.std.proofs.Common.{◌≡◌, ℕ, true, false, Bool, List, map, Option, Some, None, find, inl, inr, refl, sym, ap, ◌∙◌, subst}
use Rattle.std.specs.Ordering.{is_lt}
use Rattle.pcrf_values.specs.Ascending.{Rises}
use Rattle.pcrf_values.specs.Orders.{text_cmp}
use Rattle.pcrf_values.specs.Sets.{In}
use Rattle.pcrf_values.proofs.Plain.{clash, is_false, lt_less}
use Rattle.pcrf_values.proofs.SetLaws.{In-map, both_top}
use Rattle.pcrf_values.proofs.AscendingLaws.{map-ascending}
use Rattle.pcrf_model.specs.Aborting.{is_abandoned, abandoned_session}
use Rattle.pcrf_model.specs.Holdings.{SessionFact}
use Rattle.pcrf_model.specs.Sessions.{Kind, Gx, Af, Session, session_cmp, af, is_gx}
use Rattle.pcrf_model.specs.Views.{View, view}
use Rattle.pcrf_model.specs.Waiting.{Waiting, LeavesOut}
use Rattle.pcrf_model.proofs.AbortingLaws.{first_abandoned, none_abandoned}
use Rattle.pcrf_model.proofs.DueLaws.{found_first, found_none}
use Rattle.pcrf_model.proofs.HoldingLaws.{session_ranked}
use Rattle.rule_delta.specs.Abandoned.{AllAbandonedWait, first_waiting}
use Rattle.rule_delta.proofs.Parts.{of_call}

-- an AF session is the one of its Session-Id
pub af_is : (s : Session) (k : Kind) → s.kind ≡ k → is_gx k ≡ false → af s.id ≡ s
af_is s Af e g = λ i. record { kind = sym e i; id = s.id }
af_is s Gx e g = clash true refl g

-- one that isn't abandoned may go
pub only_abandoned : (i : ℕ) (v : View) (before after : Waiting) (name id : List ℕ)
    → AllAbandonedWait i v before → is_abandoned i v (Some name) (af id) ≡ false → LeavesOut before after name id → AllAbandonedWait i v after
only_abandoned i v before after name id h n k = record {
  each = λ other s d. elim (k.stay other s.id (h.each other s d)) [
    | inl e ↦
        let same : af s.id ≡ s = af_is s s.kind refl (of_call i v (Some other) s d) in
        clash (is_abandoned i v (Some other) s) d ((λ j. is_abandoned i v (Some (e.0 j)) (sym same j)) ∙ ap (λ x. is_abandoned i v (Some name) (af x)) e.1 ∙ n)
    | inr w ↦ w
  ];
}

-- ---- who is asked to abort

module _ (i : ℕ) (facts : List SessionFact) (waiting : Waiting) (name : List ℕ) (all : AllAbandonedWait i (view facts) waiting) (rises : Rises text_cmp (waiting name)) where
  -- it is abandoned
  abbrev passes : Session → Bool
  passes = is_abandoned i (view facts) (Some name)

  -- the sessions that wait
  abbrev waits : List Session
  waits = map af (waiting name)

  -- they rise
  waits_rise : Rises session_cmp waits
  waits_rise = map-ascending text_cmp session_cmp af (waiting name) (λ x y j k l. l) rises

  -- who is abandoned is one of them
  left_waits : (s : Session) → passes s ≡ true → In s waits
  left_waits s u =
      let same : af s.id ≡ s = af_is s s.kind refl (of_call i (view facts) (Some name) s u) in
      subst (λ (r : Session). In r waits) same (In-map af s.id (waiting name) (all.each name s u))

  -- so the first of all and the first of them are one
  same_first : (s r : Session) → abandoned_session i (view facts) (Some name) ≡ Some s → find passes waits ≡ Some r → s ≡ r
  same_first s r h k =
      let f = first_abandoned i facts (Some name) s h in
      let g = found_first session_cmp session_ranked passes waits r waits_rise k in
      both_top session_cmp session_ranked.total session_ranked.same s r
      (is_false (is_lt (session_cmp s r)) (λ l. g.1 s (left_waits s f.is_one) f.is_one (lt_less (session_cmp s r) l)))
      (is_false (is_lt (session_cmp r s)) (λ l. f.none_before r g.0 (lt_less (session_cmp r s) l)))

  -- whatever is found
  by : (x y : Option Session) → abandoned_session i (view facts) (Some name) ≡ x → find passes waits ≡ y → x ≡ y
  by None None h k = refl
  by None (Some r) h k = clash (passes r) (found_first session_cmp session_ranked passes waits r waits_rise k).0 (none_abandoned i facts (Some name) h r)
  by (Some s) None h k =
      let u = (first_abandoned i facts (Some name) s h).is_one in
      absurd (found_none session_cmp session_ranked passes waits k s (left_waits s u) u)
  by (Some s) (Some r) h k = ap Some (same_first s r h k)

-- the first of those that wait is the first of all
pub first_waits : (i : ℕ) (facts : List SessionFact) (waiting : Waiting) (name : List ℕ)
    → AllAbandonedWait i (view facts) waiting → Rises text_cmp (waiting name) → abandoned_session i (view facts) (Some name) ≡ first_waiting i (view facts) waiting name
first_waits i facts waiting name all rises =
    by i facts waiting name all rises (abandoned_session i (view facts) (Some name)) (first_waiting i (view facts) waiting name) refl refl
