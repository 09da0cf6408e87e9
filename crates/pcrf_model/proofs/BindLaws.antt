-- A binding is the greatest session that matches.
use Rattle.std.proofs.Common.{◌≡◌, Bool, true, false, cond, not, ◌&&◌, List, map, ◌↔◌, Option, Some, None, refl, sym, ap, ◌∙◌, subst, option_map, Less}
use Rattle.std.specs.Ordering.{is_lt}
use Rattle.std.specs.Cmp.{first_so, second_so}
use Rattle.std.specs.List.{filter_map}
use Rattle.pcrf_values.proofs.Plain.{clash, is_false, not_true, some_same, some_is, came_from, lt_less}
use Rattle.pcrf_values.specs.Sets.{In, greatest}
use Rattle.pcrf_model.specs.Sessions.{Kind, Gx, Af, Session, gx, is_gx}
use Rattle.pcrf_values.specs.Live.{shows_at, user_places, is_reached}
use Rattle.pcrf_values.specs.Places.{Place, address, prefix, apn, subscribers}
use Rattle.pcrf_values.specs.Values.{Entry}
use Rattle.pcrf_model.specs.Holdings.{SessionFact}
use Rattle.pcrf_model.specs.Views.{View, view, value}
use Rattle.pcrf_model.specs.Live.{is_live, has_what_it_needs}
use Rattle.pcrf_model.specs.Bindings.{agrees, is_covered, meets, party, suits, Stamp, stamp_cmp, stamp_of, last_reached, Candidate, candidate_cmp, standing, candidate, matches, bind}
use Rattle.pcrf_model.specs.Laws.{IsBinding}
use Rattle.pcrf_values.proofs.SetLaws.{both_top, any-In, In-map, In-filter_map, filter_map-In}
use Rattle.pcrf_values.proofs.OrderLaws.{IsRanked, nat_ranked, text_ranked, pair_ranked}
use Rattle.pcrf_values.proofs.Greatest.{greatest_is, greatest_some}
use Rattle.pcrf_model.proofs.ViewLaws.{shows-known}

-- candidates are ranked
pub candidate_ranked : IsRanked candidate_cmp
candidate_ranked = pair_ranked nat_ranked (pair_ranked nat_ranked text_ranked)

-- stamps are ranked
pub stamp_ranked : IsRanked stamp_cmp
stamp_ranked = pair_ranked nat_ranked nat_ranked

-- ---- what a match says

-- part by part
pub record Matched (v : View) (a s : Session) : Type 0 where
  pub asks : is_gx a.kind ≡ false
  pub of_gateway : is_gx s.kind ≡ true
  pub asking_lives : is_live v a ≡ true
  pub lives : is_live v s ≡ true
  pub at_address : agrees (value v a address) (value v s address) ≡ true
  pub at_prefix : is_covered (value v a prefix) (value v s prefix) ≡ true
  pub of_subscribers : meets (value v a subscribers) (value v s subscribers) ≡ true
  pub at_apn : agrees (value v a apn) (value v s apn) ≡ true

-- so it says
pub matched : (v : View) (a s : Session) → matches v a s ≡ true → Matched v a s
matched v a s m =
    let kinds : (not (is_gx a.kind) && is_gx s.kind) ≡ true = first_so _ _ m in
    let all : suits (party v a) (party v s) ≡ true =
    second_so (not (is_gx a.kind) && is_gx s.kind) _ m in
    let lives : Bool = is_live v a && is_live v s in
    let addresses : Bool = lives && agrees (value v a address) (value v s address) in
    let prefixes : Bool = addresses && is_covered (value v a prefix) (value v s prefix) in
    let named : Bool = prefixes && meets (value v a subscribers) (value v s subscribers) in
    let so_named : named ≡ true = first_so named _ all in
    let so_covered : prefixes ≡ true = first_so prefixes _ so_named in
    let so_agreed : addresses ≡ true = first_so addresses _ so_covered in
    let so_live : lives ≡ true = first_so lives _ so_agreed in
    record {
      asks = not_true (is_gx a.kind) (first_so (not (is_gx a.kind)) _ kinds);
      of_gateway = second_so (not (is_gx a.kind)) _ kinds;
      asking_lives = first_so (is_live v a) _ so_live;
      lives = second_so (is_live v a) _ so_live;
      at_address = second_so lives _ so_agreed;
      at_prefix = second_so addresses _ so_covered;
      of_subscribers = second_so prefixes _ so_named;
      at_apn = second_so named _ all;
    }

-- what matches is a Gx session
pub of_gx : (v : View) (a s : Session) → matches v a s ≡ true → is_gx s.kind ≡ true
of_gx v a s m = (matched v a s m).of_gateway

-- and what asks for it is live
pub live_asking : (v : View) (a s : Session) → matches v a s ≡ true → is_live v a ≡ true
live_asking v a s m = (matched v a s m).asking_lives

-- ---- live sessions

-- a place of a live session that says where its user is reached, and what it shows
pub live_reached : (v : View) (s : Session) → is_live v s ≡ true
    → (p : Place) × In p user_places × (e : Entry) × (v.shows s p ≡ Some e)
live_reached v s h =
    let open_ : has_what_it_needs v s s.kind ≡ true = second_so (not (v.ended s)) _ h in
    let r = any-In (shows_at (v.shows s)) user_places (of_kind s.kind open_) in
    let w = some_is (v.shows s r.0) r.2 in
    (r.0, r.1, w.0, w.1)
  where
    of_kind : (k : Kind) → has_what_it_needs v s k ≡ true → is_reached (v.shows s) ≡ true
    of_kind Gx g = first_so _ _ g
    of_kind Af g = g

-- so it has a fact
pub live-known : (facts : List SessionFact) (s : Session) → is_live (view facts) s ≡ true
    → In s (view facts).sessions
live-known facts s h = let r = live_reached (view facts) s h in shows-known facts s r.0 r.2 r.3

-- and it stands beside others
pub live_stands : (v : View) (s : Session) → is_live v s ≡ true
    → (c : Candidate) × (standing v s ≡ Some c)
live_stands v s h =
    let r = live_reached v s h in
    let shown : List Entry = filter_map (v.shows s) user_places in
    let there : In r.2 shown = In-filter_map (v.shows s) r.0 r.2 user_places r.1 r.3 in
    let stamped = In-map stamp_of r.2 shown there in
    let g = greatest_some stamp_cmp stamp_ranked (map stamp_of shown) (stamp_of r.2) stamped in
    ((g.0.0, (g.0.1, s.id)), ap (option_map (λ (t : Stamp). (t.0, (t.1, s.id)))) g.1)

-- a Gx session is the one of its Session-Id
pub gx_is : (s : Session) (k : Kind) → s.kind ≡ k → is_gx k ≡ true → gx s.id ≡ s
gx_is s Gx e g = λ i. record { kind = sym e i; id = s.id }
gx_is s Af e g = clash false g refl

-- ---- candidates

module _ (facts : List SessionFact) (a : Session) where
  -- what is read of the facts
  abbrev v : View
  v = view facts

  -- the candidates of a
  abbrev cs : List Candidate
  cs = filter_map (candidate v a) v.sessions

  -- a session that matches stands beside others
  stands : (s : Session) → matches v a s ≡ true → (c : Candidate) × (standing v s ≡ Some c)
  stands s m = live_stands v s (matched v a s m).lives

  -- a match is a candidate as it stands
  candidate_of : (s : Session) (c : Candidate) → matches v a s ≡ true → standing v s ≡ Some c → candidate v a s ≡ Some c
  candidate_of s c m h = ap (λ b. cond b (standing v s) None) m ∙ h

  -- and is so one of the candidates
  candidate-In : (s : Session) (m : matches v a s ≡ true) → In (stands s m).0 cs
  candidate-In s m =
      let w = stands s m in
      let known = live-known facts s (matched v a s m).lives in
      In-filter_map (candidate v a) s w.0 v.sessions known (candidate_of s w.0 m w.1)

  -- its Session-Id is the last part of how it stands
  id_of : (s : Session) (x : Option Stamp) (c : Candidate)
      → option_map (λ (t : Stamp). (t.0, (t.1, s.id))) x ≡ Some c → s.id ≡ c.1.1
  id_of s None c h = absurd (cc)
  id_of s (Some t) c h = ap (λ (z : Candidate). z.1.1) (some_same (t.0, (t.1, s.id)) c h)

  -- each candidate is of a session that matches, and names it
  whose : (c : Candidate) → In c cs → (s : Session) × (matches v a s ≡ true) × (standing v s ≡ Some c) × (gx c.1.1 ≡ s)
  whose c i =
      let r = filter_map-In (candidate v a) c v.sessions i in
      let w = came_from (matches v a r.0) (standing v r.0) c r.2 in
      (r.0, w.0, w.1, ap gx (sym (id_of r.0 (last_reached (v.shows r.0)) c w.1)) ∙ gx_is r.0 r.0.kind refl (of_gx v a r.0 w.0))

  -- a binding comes from a greatest candidate
  bound_from : (x : Option Candidate) (s : Session) → option_map (λ (c : Candidate). gx c.1.1) x ≡ Some s → (c : Candidate) × (x ≡ Some c) × (gx c.1.1 ≡ s)
  bound_from None s h = absurd (cc)
  bound_from (Some c) s h = (c, refl, some_same _ _ h)

  -- who is bound is the greatest match
  onward : (s : Session) → bind v a ≡ Some s → IsBinding v a s
  unfolding bind
  onward s h =
      let b = bound_from (greatest candidate_cmp cs) s h in
      let g = greatest_is candidate_cmp candidate_ranked cs b.0 b.1 in
      let w = whose b.0 g.0 in
      let same : w.0 ≡ s = sym w.3 ∙ b.2 in
      record {
        fits = subst (λ (z : Session). matches v a z ≡ true) same w.1;
        no_other = λ r m x.
            let own : standing v s ≡ Some b.0 = subst (λ (z : Session). standing v z ≡ Some b.0) same w.2 in
            let low : x.lower ≡ b.0 = some_same _ _ (sym x.of_lower ∙ own) in
            let e = stands r m in
            let up : x.upper ≡ e.0 = some_same _ _ (sym x.of_upper ∙ e.1) in
            let below : candidate_cmp b.0 e.0 ≡ Less = (λ i. candidate_cmp (sym low i) (sym up i)) ∙ x.above in
            clash _ (ap is_lt below) (g.1 e.0 (candidate-In r m));
      }

  -- the greatest match is bound
  backward : (s : Session) → IsBinding v a s → bind v a ≡ Some s
  unfolding bind
  backward s x =
      let e = stands s x.fits in
      let i = candidate-In s x.fits in
      let c = greatest_some candidate_cmp candidate_ranked cs e.0 i in
      let g = greatest_is candidate_cmp candidate_ranked cs c.0 c.1 in
      let w = whose c.0 g.0 in
      let not_above : is_lt (candidate_cmp e.0 c.0) ≡ false = is_false _ (λ l. x.no_other w.0 w.1 (record {
        upper = c.0;
        lower = e.0;
        of_upper = w.2;
        of_lower = e.1;
        above = lt_less _ l;
      })) in
      let same : e.0 ≡ c.0 = both_top candidate_cmp candidate_ranked.total candidate_ranked.same e.0 c.0 not_above (g.1 e.0 i) in
      ap (option_map (λ (z : Candidate). gx z.1.1)) c.1 ∙ ap (λ (z : Candidate). Some (gx z.1.1)) (sym same)
      ∙ ap Some (ap gx (sym (id_of s (last_reached (v.shows s)) e.0 e.1)) ∙ gx_is s s.kind refl (of_gx v a s x.fits))

  -- where none is bound none matches
  none_onward : bind v a ≡ None → (s : Session) → matches v a s ≡ false
  unfolding bind
  none_onward h s = is_false _ (λ m.
      let c = greatest_some candidate_cmp candidate_ranked cs (stands s m).0 (candidate-In s m) in
      not_none (sym (ap (option_map (λ (z : Candidate). gx z.1.1)) c.1) ∙ h))
    where
      not_none : {A : Type 0} {x : A} → Some x ≡ None → ⊥
      not_none k = cc

  -- where none matches none is bound
  none_backward : ((s : Session) → matches v a s ≡ false) → bind v a ≡ None
  unfolding bind
  none_backward h = elim (greatest candidate_cmp cs) as (λ x. greatest candidate_cmp cs ≡ x → option_map (λ (z : Candidate). gx z.1.1) x ≡ None) [
    | None ↦ λ _. refl
    | Some c ↦ λ k. let w = whose c (greatest_is candidate_cmp candidate_ranked cs c k).0 in clash _ w.1 (h w.0)
  ] refl

-- both ways
pub bind-greatest : (facts : List SessionFact) (a s : Session) → bind (view facts) a ≡ Some s ↔ IsBinding (view facts) a s
bind-greatest facts a s = (onward facts a s, backward facts a s)

-- both ways
pub bind-none : (facts : List SessionFact) (a : Session) → bind (view facts) a ≡ None ↔ ((s : Session) → matches (view facts) a s ≡ false)
bind-none facts a = (none_onward facts a, none_backward facts a)
