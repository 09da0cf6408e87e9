-- Who has to wait after one session changed, so that all that are abandoned do.
use Rattle.std.proofs.Common.{◌≡◌, ℕ, true, false, not, ◌&&◌, List, ◌⊎◌, Option, Some, None, is_none, inl, inr, refl, sym, ap, ◌∙◌, subst}
use Rattle.std.specs.List.{list_all}
use Rattle.pcrf_values.specs.Sets.{In}
use Rattle.pcrf_values.proofs.Plain.{clash}
use Rattle.pcrf_values.specs.Live.{shows_at}
use Rattle.pcrf_values.proofs.ShownLaws.{members_show_the_same}
use Rattle.pcrf_model.specs.Aborting.{client_places, is_abandoned}
use Rattle.pcrf_model.specs.Bindings.{bind, matches, party, suits}
use Rattle.pcrf_model.specs.Holdings.{SessionFact, facts_on}
use Rattle.pcrf_model.specs.Laws.{BindsAlike, DifferInOne}
use Rattle.pcrf_model.specs.Pushing.{is_home, is_of_host}
use Rattle.pcrf_model.specs.Sessions.{Session, is_gx}
use Rattle.pcrf_model.specs.Views.{View, view}
use Rattle.pcrf_model.specs.Waiting.{Waiting, Stay}
use Rattle.pcrf_model.proofs.BindLaws.{bind-greatest, bind-none}
use Rattle.pcrf_model.proofs.NeighbourLaws.{SaysTheSame, only, said, same_life, shown_there, which}
use Rattle.rule_delta.specs.Abandoned.{AllAbandonedWait}
use Rattle.rule_delta.proofs.Parts.{of_call, unbound}

-- ---- sessions of which both views say the same

-- none is bound
none_so : (o : Option Session) → is_none o ≡ true → o ≡ None
none_so None h = refl
none_so (Some s) h = clash false h refl

module _ (v w : View) (s : Session) (h : SaysTheSame v w s) where
  -- binding reads the same
  pub same_party : party v s ≡ party w s
  same_party = λ j. party (only (shown_there v w s h j) (h.ended j)) s

  -- its host is the one that is asked for in both, or in neither
  same_host : (name : Option (List ℕ)) → is_of_host v name s ≡ is_of_host w name s
  same_host None = refl
  same_host (Some name) = λ j. is_of_host (only (shown_there v w s h j) (h.ended j)) (Some name) s

  -- one that is bound to none in both is abandoned in both or in neither
  pub same_left : (i : ℕ) (name : Option (List ℕ)) → is_none (bind v s) ≡ is_none (bind w s) → v.aborted s ≡ w.aborted s
      → is_abandoned i v name s ≡ is_abandoned i w name s
  same_left i name free asked =
      let hosts = same_host name in
      let lives = same_life v w s h in
      λ j.
      not (is_gx s.kind) && lives j && list_all (shows_at (shown_there v w s h j)) client_places
      && free j && not (asked j) && is_home i (only (shown_there v w s h j) (h.ended j)) s && hosts j

-- where binding reads the same of both, they match in both or in neither
pub same_match : (v w : View) (a s : Session) → party v a ≡ party w a → party v s ≡ party w s → matches v a s ≡ matches w a s
same_match v w a s p q = λ j. not (is_gx a.kind) && is_gx s.kind && suits (p j) (q j)

-- ---- one session changed

module _ (i : ℕ) (xs ys : List SessionFact) (d : Session) (before after : Waiting) (h : DifferInOne xs ys d)
    (all : AllAbandonedWait i (view xs) before) (stay : Stay before after) where
  -- what is read before and after
  abbrev v : View
  v = view xs

  abbrev w : View
  w = view ys

  -- another was asked to abort before and after, or neither
  same_asked : (s : Session) → (s ≡ d → ⊥) → v.aborted s ≡ w.aborted s
  unfolding view
  same_asked s n = (members_show_the_same (facts_on xs s) (facts_on ys s) (h.elsewhere s n)).aborts

  -- another session that was bound to none waits as before
  was_free : (name : List ℕ) (s : Session) → (s ≡ d → ⊥) → bind v s ≡ None → is_abandoned i w (Some name) s ≡ true → In s.id (after name)
  was_free name s n e u =
      let free : is_none (bind v s) ≡ is_none (bind w s) = ap (λ (o : Option Session). is_none o) e ∙ sym (unbound i w (Some name) s u) in
      let same = same_left v w s (said xs ys d s h n) i (Some name) free (same_asked s n) in
      stay.each name s.id (all.each name s (same ∙ u))

  -- and one that was bound was bound to the one that changed
  was_bound : (name : List ℕ) (s r : Session) → (s ≡ d → ⊥) → bind v s ≡ Some r → is_abandoned i w (Some name) s ≡ true → matches v s d ≡ true
  was_bound name s r n e u =
      let fits = ((bind-greatest xs s r).0 e).fits in
      elim (which d r) [
        | inl q ↦ subst (λ (z : Session). matches v s z ≡ true) q fits
        | inr m ↦
            let same = same_match v w s r (same_party v w s (said xs ys d s h n)) (same_party v w r (said xs ys d r h m)) in
            let none = (bind-none ys s).0 (none_so (bind w s) (unbound i w (Some name) s u)) r in
            clash (matches w s r) (sym same ∙ fits) none
      ]

  -- so it is enough that the one that changed waits, and those that it suited
  pub suited_enough : ((name : List ℕ) → is_abandoned i w (Some name) d ≡ true → In d.id (after name))
      → ((name : List ℕ) (s : Session) → matches v s d ≡ true → is_abandoned i w (Some name) s ≡ true → In s.id (after name))
      → AllAbandonedWait i w after
  suited_enough own suited = record { each = λ name s u. of name s u (which d s) }
    where
      bound : (name : List ℕ) (s : Session) → is_abandoned i w (Some name) s ≡ true → (s ≡ d → ⊥) → (o : Option Session) → bind v s ≡ o → In s.id (after name)
      bound name s u n None e = was_free name s n e u
      bound name s u n (Some r) e = suited name s (was_bound name s r n e u) u

      of : (name : List ℕ) (s : Session) → is_abandoned i w (Some name) s ≡ true → (s ≡ d) ⊎ (s ≡ d → ⊥) → In s.id (after name)
      of name s u (inl e) = subst (λ (z : Session). In z.id (after name)) (sym e) (own name (subst (λ (z : Session). is_abandoned i w (Some name) z ≡ true) e u))
      of name s u (inr n) = bound name s u n (bind v s) refl

  -- and where binding reads the same of it, it alone is
  pub alike_enough : BindsAlike v w d → AllAbandonedWait i w after
  alike_enough alike = suited_enough own suited
    where
      own : (name : List ℕ) → is_abandoned i w (Some name) d ≡ true → In d.id (after name)
      own name u = clash (is_gx d.kind) alike.of_gateway (of_call i w (Some name) d u)

      suited : (name : List ℕ) (s : Session) → matches v s d ≡ true → is_abandoned i w (Some name) s ≡ true → In s.id (after name)
      suited name s m u = elim (which d s) [
        | inl e ↦ clash (is_gx d.kind) alike.of_gateway (ap (λ (z : Session). is_gx z.kind) (sym e) ∙ of_call i w (Some name) s u)
        | inr n ↦
            let same = same_match v w s d (same_party v w s (said xs ys d s h n)) alike.reads in
            let none = (bind-none ys s).0 (none_so (bind w s) (unbound i w (Some name) s u)) d in
            clash (matches w s d) (sym same ∙ m) none
      ]
