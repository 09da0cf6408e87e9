-- What a site aborts.
use Rattle.std.proofs.Common.{◌≡◌, ℕ, ◌+◌, false, List, [], ◌∷◌, Option, Some, None, refl, sym, ap, ◌∙◌, option_map}
use Rattle.pcrf_values.proofs.Plain.{none_some, some_same}
use Rattle.pcrf_values.specs.Facts as facts
use Rattle.pcrf_model.specs.Sessions.{Session, af}
use Rattle.pcrf_model.specs.Holdings.{Holding}
use Rattle.pcrf_model.specs.Views.{View, view}
use Rattle.pcrf_model.specs.Replies.{AbortValue, Aborted}
use Rattle.pcrf_model.specs.Aborting.{abandoned_session, abort_of, abort, lacks_counter_to_abort}
use Rattle.pcrf_model.specs.Refusals.{is_clock_full}
use Rattle.pcrf_model.proofs.AbortingLaws.{first_abandoned, abandoned_kind}
use Rattle.site_machine.specs.Facts.{operation_on_call}
use Rattle.site_machine.specs.Sites.{SiteValue, abort_outcome_at}
use Rattle.rule_delta.proofs.Firsts.{af_is}

module _ (s : SiteValue) (name : Option (List ℕ)) where
  -- what is held
  abbrev h : Holding
  h = s.state.holding

  -- what is read of it
  abbrev v : View
  v = view h.facts

  -- the session that is abandoned
  abbrev next : Option Session
  next = abandoned_session s.number v name

  -- its abort
  abbrev out : Option AbortValue
  out = option_map (abort_of v) next

  -- none is abandoned where none is aborted
  none_left : (o : Option Session) → option_map (abort_of v) o ≡ None → o ≡ None
  none_left None e = refl
  none_left (Some r) e = none_some (abort_of v r) (sym e)

  -- then nothing happens
  pub nothing_is : None ≡ out → abort_outcome_at s name ≡ record { reply = Aborted None; added = None }
  unfolding abort
  nothing_is e = rw (none_left next (sym e)) refl

  -- and no counter is wanted
  pub nothing_lacks : None ≡ out → lacks_counter_to_abort s.number h name ≡ false
  unfolding lacks_counter_to_abort
  nothing_lacks e = rw (none_left next (sym e)) refl

  -- a session is abandoned where one is aborted
  record IsAborted (p : AbortValue) : Type 0 where
    session : Session
    is_next : next ≡ Some session
    is : p ≡ abort_of v session
    named : af p.session ≡ session

  is_aborted : (p : AbortValue) → Some p ≡ out → IsAborted p
  is_aborted p e = by_next next refl
    where
      by_next : (o : Option Session) → next ≡ o → IsAborted p
      by_next None k = none_some p (sym (e ∙ ap (option_map (abort_of v)) k))
      by_next (Some r) k =
          let same : p ≡ abort_of v r = some_same p (abort_of v r) (e ∙ ap (option_map (abort_of v)) k) in
          let one = (first_abandoned s.number h.facts name r k).is_one in
          record {
            session = r;
            is_next = k;
            is = same;
            named = ap (λ (x : AbortValue). af x.session) same ∙ af_is r r.kind refl (abandoned_kind s.number v name r one);
          }

  -- the abort and its operation
  pub something_is : (p : AbortValue) → Some p ≡ out
      → abort_outcome_at s name ≡ record { reply = Aborted (Some p); added = Some (operation_on_call s.number (h.clock + 1) p.session (facts.Aborted ∷ [])) }
  unfolding abort
  something_is p e =
      let w = is_aborted p e in
      rw (w.is_next) (λ i. record {
        reply = Aborted (Some (sym w.is i));
        added = Some (record { counter = h.clock + 1; site = s.number; number = 0; session = sym w.named i; facts = facts.Aborted ∷ [] });
      })

  -- a counter is wanted for it
  pub something_lacks : (p : AbortValue) → Some p ≡ out → lacks_counter_to_abort s.number h name ≡ is_clock_full h
  unfolding lacks_counter_to_abort
  something_lacks p e = rw ((is_aborted p e).is_next) refl
