-- What a site pushes.
use Rattle.std.proofs.Common.{◌≡◌, ℕ, ◌+◌, true, false, List, Option, Some, None, refl, sym, ap, ◌∙◌, option_map}
use Rattle.std.specs.Cmp.{first_so}
use Rattle.pcrf_values.proofs.Plain.{none_some, some_same}
use Rattle.pcrf_values.specs.Limits.{delta_limit}
use Rattle.pcrf_model.specs.Serving.{delta_of}
use Rattle.pcrf_model.specs.Sessions.{Session, gx, is_gx}
use Rattle.pcrf_model.specs.Holdings.{Holding}
use Rattle.pcrf_model.specs.Views.{View, view}
use Rattle.pcrf_model.specs.Tables.{Tables}
use Rattle.pcrf_model.specs.Replies.{PushValue, Pushed}
use Rattle.pcrf_model.specs.Pushing.{due_session, push, lacks_counter}
use Rattle.pcrf_model.specs.Refusals.{is_clock_full}
use Rattle.site_machine.specs.Sites.{SiteValue}
use Rattle.pcrf_model.proofs.BindLaws.{gx_is}
use Rattle.pcrf_model.proofs.DueLaws.{first_due}
use Rattle.rule_delta.specs.Pushed.{push_of}
use Rattle.site_machine.specs.Facts.{operation_pushed}
use Rattle.site_machine.specs.Sites.{push_outcome_at}

module _ (s : SiteValue) (name : Option (List ℕ)) where
  -- the operator tables
  abbrev t : Tables
  t = s.tables

  -- what is held
  abbrev h : Holding
  h = s.state.holding

  -- what is read of it
  abbrev v : View
  v = view h.facts

  -- the session that is due
  abbrev next : Option Session
  next = due_session t s.number v name

  -- its push
  abbrev out : Option PushValue
  out = option_map (push_of t v) next

  -- none is due where none is pushed
  none_due : (o : Option Session) → option_map (push_of t v) o ≡ None → o ≡ None
  none_due None e = refl
  none_due (Some r) e = none_some (push_of t v r) (sym e)

  -- then nothing happens
  pub nothing_is : None ≡ out → push_outcome_at s name ≡ record { reply = Pushed None; added = None }
  unfolding push
  nothing_is e = rw (none_due next (sym e)) refl

  -- and no counter is wanted
  pub nothing_lacks : None ≡ out → lacks_counter t s.number h name ≡ false
  unfolding lacks_counter
  nothing_lacks e = rw (none_due next (sym e)) refl

  -- where none is due none is pushed
  pub nothing_out : next ≡ None → None ≡ out
  nothing_out e = sym (ap (option_map (push_of t v)) e)

  -- a session is due where one is pushed
  record IsPushed (p : PushValue) : Type 0 where
    session : Session
    is_due : next ≡ Some session
    is : p ≡ push_of t v session
    named : gx p.session ≡ session

  is_pushed : (p : PushValue) → Some p ≡ out → IsPushed p
  is_pushed p e = by_due next refl
    where
      by_due : (o : Option Session) → next ≡ o → IsPushed p
      by_due None h = none_some p (sym (e ∙ ap (option_map (push_of t v)) h))
      by_due (Some r) h =
          let same : p ≡ push_of t v r = some_same p (push_of t v r) (e ∙ ap (option_map (push_of t v)) h) in
          let f = first_due t s.number s.state.holding.facts name r h in
          let of_gateway : is_gx r.kind ≡ true = first_so (is_gx r.kind) _ (first_so _ _ (first_so _ _ (first_so _ _ f.is_one))) in
          record {
            session = r;
            is_due = h;
            is = same;
            named = ap (λ (x : PushValue). gx x.session) same ∙ gx_is r r.kind refl of_gateway;
          }

  -- its session is due
  pub session_due : (p : PushValue) → Some p ≡ out → due_session s.tables s.number (view s.state.holding.facts) name ≡ Some (gx p.session)
  session_due p e = let w = is_pushed p e in w.is_due ∙ ap (λ (r : Session). Some r) (sym w.named)

  -- and what it tells are the first entries of the session's difference
  pub pushed_delta : (p : PushValue) → Some p ≡ out → p.delta ≡ delta_of delta_limit s.tables (view s.state.holding.facts) (gx p.session)
  pushed_delta p e = let w = is_pushed p e in ap (λ (x : PushValue). x.delta) w.is ∙ ap (λ (r : Session). delta_of delta_limit t v r) (sym w.named)

  -- the push and its operation
  pub something_is : (p : PushValue) → Some p ≡ out → push_outcome_at s name ≡ record { reply = Pushed (Some p); added = Some (operation_pushed s.number (h.clock + 1) p.session p.delta) }
  unfolding push
  something_is p e =
      let w = is_pushed p e in
      rw (w.is_due) (λ i. record {
        reply = Pushed (Some (sym w.is i));
        added = Some (record { counter = h.clock + 1; site = s.number; number = 0; session = sym w.named i; facts = (operation_pushed s.number (h.clock + 1) p.session (sym w.is i).delta).facts });
      })

  -- a counter is wanted for it
  pub something_lacks : (p : PushValue) → Some p ≡ out → lacks_counter t s.number h name ≡ is_clock_full h
  unfolding lacks_counter
  something_lacks p e = rw ((is_pushed p e).is_due) refl
