-- Where a gateway is told something, nothing else changes: no binding, no list of rules, and no session has to be listed.
use Rattle.std.proofs.Common.{◌≡◌, ℕ, Bool, true, false, not, ◌&&◌, List, ◌++◌, None, inl, inr, refl, sym, ap, ◌∙◌, subst, option_map}
use Rattle.pcrf_values.specs.Sets.{In}
use Rattle.pcrf_values.proofs.Plain.{clash}
use Rattle.pcrf_values.specs.Facts.{Fact, End, Removed, Field, Aborted}
use Rattle.pcrf_values.specs.Held.{kept_list, join_of, is_ended, entry_shown}
use Rattle.pcrf_values.specs.FlowWords.{value_at}
use Rattle.pcrf_values.specs.Live.{Shows, gx_has_what_it_needs}
use Rattle.pcrf_values.specs.Places.{Place, OfSession, OfComponent, OfFlow, OfRuleName, address, prefix, apn, subscribers}
use Rattle.pcrf_values.specs.Values.{Entry}
use Rattle.pcrf_values.proofs.ShownLaws.{shown-held, is_ended-held}
use Rattle.pcrf_model.specs.Bindings.{Party, Stamp, last_reached}
use Rattle.pcrf_model.specs.Holdings.{Holding, facts_on}
use Rattle.pcrf_model.specs.Laws.{DifferInOne, BindsAlike}
use Rattle.pcrf_model.specs.Sessions.{gx}
use Rattle.pcrf_model.specs.Tables.{Tables}
use Rattle.pcrf_model.specs.Views.{view}
use Rattle.pcrf_model.proofs.ToldFacts.{Tells, is_told, field_shows, ended_same}
use Rattle.bind_index.specs.Index.{IndexValue}
use Rattle.pcc_rules.specs.Cached.{RulesValue}
use Rattle.rule_delta.specs.Waits.{WaitingValue, Keeps, WaitsIfDue}
use Rattle.indexed_state.specs.Alike.{ShowAlike}
use Rattle.indexed_state.specs.Indexed.{Agree, IsTold, tells}
use Rattle.indexed_state.proofs.BindingAlike.{agree_alike}
use Rattle.indexed_state.proofs.PlacedRecord.{held-append}

-- such a fact tells something of a rule's name
its_name : (f : Fact) → tells f ≡ true → Tells f
its_name End h = clash false h refl
its_name (Removed r) h = clash false h refl
its_name (Field (OfSession g) t v) h = clash false h refl
its_name (Field (OfComponent c g) t v) h = clash false h refl
its_name (Field (OfFlow c n g) t v) h = clash false h refl
its_name Aborted h = clash false h refl
its_name (Field (OfRuleName n) t v) h = record { name = n; tag = t; value = v; is = refl }

-- what shows at the places of the session's fields alone
abbrev own_fields : Shows → Shows
own_fields shows (OfSession f) = shows (OfSession f)
own_fields shows (OfComponent c f) = None
own_fields shows (OfFlow c n f) = None
own_fields shows (OfRuleName n) = None

-- a record shows alike with what its gateway is told and without
module _ (own told : List Fact) (each : (f : Fact) → In f told → tells f ≡ true) where
  -- with it
  abbrev both : List Fact
  both = join_of own (kept_list told)

  all_tell : (f : Fact) → In f told → Tells f
  all_tell f i = its_name f (each f i)

  -- a place that is no rule's name shows what it showed
  field_stays : (p : Place) → is_told p ≡ false → entry_shown own p ≡ entry_shown both p
  field_stays p n = sym (ap (λ (fs : List Fact). entry_shown fs p) (held-append own told) ∙ shown-held (own ++ told) p ∙ field_shows own told all_tell p n)

  -- and so do the fields of the session
  fields_stay : own_fields (entry_shown own) ≡ own_fields (entry_shown both)
  fields_stay = λ i p. each_place p i
    where
      each_place : (p : Place) → own_fields (entry_shown own) p ≡ own_fields (entry_shown both) p
      each_place (OfSession f) = field_stays (OfSession f) refl
      each_place (OfComponent c f) = refl
      each_place (OfFlow c n f) = refl
      each_place (OfRuleName n) = refl

  -- and the end
  end_stays : is_ended own ≡ is_ended both
  end_stays = sym (ap is_ended (held-append own told) ∙ is_ended-held (own ++ told) ∙ ended_same own told all_tell)

  pub told_alike : ShowAlike own (join_of own (kept_list told))
  told_alike = record {
    lives = λ i. not (end_stays i) && gx_has_what_it_needs (fields_stay i);
    at_address = field_stays address refl;
    at_prefix = field_stays prefix refl;
    at_apn = λ i. value_at (fields_stay i) apn;
    of_subscribers = λ i. value_at (fields_stay i) subscribers;
  }

module _ (h k : Holding) (id : List ℕ) (known : List Fact) (told : IsTold h (gx id) known) (there : known ≡ facts_on k.facts (gx id)) (differs : DifferInOne h.facts k.facts (gx id)) where
  -- the session's facts before
  abbrev own : List Fact
  own = facts_on h.facts (gx id)

  each_tells : (f : Fact) → In f told.told → Tells f
  each_tells f i = its_name f (told.each f i)

  -- those after are what is kept of these and of what is told
  now_is : facts_on k.facts (gx id) ≡ kept_list (own ++ told.told)
  now_is = sym there ∙ told.joins ∙ held-append own told.told

  -- so a place that is no rule's name shows what it showed
  shows_on : (p : Place) → is_told p ≡ false → entry_shown own p ≡ entry_shown (facts_on k.facts (gx id)) p
  shows_on p n = sym (ap (λ (fs : List Fact). entry_shown fs p) now_is ∙ shown-held (own ++ told.told) p ∙ field_shows own told.told each_tells p n)

  -- and so do the fields of the session
  fields_on : own_fields (entry_shown own) ≡ own_fields (entry_shown (facts_on k.facts (gx id)))
  fields_on = λ i p. each p i
    where
      each : (p : Place) → own_fields (entry_shown own) p ≡ own_fields (entry_shown (facts_on k.facts (gx id))) p
      each (OfSession f) = shows_on (OfSession f) refl
      each (OfComponent c f) = refl
      each (OfFlow c n f) = refl
      each (OfRuleName n) = refl

  -- and the session is ended just where it was
  ended_on : is_ended own ≡ is_ended (facts_on k.facts (gx id))
  ended_on = sym (ap is_ended now_is ∙ is_ended-held (own ++ told.told) ∙ ended_same own told.told each_tells)

  -- it binds as before
  alike : BindsAlike (view h.facts) (view k.facts) (gx id)
  unfolding view
  alike = record {
    of_gateway = refl;
    reads = λ i. record {
      live = not (ended_on i) && gx_has_what_it_needs (fields_on i);
      address = value_at (fields_on i) address;
      prefix = value_at (fields_on i) prefix;
      subscribers = value_at (fields_on i) subscribers;
      apn = value_at (fields_on i) apn;
    };
    stands = ap (λ (shows : Shows). option_map (λ (t : Stamp). (t.0, (t.1, id))) (last_reached shows)) fields_on;
  }

  -- so the parts agree, where the session waits
  pub agree_told : (t : Tables) (i : ℕ) (b : Bool) (index : IndexValue) (r : RulesValue) (u w x : WaitingValue) → Keeps u w → WaitsIfDue (view k.facts) w (gx id)
      → Agree t i h b index r u x → Agree t i k b index r w x
  agree_told = agree_alike h k id differs alike
