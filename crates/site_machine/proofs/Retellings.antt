-- What a site retells.
use Rattle.std.proofs.lemmas.Bool.Decides.{nat_tests}
use Rattle.std.proofs.Common.{◌≡◌, ℕ, suc, ◌+◌, ◌<◌, Bool, true, false, cond, not, ◌&&◌, ◌==◌, List, [], ◌∷◌, length, Some, refl, sym, ap, ◌∙◌, arith}
use Rattle.pcrf_values.proofs.Plain.{clash}
use Rattle.pcrf_values.specs.Limits.{site_limit}
use Rattle.pcrf_values.specs.Live.{gx_is_live}
use Rattle.pcrf_values.specs.ToldWords.{ToldRule}
use Rattle.pcrf_model.specs.Sessions.{gx}
use Rattle.pcrf_model.specs.Holdings.{facts_on, Holding}
use Rattle.pcrf_model.specs.Views.{View, view}
use Rattle.pcrf_model.specs.Live.{is_live}
use Rattle.pcrf_model.specs.Differences.{told_rules_of, is_empty}
use Rattle.pcrf_model.specs.Refusals.{is_clock_full}
use Rattle.pcrf_model.specs.Replies.{Retold, Outcome}
use Rattle.pcrf_model.specs.Retelling.{all_removed, was_told, nothing_retold, lacks_counter_to_retell}
use Rattle.pcrf_model.specs.Forms.{is_operation, is_holding}
use Rattle.pcrf_model.proofs.RetellingLaws.{not_none_away, retell_by, lacks_to_retell_by, retelling_in_form}
use Rattle.site_machine.specs.Facts.{operation_pushed}
use Rattle.site_machine.specs.Sites.{SiteValue, retell_outcome_at}

-- a session is live by its own facts
pub live_is : (h : Holding) (id : List ℕ) → is_live (view h.facts) (gx id) ≡ gx_is_live (facts_on h.facts (gx id))
unfolding view
live_is h id = refl

-- a list of no member is empty
no_member_is : (told : List ToldRule) → (length told == 0) ≡ true → told ≡ []
no_member_is [] e = refl
no_member_is (p ∷ told) e = absurd (above (length told) e)
  where
    above : (n : ℕ) → (suc n == 0) ≡ true → ⊥
    above n e = grind (arith, nat_tests, e)

-- and one of some isn't
member_is : (told : List ToldRule) → (length told == 0) ≡ false → told ≡ [] → ⊥
member_is told e none = clash (length told == 0) (ap (λ (t : List ToldRule). length t == 0) none) e

module _ (s : SiteValue) (id : List ℕ) where
  -- what is held
  abbrev h : Holding
  h = s.state.holding

  -- what is read of it
  abbrev v : View
  v = view h.facts

  -- all that the gateway of the session was told
  abbrev all : List ToldRule
  all = told_rules_of v (gx id)

  -- where the session is live, and else nothing
  abbrev pub told_if_live : List ToldRule
  told_if_live = cond (is_live v (gx id)) all []

  -- where that is nothing the gateway was told none, or of no live session
  not_told : told_if_live ≡ [] → was_told v (gx id) ≡ false
  not_told = by (is_live v (gx id))
    where
      by : (b : Bool) → cond b all [] ≡ [] → (b && not (is_empty (all_removed all))) ≡ false
      by false e = refl
      by true e = ap (λ (t : List ToldRule). not (is_empty (all_removed t))) e

  -- then nothing happens
  nothing_is : told_if_live ≡ [] → retell_outcome_at s id ≡ nothing_retold
  nothing_is e = retell_by s.number h id false (not_told e)

  -- and no counter is wanted
  nothing_lacks : told_if_live ≡ [] → lacks_counter_to_retell h id ≡ false
  nothing_lacks e = lacks_to_retell_by h id false (not_told e)

  -- and else it was told some, of a live session
  record IsTold : Type 0 where
    told : was_told v (gx id) ≡ true
    is : told_if_live ≡ all

  is_told : (told_if_live ≡ [] → ⊥) → IsTold
  is_told = by (is_live v (gx id)) refl
    where
      by : (b : Bool) → is_live v (gx id) ≡ b → (cond b all [] ≡ [] → ⊥) → IsTold
      by false e some = absurd (some refl)
      by true e some = record {
        told = λ i. e i && not_none_away all some i;
        is = ap (λ b. cond b all []) e;
      }

  -- then each name is told away by an operation
  something_is : (told_if_live ≡ [] → ⊥)
      → retell_outcome_at s id ≡ record { reply = Retold true; added = Some (operation_pushed s.number (h.clock + 1) id (all_removed told_if_live)) }
  something_is some =
      let w = is_told some in
      let outcome : List ToldRule → Outcome = λ t. record { reply = Retold true; added = Some (operation_pushed s.number (h.clock + 1) id (all_removed t)) } in
      retell_by s.number h id true w.told ∙ sym (ap outcome w.is)

  -- and a counter is wanted for it
  something_lacks : (told_if_live ≡ [] → ⊥) → lacks_counter_to_retell h id ≡ is_clock_full h
  something_lacks some = lacks_to_retell_by h id true (is_told some).told

  -- the same of a list that is that, by whether it has a member
  module _ (told : List ToldRule) (is : told ≡ told_if_live) where
    pub nothing_retold_is : (length told == 0) ≡ true → retell_outcome_at s id ≡ nothing_retold
    nothing_retold_is none = nothing_is (sym is ∙ no_member_is told none)

    pub nothing_wanted : (length told == 0) ≡ true → lacks_counter_to_retell h id ≡ false
    nothing_wanted none = nothing_lacks (sym is ∙ no_member_is told none)

    module _ (some : (length told == 0) ≡ false) where
      pub retold_is : retell_outcome_at s id ≡ record { reply = Retold true; added = Some (operation_pushed s.number (h.clock + 1) id (all_removed told)) }
      retold_is =
          let outcome : List ToldRule → Outcome = λ t. record { reply = Retold true; added = Some (operation_pushed s.number (h.clock + 1) id (all_removed t)) } in
          something_is (λ e. member_is told some (is ∙ e)) ∙ sym (ap outcome is)

      pub counter_wanted : lacks_counter_to_retell h id ≡ is_clock_full h
      counter_wanted = something_lacks (λ e. member_is told some (is ∙ e))

      -- what is added is of the form
      pub retold_formed : (n : ℕ) → n ≡ h.clock + 1 → s.number < site_limit → is_holding h ≡ true → is_clock_full h ≡ false
          → is_operation (operation_pushed s.number n id (all_removed told)) ≡ true
      retold_formed n next site form open_ =
          let made : ℕ → Outcome = λ m. record { reply = Retold true; added = Some (operation_pushed s.number m id (all_removed told)) } in
          retelling_in_form s.number h id (operation_pushed s.number n id (all_removed told)) site form
          (counter_wanted ∙ open_) (ap (λ (o : Outcome). o.added) (retold_is ∙ ap made (sym next)))
