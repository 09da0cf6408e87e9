-- What a session has when its gateway is told of rules, where the fields of the request are set already; and when it is ended.
use Rattle.std.proofs.Common.{◌≡◌, ℕ, ◌≤◌, max, true, false, List, [], ◌∷◌, ◌++◌, length, Option, Some, None, IfSome, inl, refl, sym, ap, ◌∙◌, subst, append_assoc, arith}
use Rattle.std.proofs.lemmas.List.{append-nil}
use Rattle.pcrf_values.specs.Ascending.{ascending}
use Rattle.pcrf_values.specs.Sets.{In, Same}
use Rattle.pcrf_values.specs.declared.tag.Tag.{Tag}
use Rattle.pcrf_values.proofs.Plain.{clash}
use Rattle.pcrf_values.proofs.SetLaws.{In-right}
use Rattle.pcrf_values.specs.Limits.{session_id_limit}
use Rattle.pcrf_values.specs.RuleValues.{DeltaValue}
use Rattle.pcrf_values.specs.Facts.{Fact, End, Removed, Aborted, Field, fact_cmp, is_shaded_by}
use Rattle.pcrf_values.specs.Held.{kept_list, join_of, kept_set}
use Rattle.pcrf_values.proofs.JoinedLaws.{kept-In, In-kept, sorted-In, sorted-Same, joined-held}
use Rattle.pcrf_model.specs.Holdings.{Holding, facts_on, kept_of}
use Rattle.pcrf_model.specs.Operations.{Operation, with_operation}
use Rattle.pcrf_model.specs.Requests.{CcrValue}
use Rattle.pcrf_model.specs.Forms.{is_record, is_stamp, is_text}
use Rattle.pcrf_model.specs.Making.{told_facts}
use Rattle.pcrf_model.specs.Sessions.{Gx}
use Rattle.pcrf_model.proofs.GatewayForms.{CanTell}
use Rattle.pcrf_model.proofs.RecordForms.{operation_record}
use Rattle.pcrf_model.proofs.ToldFacts.{told-tells}
use Rattle.indexed_state.specs.Indexed.{tells}
use Rattle.indexed_state.proofs.PlacedRecord.{held-append, taken_facts}
use Rattle.site_machine.specs.Told.{facts_told}
use Rattle.site_machine.specs.Facts.{operation_pushed, operation_with}
use Rattle.site_machine.proofs.Formed.{pushed_formed}

-- ---- what is told

module _ (h : Holding) (made : Operation) (is_kept : kept_of h ≡ h) (is_set : kept_of (with_operation h made) ≡ h) where
  -- the facts of the session
  abbrev own : List Fact
  own = facts_on h.facts made.session

  -- the operation's are among them
  own_is : own ≡ kept_list (own ++ made.facts)
  own_is =
      sym (ap (λ (k : Holding). facts_on k.facts made.session) is_set)
      ∙ taken_facts h made is_kept (max h.clock made.counter) refl
      ∙ held-append own made.facts

  -- so what is told is all that is joined
  pub told_joins : (told : List Fact) → join_of (facts_on h.facts made.session) (kept_list told) ≡ join_of (facts_on h.facts made.session) (kept_list (made.facts ++ told))
  told_joins told =
      held-append own told
      ∙ ap (λ (fs : List Fact). join_of fs told) own_is
      ∙ joined-held (own ++ made.facts) told
      ∙ ap kept_list (append_assoc own made.facts told)
      ∙ sym (held-append own (made.facts ++ told))

-- told nothing, a site holds what it held
pub told_nothing : (h : Holding) (site counter : ℕ) (q : CcrValue) (fields told : List Fact) → told ≡ [] → kept_of (with_operation h (operation_with site counter q fields)) ≡ h
    → kept_of (with_operation h (operation_with site counter q (fields ++ told))) ≡ h
told_nothing h site counter q fields told none is_set =
    ap (λ (fs : List Fact). kept_of (with_operation h (operation_with site counter q (fields ++ fs)))) none
    ∙ ap (λ (fs : List Fact). kept_of (with_operation h (operation_with site counter q fs))) (append-nil fields)
    ∙ is_set

-- what is told makes a record, if it is something
pub told_record : (counter i : ℕ) (session : List ℕ) (d : DeltaValue) → is_stamp counter i ≡ true → is_text session_id_limit session ≡ true → CanTell d
    → (facts_told i counter d ≡ [] → ⊥) → is_record Gx (facts_told i counter d) ≡ true
told_record counter i session d stamp text tell some =
    operation_record (operation_pushed i counter session d)
    (pushed_formed counter i session d stamp text tell (one_told (told_facts (record { number = 0; counter = counter; site = i }) d) some))
  where
    one_told : (fs : List Fact) → (ascending fact_cmp fs ≡ [] → ⊥) → 1 ≤ length fs
    one_told [] n = absurd (n refl)
    one_told (f ∷ fs) n = omega arith

-- each fact of it tells something
pub told_each : (counter i : ℕ) (d : DeltaValue) (fs : List Fact) → fs ≡ facts_told i counter d → (f : Fact) → In f fs → tells f ≡ true
told_each counter i d fs is f m =
    let u : Tag = record { number = 0; counter = counter; site = i } in
    let there : In f (facts_told i counter d) = subst (λ (l : List Fact). In f l) is m in
    ap tells (told-tells u d f ((sorted-In (told_facts u d) f).0 there)).is

-- what holds of something holds, where it is enough
pub some_weaker : {A : Type 0} (o : Option A) (P Q : A → Type 0) → ((x : A) → P x → Q x) → IfSome o P → IfSome o Q
some_weaker None P Q h i = tt
some_weaker (Some x) P Q h i = h x i

-- ---- the end

-- what the end doesn't overshadow is the end
is_the_end : (f : Fact) → is_shaded_by f End ≡ false → f ≡ End
is_the_end End h = refl
is_the_end (Removed r) h = clash true refl h
is_the_end Aborted h = clash true refl h
is_the_end (Field p t v) h = clash true refl h

-- with the end nothing else is kept
ends_all : (fs : List Fact) → Same (kept_set (fs ++ End ∷ [])) (kept_set (End ∷ []))
ends_all fs f = (there, back)
  where
    last : In End (fs ++ End ∷ [])
    last = In-right End fs (End ∷ []) (inl refl)

    end_kept : (xs : List Fact) → In End xs → In End (kept_set xs)
    end_kept xs i = In-kept End xs i (λ g j. refl)

    there : In f (kept_set (fs ++ End ∷ [])) → In f (kept_set (End ∷ []))
    there i =
        let is : f ≡ End = is_the_end f ((kept-In f (fs ++ End ∷ []) i).1 End last) in
        subst (λ (x : Fact). In x (kept_set (End ∷ []))) (sym is) (end_kept (End ∷ []) (inl refl))

    back : In f (kept_set (End ∷ [])) → In f (kept_set (fs ++ End ∷ []))
    back i =
        let is : f ≡ End = is_the_end f ((kept-In f (End ∷ []) i).1 End (inl refl)) in
        subst (λ (x : Fact). In x (kept_set (fs ++ End ∷ []))) (sym is) (end_kept (fs ++ End ∷ []) last)

-- a session with the end has the end alone
pub end_joins : (fs : List Fact) → End ∷ [] ≡ join_of fs (kept_list (End ∷ []))
end_joins fs = sym (held-append fs (End ∷ []) ∙ sorted-Same (kept_set (fs ++ End ∷ [])) (kept_set (End ∷ [])) (ends_all fs))
