-- What the definitions give to an accepted request whose session comes alone: its gateway is told what it lacks of the operator's rules.
use Rattle.std.proofs.Common.{◌≡◌, ℕ, ◌+◌, max, true, List, [], ◌++◌, map, Option, Some, IfSome, refl, sym, ap, ◌∙◌, subst}
use Rattle.std.proofs.lemmas.List.{append-nil}
use Rattle.pcrf_values.specs.Sets.{In, Distinct}
use Rattle.pcrf_values.specs.Limits.{delta_limit}
use Rattle.pcrf_values.specs.RuleValues.{RuleValue, DeltaValue}
use Rattle.pcrf_values.specs.Facts.{Fact}
use Rattle.pcrf_values.specs.Held.{kept_list, join_of}
use Rattle.pcrf_values.specs.ToldWords.{told_rules}
use Rattle.pcrf_values.proofs.JoinedLaws.{joined-held, joined_assoc}
use Rattle.pcrf_model.specs.Differences.{difference, first, rule_name_of, told_rules_of}
use Rattle.pcrf_model.specs.Holdings.{Holding, facts_on, kept_of}
use Rattle.pcrf_model.specs.Laws.{DifferInOne}
use Rattle.pcrf_model.specs.Operations.{Operation, with_operation}
use Rattle.pcrf_model.specs.Replies.{OnGx, Granted}
use Rattle.pcrf_model.specs.Requests.{CcrValue}
use Rattle.pcrf_model.specs.Rules.{rules}
use Rattle.pcrf_model.specs.Serving.{delta_of, provision_outcome}
use Rattle.pcrf_model.specs.Sessions.{gx}
use Rattle.pcrf_model.specs.Views.{view}
use Rattle.pcrf_model.proofs.TakingLaws.{taking_changes_one}
use Rattle.rule_delta.proofs.ToldAlone.{told_alone}
use Rattle.indexed_state.specs.Alike.{ShowAlike}
use Rattle.indexed_state.specs.Indexed.{tells}
use Rattle.indexed_state.specs.Opened.{IsAlone, OpensAlone}
use Rattle.indexed_state.proofs.Opening.{alike_itself, opens_alike}
use Rattle.indexed_state.proofs.PlacedRecord.{held-append, put_known}
use Rattle.indexed_state.proofs.Telling.{told_alike}
use Rattle.site_machine.specs.Facts.{fields_of, opens, operation_made, operation_told}
use Rattle.site_machine.specs.Replies.{quality_shown}
use Rattle.site_machine.specs.Sites.{SiteValue}
use Rattle.site_machine.proofs.Replies.{provisioned_is, quality_is}

-- ---- records with more facts

-- told nothing, a record is what it was
pub joined_nothing : (known told : List Fact) → kept_list known ≡ known → told ≡ [] → known ≡ join_of known (kept_list told)
joined_nothing known told valid none =
    sym (ap (λ (fs : List Fact). join_of known (kept_list fs)) none ∙ held-append known [] ∙ ap kept_list (append-nil known) ∙ valid)

-- some facts and then others are joined as both at once
pub joined_twice : (own fields told : List Fact) → join_of (join_of own (kept_list fields)) (kept_list told) ≡ join_of own (kept_list (fields ++ told))
joined_twice own fields told =
    joined_assoc own (kept_list fields) (kept_list told)
    ∙ ap (join_of own) (joined-held fields (kept_list told) ∙ held-append fields told)

-- what holds of something, where it is there
pub of_some : {A : Type 0} (o : Option A) (x : A) (P : A → Type 0) → o ≡ Some x → IfSome o P → P x
of_some o x P is holds = subst (λ z. IfSome z P) is holds

-- ---- the request

module _ (s : SiteValue) (q : CcrValue) (kept : kept_of s.state.holding ≡ s.state.holding) (known : List Fact) (rs : List RuleValue)
    (joins : known ≡ join_of (facts_on s.state.holding.facts (gx q.session)) (kept_list (fields_of s.number (s.state.holding.clock + 1) q q.kind)))
    (comes : OpensAlone s.tables s.state.holding q.session known rs) where
  -- what is held
  abbrev h : Holding
  h = s.state.holding

  -- the operation of the fields
  abbrev made : Operation
  made = operation_made s.number (s.state.holding.clock + 1) q q.kind

  -- what is held with it
  abbrev k : Holding
  k = kept_of (with_operation h made)

  -- what its gateway is told
  abbrev delta : DeltaValue
  delta = first delta_limit (difference (told_rules known) rs)

  -- the record is what is known then
  there : known ≡ facts_on k.facts (gx q.session)
  there = put_known h made kept (max h.clock made.counter) refl (gx q.session) refl known joins

  -- and no other session's is another
  differs : DifferInOne h.facts k.facts (gx q.session)
  differs = taking_changes_one h made kept

  -- so the session is alone
  alone : IsAlone s.tables k q.session rs
  alone = comes.alone k differs (subst (ShowAlike known) there (alike_itself known))

  -- no two of its rules have one name
  pub names_apart : Distinct (map rule_name_of (rules s.tables (view k.facts) (gx q.session)))
  names_apart = subst (λ (xs : List RuleValue). Distinct (map rule_name_of xs)) (sym alone.has) alone.apart

  -- what was told is read of the record
  told_is : told_rules known ≡ told_rules_of (view k.facts) (gx q.session)
  told_is = ap told_rules there ∙ told_alone k.facts (gx q.session)

  -- so its gateway is told what the definitions tell it
  pub delta_is : first delta_limit (difference (told_rules known) rs) ≡ delta_of delta_limit s.tables (view k.facts) (gx q.session)
  delta_is = λ i. first delta_limit (difference (told_is i) (sym alone.has i))

  -- and this is what the request gives
  pub granted_is : opens q.kind ≡ true → provision_outcome delta_limit s.tables s.number h q
      ≡ record { reply = OnGx (Granted delta (quality_shown s.tables known)); added = Some (operation_told s.number (h.clock + 1) q q.kind delta) }
  granted_is opening =
      let quality = quality_is s.tables k.facts (gx q.session) ∙ ap (quality_shown s.tables) (sym there) in
      let told = sym delta_is in
      provisioned_is s.tables s.number h q q.kind opening
      ∙ (λ i. record { reply = OnGx (Granted (told i) (quality i)); added = Some (operation_told s.number (h.clock + 1) q q.kind (told i)) })

-- with what is told a session comes alone as without
pub comes_told : (s : SiteValue) (id : List ℕ) (known told both : List Fact) (rs : List RuleValue) → ((f : Fact) → In f told → tells f ≡ true) → both ≡ join_of known (kept_list told)
    → OpensAlone s.tables s.state.holding id known rs → OpensAlone s.tables s.state.holding id both rs
comes_told s id known told both rs each is comes =
    opens_alike s.tables s.state.holding id known both rs (subst (ShowAlike known) (sym is) (told_alike known told each)) comes
