-- The facts that tell a gateway of rules stand in the order of their names, and behind the fields of a request.
use Rattle.std.proofs.Common.{◌≡◌, ℕ, List, [], ◌∷◌, ◌++◌, map, Option, Some, None, inl, inr, refl, sym, ap, ◌∙◌, subst, flat_map, Ordering, Less, Equal}
use Rattle.std.specs.Ordering.{ordering_then}
use Rattle.std.specs.Option.{option_cmp}
use Rattle.std.specs.Cmp.{tied_itself}
use Rattle.std.proofs.lemmas.List.{map-append}
use Rattle.pcrf_values.specs.Ascending.{ascending, Rises}
use Rattle.pcrf_values.specs.Orders.{pair_cmp, text_cmp}
use Rattle.pcrf_values.specs.Sets.{In, Same}
use Rattle.pcrf_values.specs.Tags.{tag_cmp}
use Rattle.pcrf_values.specs.declared.tag.Tag.{Tag}
use Rattle.pcrf_values.proofs.PartLaws.{flat_map-In}
use Rattle.pcrf_values.proofs.AscendingLaws.{map-ascending, ascending-In, ascending-ascending, ascending-Same, ascending-itself}
use Rattle.pcrf_values.proofs.OrderLaws.{IsRanked, text_ranked, pair_ranked, option_ranked}
use Rattle.pcrf_values.proofs.SetLaws.{In-right, In-cases, map-Same, Same-back, Same-append, Same-itself}
use Rattle.pcrf_values.specs.Numbers.{request_kind_number}
use Rattle.pcrf_values.specs.RuleValues.{RuleValue, DeltaValue, rule_cmp}
use Rattle.pcrf_values.specs.Facts.{Fact, Field, fact_cmp}
use Rattle.pcrf_values.specs.Places.{SessionField, OriginHost, session_fields, OfSession, OfRuleName, place_cmp, host}
use Rattle.pcrf_values.specs.Values.{Value, Text, value_cmp, entry_cmp}
use Rattle.pcrf_values.proofs.FactLaws.{tag_ranked, rule_ranked, fact_ranked}
use Rattle.lattice_core.proofs.FieldLists.{fields_rise}
use Rattle.gx_records.specs.GxFacts.{told_value}
use Rattle.pcrf_values.specs.ToldWords.{ToldRule}
use Rattle.pcrf_model.specs.Differences.{told_name_of}
use Rattle.pcrf_model.specs.Retelling.{all_removed}
use Rattle.pcrf_model.specs.Making.{given_fact, request_says, said_facts, ccr_fields, told_facts}
use Rattle.pcrf_model.specs.Requests.{CcrValue}
use Rattle.pcrf_model.proofs.MadeForms.{said_there}
use Rattle.pcrf_model.proofs.ProvisionLaws.{IsField, of_request}
use Rattle.pcrf_model.proofs.ToldFacts.{Tells, told-tells}
use Rattle.site_machine.specs.Told.{ToldName, removed_entry, installed_entry, entries_told, told_fact}

-- names that are told, by name
abbrev pub name_cmp : ToldName → ToldName → Ordering
name_cmp = pair_cmp text_cmp (option_cmp rule_cmp)

-- they are ranked
name_ranked : IsRanked name_cmp
name_ranked = pair_ranked text_ranked (option_ranked rule_ranked)

-- what is told stands in the order of rules, with nothing first
value_order : (x y : Option RuleValue) → value_cmp (told_value x) (told_value y) ≡ option_cmp rule_cmp x y
value_order None None = refl
value_order None (Some r) = refl
value_order (Some r) None = refl
value_order (Some r) (Some q) = refl

-- facts under one tag stand as their names
told_order : (t : Tag) (x y : ToldName) → fact_cmp (told_fact t x) (told_fact t y) ≡ name_cmp x y
told_order t x y =
    ap (λ (r : Ordering). ordering_then (text_cmp x.0 y.0) (ordering_then r (value_cmp (told_value x.1) (told_value y.1)))) (tied_itself tag_ranked.total t)
    ∙ ap (ordering_then (text_cmp x.0 y.0)) (value_order x.1 y.1)

-- the facts that tell a difference are those of its names
facts_are : (t : Tag) (d : DeltaValue) → map (told_fact t) (entries_told d) ≡ told_facts t d
facts_are t d =
    map-append (told_fact t) (map removed_entry d.removed) (map installed_entry d.installed)
    ∙ (λ i. names d.removed i ++ rules d.installed i)
  where
    names : (ns : List (List ℕ)) → map (told_fact t) (map removed_entry ns) ≡ map (λ n. told_fact t (removed_entry n)) ns
    names [] = refl
    names (n ∷ ns) = ap (λ (fs : List Fact). told_fact t (removed_entry n) ∷ fs) (names ns)

    rules : (rs : List RuleValue) → map (told_fact t) (map installed_entry rs) ≡ map (λ r. told_fact t (installed_entry r)) rs
    rules [] = refl
    rules (r ∷ rs) = ap (λ (fs : List Fact). told_fact t (installed_entry r) ∷ fs) (rules rs)

module _ (t : Tag) (d : DeltaValue) where
  -- the facts, name by name
  abbrev by_name : List Fact
  by_name = map (told_fact t) (ascending name_cmp (entries_told d))

  -- they rise
  by_name_rises : Rises fact_cmp by_name
  by_name_rises = map-ascending name_cmp fact_cmp (told_fact t) (ascending name_cmp (entries_told d))
      (λ x y _ _ less. told_order t x y ∙ less)
      (ascending-ascending name_cmp name_ranked (entries_told d))

  -- and are the facts that tell it
  by_name_same : Same (told_facts t d) by_name
  by_name_same = subst (λ (fs : List Fact). Same fs by_name) (facts_are t d)
      (map-Same (told_fact t) (entries_told d) (ascending name_cmp (entries_told d))
      (Same-back (ascending name_cmp (entries_told d)) (entries_told d) (ascending-In name_cmp name_ranked (entries_told d))))

  -- so they are these in order
  pub told_in_order : by_name ≡ ascending fact_cmp (told_facts t d)
  told_in_order = sym (ascending-Same fact_cmp fact_ranked (told_facts t d) by_name by_name_same ∙ ascending-itself fact_cmp fact_ranked by_name by_name_rises)

-- names that are told away are the entries of a difference without rules
pub away_entries : (told : List ToldRule) → map (λ (p : ToldRule). removed_entry (told_name_of p)) told ≡ entries_told (all_removed told)
away_entries [] = refl
away_entries (p ∷ told) = ap (λ (es : List ToldName). removed_entry (told_name_of p) ∷ es) (away_entries told)

-- ---- behind the fields of a request

module _ (t : Tag) (says : SessionField → Option Value) where
  -- what is said in a field
  abbrev said : SessionField → List Fact
  said f = given_fact (OfSession f) t (λ x. x) (says f)

  -- a field is below what is said in one after it
  field_below : (f g : SessionField) (v : Value) (y : Fact) → place_cmp (OfSession f) (OfSession g) ≡ Less → In y (said g) → fact_cmp (Field (OfSession f) t v) y ≡ Less
  field_below f g v y l i = of_value (says g) i
    where
      of_value : (o : Option Value) → In y (given_fact (OfSession g) t (λ x. x) o) → fact_cmp (Field (OfSession f) t v) y ≡ Less
      of_value None j = absurd j
      of_value (Some w) (inl e) = ap (fact_cmp (Field (OfSession f) t v)) e ∙ ap (λ o. ordering_then o (entry_cmp (t, v) (t, w))) l
      of_value (Some w) (inr j) = absurd j

  -- so what is said in rising fields rises
  said_rises : (fs : List SessionField) → Rises (λ f g. place_cmp (OfSession f) (OfSession g)) fs → Rises fact_cmp (flat_map said fs)
  said_rises [] r = tt
  said_rises (f ∷ fs) r = of_value (said_rises fs r.1) (says f)
    where
      of_value : Rises fact_cmp (flat_map said fs) → (o : Option Value) → Rises fact_cmp (given_fact (OfSession f) t (λ x. x) o ++ flat_map said fs)
      of_value rest None = rest
      of_value rest (Some v) = (
        λ y i. let w = flat_map-In said y fs i in field_below f w.0 v y (r.0 w.0 w.1) w.2,
        rest,
      )

  -- the fields of a request stand in order
  pub fields_in_order : ascending fact_cmp (said_facts t says) ≡ said_facts t says
  fields_in_order = ascending-itself fact_cmp fact_ranked (said_facts t says) (said_rises session_fields fields_rise)

-- two lists that rise, the first below the second
rises_both : (xs ys : List Fact) → Rises fact_cmp xs → Rises fact_cmp ys → ((x y : Fact) → In x xs → In y ys → fact_cmp x y ≡ Less) → Rises fact_cmp (xs ++ ys)
rises_both [] ys s r below = r
rises_both (x ∷ xs) ys s r below = (
  λ y i. elim (In-cases y xs ys i) [ inl j ↦ s.0 y j | inr j ↦ below x y (inl refl) j ],
  rises_both xs ys s.1 r (λ z y i j. below z y (inr i) j),
)

module _ (q : CcrValue) (t g : Tag) (d : DeltaValue) where
  -- the fields
  abbrev fields : List Fact
  fields = ccr_fields q t

  -- what is told, in order
  abbrev told : List Fact
  told = ascending fact_cmp (told_facts g d)

  -- a field is below what is told of a name
  below : (x y : Fact) → In x fields → In y told → fact_cmp x y ≡ Less
  below x y i j =
      let f = of_request q t x i in
      let n = told-tells g d y ((ascending-In fact_cmp fact_ranked (told_facts g d) y).0 j) in
      (λ k. fact_cmp (f.is k) (n.is k))

  -- so all stand in order where what is told does
  pub fields_then_told : ascending fact_cmp (fields ++ told_facts g d) ≡ fields ++ told
  fields_then_told =
      let in_order = fields_in_order t (request_says q.user q.host q.realm (request_kind_number q.kind)) in
      let rise : Rises fact_cmp fields = subst (Rises fact_cmp) in_order (ascending-ascending fact_cmp fact_ranked fields) in
      let same : Same (fields ++ told_facts g d) (fields ++ told) =
      Same-append fields (told_facts g d) fields told (Same-itself fields) (Same-back told (told_facts g d) (ascending-In fact_cmp fact_ranked (told_facts g d))) in
      ascending-Same fact_cmp fact_ranked (fields ++ told_facts g d) (fields ++ told) same
      ∙ ascending-itself fact_cmp fact_ranked (fields ++ told) (rises_both fields told rise (ascending-ascending fact_cmp fact_ranked (told_facts g d)) below)

-- the host is among the fields
pub host_is_set : (q : CcrValue) (t : Tag) → In (Field host t (Text q.host)) (ccr_fields q t)
host_is_set q t = said_there (request_says q.user q.host q.realm (request_kind_number q.kind)) t OriginHost (Text q.host) refl
