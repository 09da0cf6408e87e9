-- What the code reads of records, and what it adds to those that wait.
use Rattle.std.proofs.Common.{◌≡◌, ℕ, List, Option, Some, None, ap, ◌∙◌, subst, option_map, option_and_then}
use Rattle.pcrf_values.specs.Orders.{text_cmp}
use Rattle.pcrf_values.specs.Sets.{In}
use Rattle.pcrf_values.proofs.OrderLaws.{text_ranked, eq_itself}
use Rattle.pcrf_values.proofs.Plain.{none_some, some_same}
use Rattle.pcrf_values.specs.declared.tag.Tag.{Tag}
use Rattle.pcrf_values.specs.Facts.{Fact}
use Rattle.pcrf_values.specs.Held.{entry_shown}
use Rattle.pcrf_values.specs.Places.{Place, host}
use Rattle.pcrf_values.specs.Values.{Text, Entry}
use Rattle.pcrf_model.specs.Holdings.{SessionFact, facts_on}
use Rattle.pcrf_model.specs.Sessions.{Session, gx}
use Rattle.pcrf_model.specs.Views.{view, value, as_text}
use Rattle.bind_index.specs.Lists.{ids_at, with_id}
use Rattle.bind_index.proofs.Covering.{list_grows, list_has}
use Rattle.rule_delta.specs.Waits.{WaitingValue, waiting_of, Keeps, WaitsUnder, WaitsIfDue}

-- what a record shows at a place is what the view has
pub value_shown : (facts : List SessionFact) (s : Session) (known : List Fact) (p : Place) (o : Option Entry) → known ≡ facts_on facts s → o ≡ entry_shown known p
    → option_map (λ (e : Entry). e.1) o ≡ value (view facts) s p
unfolding view
value_shown facts s known p o k e = ap (option_map (λ (d : Entry). d.1)) (e ∙ ap (λ (fs : List Fact). entry_shown fs p) k)

-- a session without a host need not wait
pub no_host : (facts : List SessionFact) (s : Session) (known : List Fact) (w : WaitingValue) → known ≡ facts_on facts s → None ≡ entry_shown known host → WaitsIfDue (view facts) w s
no_host facts s known w k e = record { there = λ a name h. none_some name (ap (option_and_then as_text) (value_shown facts s known host None k e) ∙ h) }

-- one that waits under its host waits
pub has_host : (facts : List SessionFact) (id : List ℕ) (known : List Fact) (w : WaitingValue) (t : Tag) (n : List ℕ) → known ≡ facts_on facts (gx id) → Some (t, Text n) ≡ entry_shown known host
    → WaitsUnder w n id → WaitsIfDue (view facts) w (gx id)
has_host facts id known w t n k e h = record {
  there = λ a name m.
      let same : n ≡ name = some_same n name (ap (option_and_then as_text) (value_shown facts (gx id) known host (Some (t, Text n)) k e) ∙ m) in
      subst (λ (x : List ℕ). In id (waiting_of w x)) same (h.there a);
}

module _ (u : WaitingValue) (lists : List (List ℕ × List (List ℕ))) (name id : List ℕ) (added : (k : List ℕ) → ids_at text_cmp lists k ≡ with_id text_cmp text_cmp u.lists name id k) where
  -- after one was added all that waited wait
  pub added_keeps : Keeps u (record u { lists = lists })
  added_keeps = record { some = λ a. a; stay = λ a. record { each = λ n x m. list_grows text_cmp u.lists lists name id added n x m } }

  -- and so does it
  pub added_waits : WaitsUnder (record u { lists = lists }) name id
  added_waits = record { there = λ a. list_has text_cmp u.lists lists name id added (eq_itself text_ranked name) }
