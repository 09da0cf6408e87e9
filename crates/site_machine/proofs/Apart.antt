-- The facts of an AA request are all kept, since its numbers differ.
use Rattle.std.proofs.lemmas.Bool.Decides.{nat_tests}
use Rattle.std.proofs.Common.{◌≡◌, ℕ, Bool, true, false, ◌||◌, ◌==◌, if◌then◌else◌, List, [], ◌∷◌, map, Option, Some, None, inl, inr, refl, sym, subst, arith}
use Rattle.std.specs.List.{list_any}
use Rattle.pcrf_values.specs.Ascending.{ascending}
use Rattle.pcrf_values.specs.Sets.{In, Distinct}
use Rattle.pcrf_values.proofs.Plain.{clash}
use Rattle.pcrf_values.proofs.SetLaws.{In-any}
use Rattle.pcrf_values.specs.declared.refusal.Refusal.{Refusal}
use Rattle.pcrf_values.specs.Results.{invalid_service_information}
use Rattle.pcrf_values.specs.Facts.{fact_cmp}
use Rattle.pcrf_values.specs.Held.{kept_list}
use Rattle.pcrf_model.specs.Requests.{ComponentValue, AarValue}
use Rattle.pcrf_model.proofs.FunctionForms.{component_number, flow_number, described_is_held}
use Rattle.dia_base.specs.Rows.{or_else, refusal_among}
use Rattle.rx_profile.specs.Services.{repeats, flow_numbers, component_numbers, repeat_refusal, flow_numbers_refusal, numbers_refusal}
use Rattle.site_machine.specs.Call.{call_facts}

-- neither of two stands
pub neither : (a b : Bool) → (a || b) ≡ false → (a ≡ false) × (b ≡ false)
neither false b h = (refl, h)
neither true b h = absurd (cc)

-- nor refuses either of two
pub neither_refuses : (x y : Option Refusal) → or_else x y ≡ None → (x ≡ None) × (y ≡ None)
neither_refuses None y h = (refl, h)
neither_refuses (Some r) y h = absurd (cc)

-- what does not refuse does not stand
pub unless_refused : (b : Bool) (r : Refusal) → (if b then Some r else None) ≡ None → b ≡ false
unless_refused false r h = refl
unless_refused true r h = absurd (cc)

-- numbers of which none comes twice differ
numbers_apart : (ns : List ℕ) → repeats ns ≡ false → Distinct ns
numbers_apart [] h = tt
numbers_apart (n ∷ ns) h =
    let both = neither (list_any (λ m. m == n) ns) (repeats ns) h in
    ((λ i. clash (list_any (λ m. m == n) ns) (In-any (λ m. m == n) n ns i (same n)) both.0), numbers_apart ns both.1)
  where
    same : (m : ℕ) → (m == m) ≡ true
    same m = grind (arith, nat_tests)

-- numbers that are not refused
granted_apart : (ns : List ℕ) → repeat_refusal ns ≡ None → Distinct ns
granted_apart ns h = numbers_apart ns (unless_refused (repeats ns) invalid_service_information h)

-- so in each component the numbers of flows
flows_apart : (cs : List ComponentValue) → refusal_among flow_numbers_refusal cs ≡ None → (c : ComponentValue) → In c cs → Distinct (map flow_number c.flows)
flows_apart [] h c i = absurd i
flows_apart (d ∷ cs) h c i =
    let both = neither_refuses (flow_numbers_refusal d) (refusal_among flow_numbers_refusal cs) h in
    elim i [
      | inl e ↦ subst (λ (z : ComponentValue). Distinct (map flow_number z.flows)) (sym e) (granted_apart (flow_numbers d.flows) both.0)
      | inr j ↦ flows_apart cs both.1 c j
    ]

-- what a request describes is held whole
pub call_is_whole : (q : AarValue) (site counter : ℕ) → numbers_refusal q.components ≡ None → kept_list (call_facts site counter q) ≡ ascending fact_cmp (call_facts site counter q)
call_is_whole q site counter h =
    let both = neither_refuses (repeat_refusal (component_numbers q.components)) (refusal_among flow_numbers_refusal q.components) h in
    described_is_held q counter site (granted_apart (component_numbers q.components) both.0) (flows_apart q.components both.1)
