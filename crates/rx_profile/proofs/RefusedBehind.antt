-- The first refusal of values that are judged one after the other.
use Rattle.std.proofs.Common.{◌≡◌, ◌<◌, ◌+◌, List, ◌∷◌, ◌++◌, length, get_or, take, drop, map, sym, ap, ◌∙◌, Option, None}
use Rattle.std.proofs.lemmas.List.{take-append-drop, drop_more, map-id}
use Rattle.pcrf_values.specs.declared.refusal.Refusal.{Refusal}
use Rattle.dia_base.specs.declared.read_fault.ReadFault.{ReadFault}
use Rattle.dia_base.specs.declared.read_fault.ReadFault.TheVariants.{Refused, NoMemory}
use Rattle.dia_base.specs.Rows.{or_else, refusal_among, IsFaultOf}
use Rattle.dia_base.proofs.Refusals.{refusal_among-append}

-- a value that is refused, behind values that aren't
pub refused_behind : {X : Type 0} (judge : X → Option Refusal) (all front : List X) (x : X) (fault : ReadFault) → map (λ (y : X). y) front ≡ take (length front) all → length front < length all → x ≡ get_or all (length front) x → refusal_among judge front ≡ None → IsFaultOf (judge x) fault → IsFaultOf (refusal_among judge all) fault
refused_behind judge all front x NoMemory first within is none refused = tt
refused_behind judge all front x (Refused refusal) first within is none refused =
    let n = length front in
    let behind = drop (n + 1) all in
    let before : take n all ≡ front = sym first ∙ map-id front in
    let rest : drop n all ≡ x ∷ behind = drop_more all n x within ∙ ap (λ y. y ∷ behind) (sym is) in
    let whole : all ≡ take n all ++ (x ∷ behind) = sym (take-append-drop n all) ∙ ap (λ l. take n all ++ l) rest in
    ap (refusal_among judge) whole ∙ refusal_among-append judge (take n all) (x ∷ behind) (ap (refusal_among judge) before ∙ none) ∙ ap (λ first. or_else first (refusal_among judge behind)) refused
