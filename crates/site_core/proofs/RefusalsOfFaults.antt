-- Faults by grammars have the codes of the tables' refusals.
use Rattle.std.proofs.Common.{◌≡◌, ℕ, zero, suc, Bool, true, false, if◌then◌else◌, nat_lt, List, [], ◌∷◌, cond, length, map, refl, ap, ◌∙◌, Option, Some, None, option_map}
use Rattle.std.specs.List.{filter, cons_option}
use Rattle.pcrf_values.specs.Results.{missing_avp, avp_occurs_too_many_times}
use Rattle.pcrf_values.specs.declared.refusal.Refusal.{Refusal}
use Rattle.dia_codec.specs.declared.message.AvpKey.{AvpKey}
use Rattle.dia_codec.specs.Fields.{AvpValue}
use Rattle.dia_codec.specs.Reading.{avps_of}
use Rattle.dia_base.specs.Rows.{Row, has_key, values_of, is_too_often, cut_refusal, or_else, refusal_among, row_refusal, rows_refusal}
use Rattle.site_core.specs.declared.failed_avps.grammar.AvpType.{AvpType}
use Rattle.site_core.specs.declared.failed_avps.grammar.AvpType.TheVariants.{Unsigned32, Enumerated, Text, OctetString, Ipv4Address, Ipv6Prefix, Grouped}
use Rattle.site_core.specs.declared.failed_avps.grammar.Grammar.{Grammar}
use Rattle.site_core.specs.declared.failed_avps.grammar.GrammarRow.{GrammarRow}
use Rattle.site_core.specs.Grammars.{kind_by, plain_kind, row_by, rows_of, table_within}
use Rattle.site_core.specs.Faults.{FaultValue, FaultsAreRefusals, as_it_came, enclosed, fault_among, fault_within, group_fault, or_fault, row_fault, value_fault}

-- the refusal of a fault
abbrev code_of : Option FaultValue → Option Refusal
code_of fault = option_map (λ (f : FaultValue). f.refusal) fault

or_codes : (first second : Option FaultValue) → code_of (or_fault first second) ≡ or_else (code_of first) (code_of second)
or_codes None second = refl
or_codes (Some f) second = refl

if_codes : (b : Bool) (f g : Option FaultValue) → code_of (if b then f else g) ≡ (if b then code_of f else code_of g)
if_codes true f g = refl
if_codes false f g = refl

-- the first of a list's members
among_codes : {X Y : Type 0} (judge : X → Option FaultValue) (refuse : Y → Option Refusal) (view : X → Y) → ((x : X) → code_of (judge x) ≡ refuse (view x)) → (xs : List X) → code_of (fault_among judge xs) ≡ refusal_among refuse (map view xs)
among_codes judge refuse view same [] = refl
among_codes judge refuse view same (x ∷ xs) =
    or_codes (judge x) (fault_among judge xs)
    ∙ ap (λ (first : Option Refusal). or_else first (code_of (fault_among judge xs))) (same x)
    ∙ ap (or_else (refuse (view x))) (among_codes judge refuse view same xs)

-- ---- values

abbrev value : AvpValue → List ℕ
value a = a.value

keyed_if : (b : Bool) (a : AvpValue) (rest : List AvpValue) (values : List (List ℕ)) → map value rest ≡ values → map value (cond b (a ∷ rest) rest) ≡ cons_option (if b then Some a.value else None) values
keyed_if true a rest values same = ap (λ (others : List (List ℕ)). a.value ∷ others) same
keyed_if false a rest values same = same

-- the values at a key are those of the AVPs that have it
keyed : (key : AvpKey) (avps : List AvpValue) → map value (filter (has_key key) avps) ≡ values_of key avps
keyed key [] = refl
keyed key (a ∷ avps) = keyed_if (has_key key a) a (filter (has_key key) avps) (values_of key avps) (keyed key avps)

plain_codes : (a : AvpValue) (refusal : Option Refusal) → code_of (option_map (as_it_came a) refusal) ≡ refusal
plain_codes a None = refl
plain_codes a (Some refusal) = refl

enclosed_codes : (a : AvpValue) (fault : Option FaultValue) → code_of (option_map (enclosed a) fault) ≡ code_of fault
enclosed_codes a None = refl
enclosed_codes a (Some fault) = refl

module _ (inside : Grammar → List AvpValue → Option FaultValue) (tables : Grammar → List Row) (same : (grammar : Grammar) (avps : List AvpValue) → code_of (inside grammar avps) ≡ rows_refusal (tables grammar) avps) where
  group_codes : (grammar : Grammar) (a : AvpValue) (cut : Option (List AvpValue)) → code_of (group_fault (inside grammar) a cut) ≡ cut_refusal (tables grammar) cut
  group_codes grammar a None = refl
  group_codes grammar a (Some avps) = enclosed_codes a (inside grammar avps) ∙ same grammar avps

  value_codes : (kind : AvpType) (a : AvpValue) → code_of (value_fault inside kind a) ≡ kind_by tables kind a.value
  value_codes Unsigned32 a = plain_codes a (plain_kind Unsigned32 a.value)
  value_codes (Enumerated least most) a = plain_codes a (plain_kind (Enumerated least most) a.value)
  value_codes (Text most) a = plain_codes a (plain_kind (Text most) a.value)
  value_codes OctetString a = plain_codes a (plain_kind OctetString a.value)
  value_codes Ipv4Address a = plain_codes a (plain_kind Ipv4Address a.value)
  value_codes Ipv6Prefix a = plain_codes a (plain_kind Ipv6Prefix a.value)
  value_codes (Grouped grammar) a = group_codes grammar a (avps_of a.value)

  -- ---- rows

  among_values : (row : GrammarRow) (avps : List AvpValue) → code_of (fault_among (value_fault inside row.kind) (filter (has_key row.key) avps)) ≡ refusal_among (kind_by tables row.kind) (values_of row.key avps)
  among_values row avps =
      among_codes (value_fault inside row.kind) (kind_by tables row.kind) value (value_codes row.kind) (filter (has_key row.key) avps)
      ∙ ap (refusal_among (kind_by tables row.kind)) (keyed row.key avps)

  row_codes : (row : GrammarRow) (avps : List AvpValue) → code_of (row_fault inside row avps) ≡ row_refusal (row_by tables row) avps
  unfolding row_refusal
  row_codes row avps =
      let above : Bool = is_too_often row.most (length (values_of row.key avps)) in
      let below : Bool = nat_lt (length (values_of row.key avps)) row.least in
      if_codes above _ _
      ∙ ap (λ (rest : Option Refusal). if above then Some avp_occurs_too_many_times else rest) (if_codes below _ _ ∙ ap (λ (rest : Option Refusal). if below then Some missing_avp else rest) (among_values row avps))

pub faults_are_refusals : FaultsAreRefusals
faults_are_refusals zero grammar avps = refl
faults_are_refusals (suc n) grammar avps =
    among_codes (λ (row : GrammarRow). row_fault (fault_within n) row avps) (λ (row : Row). row_refusal row avps) (row_by (table_within n)) (λ (row : GrammarRow). row_codes (fault_within n) (table_within n) (faults_are_refusals n) row avps) (rows_of grammar)
