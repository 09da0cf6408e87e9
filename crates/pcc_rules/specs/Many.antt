-- Lists of rules of many sessions.
use Rattle.std.specs.Prelude.{◌≡◌, ℕ, true, List, map, Some, None}
use Rattle.std.specs.List.{AllZip}
use Rattle.std.specs.declared.vec.Vec.{Vec}
use Rattle.pcrf_values.specs.Sets.{In, Distinct}
use Rattle.pcrf_values.specs.RuleValues.{RuleValue}
use Rattle.pcrf_model.specs.Differences.{rule_name_of}
use Rattle.pcrf_model.specs.Live.{is_live}
use Rattle.pcrf_model.specs.Rules.{rules}
use Rattle.pcrf_model.specs.Sessions.{gx}
use Rattle.pcrf_model.specs.Tables.{Tables}
use Rattle.pcrf_model.specs.Views.{View}
use Rattle.pcc_rules.specs.Cached.{RulesValue, cached_at}

-- the list is that of the session, and no two rules of it have one name
abbrev pub IsRulesOf : {A : Type 0} → Tables → View → List ℕ → Vec RuleValue A → Type 0
IsRulesOf t v id made = (made.items ≡ rules t v (gx id)) × Distinct (map rule_name_of made.items)

-- as many lists as sessions, each that of the session at its place
abbrev pub AreRulesOf : {A : Type 0} → Tables → View → List (List ℕ) → List (Vec RuleValue A) → Type 0
AreRulesOf t v = AllZip (IsRulesOf t v)

-- the rules of the session are kept
abbrev pub AreCachedOf : Tables → View → RulesValue → List ℕ → Type 0
AreCachedOf t v kept id = cached_at kept id ≡ Some (rules t v (gx id))

-- so of each live gateway's session
abbrev pub AreFresh : Tables → View → RulesValue → Type 0
AreFresh t v kept = (id : List ℕ) → is_live v (gx id) ≡ true → AreCachedOf t v kept id

-- among these is each live gateway's session of which no rules are kept
abbrev pub AreAllStale : View → RulesValue → List (List ℕ) → Type 0
AreAllStale v kept ids = (id : List ℕ) → is_live v (gx id) ≡ true → cached_at kept id ≡ None → In id ids

-- the rules of each of these sessions are kept, and those that were kept before
pub record KeepsAll (t : Tables) (v : View) (before after : RulesValue) (ids : List (List ℕ)) : Type 0 where
  pub each : (id : List ℕ) → In id ids → AreCachedOf t v after id
  pub stays : (id : List ℕ) → AreCachedOf t v before id → AreCachedOf t v after id
