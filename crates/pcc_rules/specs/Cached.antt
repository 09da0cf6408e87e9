-- Lists of rules that are kept, and which of them are stale.
use Rattle.std.specs.Prelude.{◌≡◌, ℕ, List, map, Option, Some, None}
use Rattle.std.specs.BTreeMap.{is_at}
use Rattle.std.specs.Map.{lookup}
use Rattle.pcrf_values.specs.Orders.{text_cmp}
use Rattle.pcrf_values.specs.Sets.{In, Distinct}
use Rattle.pcrf_values.specs.RuleValues.{RuleValue}
use Rattle.pcrf_model.specs.Differences.{rule_name_of}
use Rattle.pcrf_model.specs.Rules.{rules}
use Rattle.pcrf_model.specs.Sessions.{gx}
use Rattle.pcrf_model.specs.Tables.{Tables}
use Rattle.pcrf_model.specs.Views.{View}

-- rules by Session-Id
abbrev pub RulesValue : Type 0
RulesValue = List (List ℕ × List RuleValue)

-- the rules that are kept of a gateway's session, none where they are stale
abbrev pub cached_at : RulesValue → List ℕ → Option (List RuleValue)
cached_at kept id = lookup (is_at (text_cmp id)) kept

-- the lists of these sessions are stale, and no others
pub record AreStale (before after : RulesValue) (ids : List (List ℕ)) : Type 0 where
  pub gone : (id : List ℕ) → In id ids → cached_at after id ≡ None
  pub others : (id : List ℕ) → ¬ In id ids → cached_at after id ≡ cached_at before id

-- each list that isn't stale is that of its session, and no two rules of it have one name
pub record AreCached (t : Tables) (v : View) (kept : RulesValue) : Type 0 where
  pub each : (id : List ℕ) (rs : List RuleValue) → cached_at kept id ≡ Some rs → rs ≡ rules t v (gx id)
  pub apart : (id : List ℕ) (rs : List RuleValue) → cached_at kept id ≡ Some rs → Distinct (map rule_name_of rs)
