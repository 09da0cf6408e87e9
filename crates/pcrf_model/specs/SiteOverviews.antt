-- What an operator sees of a holding: every session, with its bindings, rules and told entries, and the clock (this project's profile).
use Rattle.std.specs.Prelude.{ℕ, Bool, if◌then◌else◌, List, Option, Some, None}
use Rattle.std.proofs.Common.{option_map}
use Rattle.std.specs.Ordering.{is_eq}
use Rattle.std.specs.List.{filter_map}
use Rattle.pcrf_values.specs.RuleValues.{RuleValue}
use Rattle.pcrf_values.specs.Places.{Place, OfRuleName}
use Rattle.pcrf_values.specs.Values.{Value}
use Rattle.pcrf_model.specs.Sessions.{Session, session_cmp, Kind, Gx, Af}
use Rattle.pcrf_model.specs.Holdings.{Holding}
use Rattle.pcrf_model.specs.Views.{View, Shown, view}
use Rattle.pcrf_model.specs.Live.{is_live, home}
use Rattle.pcrf_model.specs.Bindings.{bind}
use Rattle.pcrf_model.specs.Tables.{Tables}
use Rattle.pcrf_model.specs.Rules.{rules}
use Rattle.pcrf_values.specs.ToldWords.{ToldRule}
use Rattle.pcrf_model.specs.Differences.{told_rules_of}

-- a field of a session, a component or a flow, and its value
abbrev pub FieldShown : Type 0
FieldShown = Place × Value

-- a field with its value; what was told is no field
abbrev pub field_shown : Place → Value → Option FieldShown
field_shown (OfRuleName n) x = None
field_shown p x = Some (p, x)

-- all fields that the session shows, ascending by their places
abbrev pub fields_shown : View → Session → List FieldShown
fields_shown v s = filter_map (λ (x : Shown). if is_eq (session_cmp x.session s) then field_shown x.place x.value else None) v.all

-- of a live Gx session: its fields, its home, its rules, and what its gateway was told
pub record GxShown : Type 0 where
  pub fields : List FieldShown
  pub home : Option ℕ
  pub rules : List RuleValue
  pub told : List ToldRule

-- of a live AF session: its fields, the Session-Id of the Gx session to which it is bound, and
-- whether it was asked to abort
pub record AfShown : Type 0 where
  pub fields : List FieldShown
  pub binding : Option (List ℕ)
  pub aborted : Bool

-- the Session-Id of the Gx session to which the AF session is bound (TS 29.213, 5.2)
abbrev pub binding_id : View → Session → Option (List ℕ)
binding_id v s = option_map (λ (x : Session). x.id) (bind v s)

-- ended; partial, of which only some facts are known; or live, with what it shows
pub data SessionValue (Seen : Type 0) : Type 0 where
  Ended : SessionValue Seen
  Partial : SessionValue Seen
  Live : Seen → SessionValue Seen

-- what is seen of a session, by what it would show if it is live
abbrev pub session_value : {Seen : Type 0} → View → Session → Seen → SessionValue Seen
session_value v s seen = if v.ended s then Ended else (if is_live v s then Live seen else Partial)

-- what a live Gx session shows
abbrev pub gx_shown : Tables → View → Session → GxShown
gx_shown t v s = record { fields = fields_shown v s; home = home v s; rules = rules t v s; told = told_rules_of v s }

-- what a live AF session shows
abbrev pub af_shown : View → Session → AfShown
af_shown v s = record { fields = fields_shown v s; binding = binding_id v s; aborted = v.aborted s }

-- a Gx session by its Session-Id, with what is seen of it
abbrev pub gx_value : Tables → View → Session → Kind → Option (List ℕ × SessionValue GxShown)
gx_value t v s Gx = Some (s.id, session_value v s (gx_shown t v s))
gx_value t v s Af = None

-- and an AF session
abbrev pub af_value : View → Session → Kind → Option (List ℕ × SessionValue AfShown)
af_value v s Gx = None
af_value v s Af = Some (s.id, session_value v s (af_shown v s))

-- the clock, and the sessions that have a fact, ascending by Session-Id, each with what is seen of it
pub record SiteOverview : Type 0 where
  pub clock : ℕ
  pub gx : List (List ℕ × SessionValue GxShown)
  pub af : List (List ℕ × SessionValue AfShown)

-- what an operator sees by this view and clock
abbrev pub value_seen : Tables → ℕ → View → SiteOverview
value_seen t clock v = record {
  clock = clock;
  gx = filter_map (λ (s : Session). gx_value t v s s.kind) v.sessions;
  af = filter_map (λ (s : Session). af_value v s s.kind) v.sessions;
}

-- what an operator sees of a holding
unfoldable pub site_overview : Tables → Holding → SiteOverview
site_overview t h = value_seen t h.clock (view h.facts)

-- a live AF session by its Session-Id, with its binding
abbrev pub bound_value : View → Session → Kind → Option (List ℕ × Option (List ℕ))
bound_value v s Gx = None
bound_value v s Af = if is_live v s then Some (s.id, binding_id v s) else None

-- the live AF sessions, ascending by Session-Id, each with its binding
unfoldable pub bindings_of : View → List (List ℕ × Option (List ℕ))
bindings_of v = filter_map (λ (s : Session). bound_value v s s.kind) v.sessions
