-- What is seen of sessions, record by record.
use Rattle.std.specs.Prelude.{ℕ, if◌then◌else◌, not, List, Option, Some, None}
use Rattle.std.specs.List.{filter_map}
use Rattle.pcrf_values.specs.Facts.{Fact}
use Rattle.pcrf_values.specs.Held.{is_ended, is_aborted}
use Rattle.pcrf_values.specs.Live.{gx_is_live, af_is_live, home}
use Rattle.pcrf_values.specs.ToldWords.{told_rules}
use Rattle.pcrf_model.specs.SiteOverviews.{GxShown, AfShown, SessionValue, Ended, Partial, Live, binding_id}
use Rattle.pcrf_model.specs.Rules.{rules}
use Rattle.pcrf_model.specs.Sessions.{gx, af}
use Rattle.pcrf_model.specs.Tables.{Tables}
use Rattle.pcrf_model.specs.Views.{View}
use Rattle.lattice_core.specs.Sets.{facts_empty}
use Rattle.indexed_state.specs.Fields.{fields_of}

-- ---- bindings

-- the binding of an AF session of these facts, if it is live
abbrev pub live_binding : View → List ℕ × List Fact → Option (List ℕ × Option (List ℕ))
live_binding v e = if af_is_live e.1 then Some (e.0, binding_id v (af e.0)) else None

-- those of the live ones among these
abbrev pub bindings_among : View → List (List ℕ × List Fact) → List (List ℕ × Option (List ℕ))
bindings_among v = filter_map (live_binding v)

-- ---- gateways

-- what a live Gx session of these facts shows
abbrev pub gx_live : Tables → View → List ℕ → List Fact → GxShown
gx_live t v id facts = record { fields = fields_of facts; home = home facts; rules = rules t v (gx id); told = told_rules facts }

-- what is seen of one of these facts
abbrev pub gx_seen : Tables → View → List ℕ → List Fact → SessionValue GxShown
gx_seen t v id facts = if is_ended facts then Ended else (if gx_is_live facts then Live (gx_live t v id facts) else Partial)

-- with its Session-Id, if there is a fact
abbrev pub gx_known : Tables → View → List ℕ × List Fact → Option (List ℕ × SessionValue GxShown)
gx_known t v e = if not (facts_empty e.1) then Some (e.0, gx_seen t v e.0 e.1) else None

-- of those of these that have a fact
abbrev pub gx_among : Tables → View → List (List ℕ × List Fact) → List (List ℕ × SessionValue GxShown)
gx_among t v = filter_map (gx_known t v)

-- ---- calls

-- what a live AF session of these facts shows
abbrev pub af_live : View → List ℕ → List Fact → AfShown
af_live v id facts = record { fields = fields_of facts; binding = binding_id v (af id); aborted = is_aborted facts }

-- what is seen of one of these facts
abbrev pub af_seen : View → List ℕ → List Fact → SessionValue AfShown
af_seen v id facts = if is_ended facts then Ended else (if af_is_live facts then Live (af_live v id facts) else Partial)

-- with its Session-Id, if there is a fact
abbrev pub af_known : View → List ℕ × List Fact → Option (List ℕ × SessionValue AfShown)
af_known v e = if not (facts_empty e.1) then Some (e.0, af_seen v e.0 e.1) else None

-- of those of these that have a fact
abbrev pub af_among : View → List (List ℕ × List Fact) → List (List ℕ × SessionValue AfShown)
af_among v = filter_map (af_known v)
