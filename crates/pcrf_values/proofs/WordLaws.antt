-- What is said of live sessions, flows and told rules is the same on what is kept.
use Rattle.std.proofs.Common.{◌≡◌, ℕ, not, ◌&&◌, List, ap}
use Rattle.std.specs.List.{filter_map}
use Rattle.std.specs.Ordering.{nat_cmp}
use Rattle.pcrf_values.specs.Orders.{pair_cmp}
use Rattle.pcrf_values.specs.Ascending.{ascending}
use Rattle.pcrf_values.specs.FlowWords.{flow_of, flows, flow_status, given_rate}
use Rattle.pcrf_values.specs.Places.{ComponentField, FlowField}
use Rattle.pcrf_values.specs.Facts.{Fact}
use Rattle.pcrf_values.specs.Held.{kept_list, entry_shown}
use Rattle.pcrf_values.specs.Live.{gx_has_what_it_needs, af_has_what_it_needs, home_by, gx_is_live, af_is_live, home}
use Rattle.pcrf_values.specs.ToldWords.{told_entry, told_entries, told_rule, told_rules}
use Rattle.pcrf_values.proofs.JoinedLaws.{held_twice}
use Rattle.pcrf_values.proofs.ShownLaws.{shown-held, is_ended-held}

-- a Gx session is as live
pub gx_is_live-held : (facts : List Fact) → gx_is_live (kept_list facts) ≡ gx_is_live facts
gx_is_live-held facts = λ i. not (is_ended-held facts i) && gx_has_what_it_needs (λ p. shown-held facts p i)

-- and so an AF session
pub af_is_live-held : (facts : List Fact) → af_is_live (kept_list facts) ≡ af_is_live facts
af_is_live-held facts = λ i. not (is_ended-held facts i) && af_has_what_it_needs (λ p. shown-held facts p i)

-- the home is the same
pub home-held : (facts : List Fact) → home (kept_list facts) ≡ home facts
home-held facts = λ i. home_by (λ p. shown-held facts p i)

-- the flows are the same
pub flows-held : (facts : List Fact) → flows (kept_list facts) ≡ flows facts
flows-held facts = ap (λ (l : List Fact). ascending (pair_cmp nat_cmp nat_cmp) (filter_map flow_of l)) (held_twice facts)

-- their status
pub flow_status-held : (facts : List Fact) (c n : ℕ) → flow_status (entry_shown (kept_list facts)) c n ≡ flow_status (entry_shown facts) c n
flow_status-held facts c n = λ i. flow_status (λ p. shown-held facts p i) c n

-- and their rates
pub given_rate-held : (facts : List Fact) (c n : ℕ) (own : FlowField) (whole : ComponentField) → given_rate (entry_shown (kept_list facts)) c n own whole ≡ given_rate (entry_shown facts) c n own whole
given_rate-held facts c n own whole = λ i. given_rate (λ p. shown-held facts p i) c n own whole

-- what was told is the same
pub told_entries-held : (facts : List Fact) → told_entries (kept_list facts) ≡ told_entries facts
told_entries-held facts = ap (filter_map told_entry) (held_twice facts)

-- and so the rules
pub told-held : (facts : List Fact) → told_rules (kept_list facts) ≡ told_rules facts
told-held facts = ap (filter_map told_rule) (told_entries-held facts)
