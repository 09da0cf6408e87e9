-- Sessions whose homes are left by their hosts, and the updates by which a site takes them over (this project's profile).
use Rattle.std.specs.Prelude.{ℕ, Bool, false, ◌&&◌, if◌then◌else◌, List, Option, Some, None}
use Rattle.std.proofs.Common.{option_map, option_and_then}
use Rattle.std.specs.List.{filter_map}
use Rattle.pcrf_values.specs.declared.numbers.RequestKind.TheVariants.{Update}
use Rattle.pcrf_values.specs.Facts.{Fact}
use Rattle.pcrf_values.specs.FlowWords.{value_at}
use Rattle.pcrf_values.specs.Held.{entry_shown}
use Rattle.pcrf_values.specs.Live.{gx_is_live, home}
use Rattle.pcrf_values.specs.Places.{Place, host, realm, last}
use Rattle.pcrf_values.specs.Values.{Entry}
use Rattle.pcrf_model.specs.Requests.{CcrValue, UserValue}
use Rattle.pcrf_model.specs.Views.{as_text}

-- ---- which are taken over

-- the text that a place shows
abbrev pub text_shown : List Fact → Place → Option (List ℕ)
text_shown facts p = option_and_then as_text (value_at (entry_shown facts) p)

-- that host leaves that home, where both are known
abbrev pub leaves_known : (List ℕ → ℕ → Bool) → Option (List ℕ) → Option ℕ → Bool
leaves_known leaves (Some name) (Some site) = leaves name site
leaves_known leaves (Some name) None = false
leaves_known leaves None site = false

-- a live session whose home is left by its host
abbrev pub is_left : (List ℕ → ℕ → Bool) → List Fact → Bool
is_left leaves facts = gx_is_live facts && leaves_known leaves (text_shown facts host) (home facts)

-- ---- how

-- nothing is said of the user
abbrev pub nothing_said : UserValue
nothing_said = record { address = None; prefix = None; apn = None; subscribers = None }

-- the CC-Request-Number of the last request: that of the tag of its type
abbrev pub last_number : List Fact → Option ℕ
last_number facts = option_map (λ (e : Entry). e.0.number) (entry_shown facts last)

-- an update of the session as from that host and realm, which says nothing of the user (TS 29.212, 4.5.1)
abbrev pub update_from : List ℕ → Option (List ℕ) → Option (List ℕ) → Option ℕ → Option CcrValue
update_from id (Some of_host) (Some of_realm) (Some number) = Some (record { session = id; host = of_host; realm = of_realm; kind = Update; number = number; user = nothing_said })
update_from id (Some of_host) (Some of_realm) None = None
update_from id (Some of_host) None number = None
update_from id None of_realm number = None

-- as from its own, under the number of its last request
abbrev pub update_of : List ℕ → List Fact → Option CcrValue
update_of id facts = update_from id (text_shown facts host) (text_shown facts realm) (last_number facts)

-- that of a session which is taken over
abbrev pub update_if_left : (List ℕ → ℕ → Bool) → List ℕ × List Fact → Option CcrValue
update_if_left leaves e = if is_left leaves e.1 then update_of e.0 e.1 else None

-- those of all among these sessions, in their order
abbrev pub taken_among : (List ℕ → ℕ → Bool) → List (List ℕ × List Fact) → List CcrValue
taken_among leaves = filter_map (update_if_left leaves)
