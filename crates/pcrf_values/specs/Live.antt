-- Live sessions and the home of a session, by what shows at each of its places.
use Rattle.std.specs.Prelude.{ℕ, Bool, not, ◌&&◌, List, [], ◌∷◌, Option, is_some}
use Rattle.std.proofs.Common.{option_map}
use Rattle.std.specs.List.{list_any, list_all}
use Rattle.pcrf_values.specs.Places.{Place, address, prefix, apn, subscribers, host, realm, last}
use Rattle.pcrf_values.specs.Values.{Entry}
use Rattle.pcrf_values.specs.Facts.{Fact}
use Rattle.pcrf_values.specs.Held.{is_ended, entry_shown}

-- what shows at each place of a session
abbrev pub Shows : Type 0
Shows = Place → Option Entry

-- the place shows a value
abbrev pub shows_at : Shows → Place → Bool
shows_at shows p = is_some (shows p)

-- the places that say where the user is reached
abbrev pub user_places : List Place
user_places = address ∷ prefix ∷ []

-- those that an initial request of Gx sets beside them (TS 29.212, 4.5.1)
abbrev pub gx_places : List Place
gx_places = apn ∷ subscribers ∷ host ∷ realm ∷ last ∷ []

-- one of the places that say where the user is reached shows: an address or a prefix
abbrev pub is_reached : Shows → Bool
is_reached shows = list_any (shows_at shows) user_places

-- all that an initial request of Gx gives
abbrev pub gx_has_what_it_needs : Shows → Bool
gx_has_what_it_needs shows = is_reached shows && list_all (shows_at shows) gx_places

-- of Rx where the user is reached (TS 29.213, 5.2)
abbrev pub af_has_what_it_needs : Shows → Bool
af_has_what_it_needs = is_reached

-- the site that served the last request of the session: that of the tag of its type (this project's profile)
abbrev pub home_by : Shows → Option ℕ
home_by shows = option_map (λ (e : Entry). e.0.site) (shows last)

-- a Gx session of these facts is not ended, and shows what its kind needs
abbrev pub gx_is_live : List Fact → Bool
gx_is_live facts = not (is_ended facts) && gx_has_what_it_needs (entry_shown facts)

-- and so an AF session
abbrev pub af_is_live : List Fact → Bool
af_is_live facts = not (is_ended facts) && af_has_what_it_needs (entry_shown facts)

-- the home of a session of these facts
abbrev pub home : List Fact → Option ℕ
home facts = home_by (entry_shown facts)
