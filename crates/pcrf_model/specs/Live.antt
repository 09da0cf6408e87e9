-- Live and partial sessions, and the home of a session, by what a view shows.
use Rattle.std.specs.Prelude.{ℕ, Bool, not, ◌&&◌, Option}
use Rattle.std.specs.Ordering.{is_eq}
use Rattle.std.specs.List.{list_any}
use Rattle.pcrf_values.specs.Live.{gx_has_what_it_needs, af_has_what_it_needs, home_by}
use Rattle.pcrf_model.specs.Sessions.{Kind, Gx, Af, Session, session_cmp}
use Rattle.pcrf_model.specs.Views.{View}

-- what a session of its kind has to show
abbrev pub has_what_it_needs : View → Session → Kind → Bool
has_what_it_needs v s Gx = gx_has_what_it_needs (v.shows s)
has_what_it_needs v s Af = af_has_what_it_needs (v.shows s)

-- not ended, and showing what its kind needs
abbrev pub is_live : View → Session → Bool
is_live v s = not (v.ended s) && has_what_it_needs v s s.kind

-- there is a fact on it
abbrev pub is_known : View → Session → Bool
is_known v s = list_any (λ x. is_eq (session_cmp x s)) v.sessions

-- known, and neither live nor ended (this project's profile)
abbrev pub is_partial : View → Session → Bool
is_partial v s = is_known v s && not (v.ended s) && not (is_live v s)

-- the site that served the last request of the session
abbrev pub home : View → Session → Option ℕ
home v s = home_by (v.shows s)
