-- How much is known at most, and how long an answer is waited for: this project's own limits, as the code has them.
use Rattle.std.specs.Prelude.{ℕ}
use Rattle.watched_links.specs.declared.origin_states.TheConstants as states
use Rattle.watched_links.specs.declared.refused.TheConstants as refused
use Rattle.watched_links.specs.declared.stage.TheConstants as stage

-- the most hosts of which it is known what they said of themselves
abbrev pub most_hosts : ℕ
most_hosts = states.MOST_HOSTS

-- the most sessions of which the state of their host is known
abbrev pub most_sessions : ℕ
most_sessions = states.MOST_SESSIONS

-- the most sessions of which it is known that their gateways refused a push
abbrev pub most_refused : ℕ
most_refused = refused.MOST

-- the most sessions that are due at once
abbrev pub most_due : ℕ
most_due = refused.PIECE

-- for how many milliseconds behind a telling what is answered is taken for an answer to that
abbrev pub answer_millis : ℕ
answer_millis = stage.ANSWER_MILLIS
