-- What a gateway is still to be told of a session, and what is pushed of it (TS 29.212, 4.5.2).
use Rattle.pcrf_values.specs.RuleValues.{DeltaValue}
use Rattle.pcrf_values.specs.Limits.{delta_limit}
use Rattle.pcrf_model.specs.Sessions.{Session}
use Rattle.pcrf_model.specs.Views.{View}
use Rattle.pcrf_model.specs.Tables.{Tables}
use Rattle.pcrf_model.specs.Rules.{rules}
use Rattle.pcrf_model.specs.Differences.{told_rules_of, difference}
use Rattle.pcrf_model.specs.Serving.{delta_of}
use Rattle.pcrf_model.specs.Replies.{PushValue}
use Rattle.pcrf_model.specs.Pushing.{push_to}

-- the difference between what it was told and the rules
abbrev pub untold_difference : Tables → View → Session → DeltaValue
untold_difference t v s = difference (told_rules_of v s) (rules t v s)

-- its first entries, to the gateway of the session
abbrev pub push_of : Tables → View → Session → PushValue
push_of t v s = push_to v s (delta_of delta_limit t v s)
