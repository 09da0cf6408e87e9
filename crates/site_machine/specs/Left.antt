-- What the gateway of a session still lacks after a request of its was granted: what the first entries of the difference left (TS 29.212, 4.5.2).
use Rattle.std.specs.Prelude.{ℕ, if◌then◌else◌, List, ◌++◌, Option, Some, None}
use Rattle.pcrf_values.specs.Limits.{delta_limit}
use Rattle.pcrf_model.specs.Sessions.{Session, gx}
use Rattle.pcrf_model.specs.Holdings.{SessionFact, under, Holding}
use Rattle.pcrf_model.specs.Views.{view}
use Rattle.pcrf_model.specs.Requests.{CcrValue}
use Rattle.pcrf_model.specs.Making.{ccr_fields, next_tag}
use Rattle.pcrf_model.specs.Laws.{TellsTheFirst}
use Rattle.pcrf_model.specs.declared.answer.GxReply.{GxReply}
use Rattle.pcrf_model.specs.declared.answer.GxReply.TheVariants.{Granted, Refused}
use Rattle.gx_profile.specs.Requests.{ccr_view}
use Rattle.site_machine.specs.Facts.{opens}
use Rattle.site_machine.specs.Sites.{SiteValue}
use Rattle.site_machine.specs.declared.request.Request.{Request}
use Rattle.site_machine.specs.declared.request.Request.TheVariants as request
use Rattle.site_machine.specs.declared.event.Reply.{Reply}
use Rattle.site_machine.specs.declared.event.Reply.TheVariants as reply

-- what is held, with the fields of a request
abbrev pub with_fields : ℕ → Holding → CcrValue → List SessionFact
with_fields i h q = h.facts ++ under (gx q.session) (ccr_fields q (next_tag i h q.number))

-- what a site holds, with these
abbrev pub fields_added : SiteValue → CcrValue → List SessionFact
fields_added s q = with_fields s.number s.state.holding q

-- Told the first entries of its difference by these facts, the gateway of the session lacks just the rest then.
abbrev pub LacksTheRest : SiteValue → List SessionFact → SiteValue → Session → Type 0
LacksTheRest before facts after s = TellsTheFirst delta_limit before.tables (view facts) (view after.state.holding.facts) s

-- the request, where it is an initial one or an update and the reply grants it
abbrev pub granted_opening : CcrValue → GxReply → Option CcrValue
granted_opening q (Granted delta quality) = if opens q.kind then Some q else None
granted_opening q (Refused r) = None

-- so of each request and its reply
abbrev pub granted_request : Request → Reply → Option CcrValue
granted_request (request.Ccr q) (reply.Gx r) = granted_opening (ccr_view q) r
granted_request q r = None
