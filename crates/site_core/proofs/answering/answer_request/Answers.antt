use Rattle.std.proofs.Common.{◌≡◌}
use Rattle.site_machine.specs.Values.{reply_value, request_value}
use Rattle.site_core.proofs.ServedAnswers.{of_reply, served_by, served_without}
use Rattle.site_core.proofs.answering.answer_request.Goals as goal

pub returns-in-Ok-clause-answered : goal.returns-in-Ok-clause-answered
returns-in-Ok-clause-answered g c =
    let s = g.S.Serve in
    let replied = of_reply (λ reply. s.may_reply c.args.server.now (request_value c.args.request) (reply_value reply) c.serve-request.new.self) c.serve-request.result.1 c.in-Ok.reply c.serve-request.ensures.replied c.in-Ok.is in
    served_by s.names s.may_reply s.is_full c.args.server.now c.serve-request.new.self c.args.header.now (request_value c.args.request) (reply_value c.in-Ok.reply) replied
    c.identity.result.now (request_value c.serve-request.result.0) c.answer_served.result c.identity.ensures c.serve-request.ensures.given_back c.answer_served.ensures.bytes c.answer_served.ensures.ends

pub returns-in-Ok-clause-unanswered : goal.returns-in-Ok-clause-unanswered
returns-in-Ok-clause-unanswered g c =
    let s = g.S.Serve in
    let replied = of_reply (λ reply. s.may_reply c.args.server.now (request_value c.args.request) (reply_value reply) c.serve-request.new.self) c.serve-request.result.1 c.in-Ok.reply c.serve-request.ensures.replied c.in-Ok.is in
    served_without s.names s.may_reply s.is_full c.args.server.now c.serve-request.new.self c.args.header.now (request_value c.args.request) (reply_value c.in-Ok.reply) replied c.answer_served.result
