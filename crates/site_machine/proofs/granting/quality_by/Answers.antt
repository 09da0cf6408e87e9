use Rattle.std.proofs.Common.{ap, sym, ◌∙◌, option_and_then}
use Rattle.pcrf_model.specs.Tables.{ApnRow}
use Rattle.site_machine.proofs.Replies.{no_access_point, access_point}
use Rattle.site_machine.proofs.granting.quality_by.Goals as goal

pub returns-in_err-apn : goal.returns-in_err-apn
returns-in_err-apn c = c.from_residual.ensures ∙ sym (no_access_point c.args.tables.now c.args.known.now (sym c.in_err-apn.ensures))

pub returns-in_err-apn-2 : goal.returns-in_err-apn-2
returns-in_err-apn-2 c =
    let row = ap (option_and_then (λ (r : ApnRow). r.default)) c.in_err-apn-2.ensures.row in
    c.from_residual-in_err-apn-2.ensures ∙ row ∙ sym (access_point c.args.tables.now c.args.known.now _ _ (sym c.in_ok-apn.ensures))

pub returns : goal.returns
returns c =
    let row = ap (option_and_then (λ (r : ApnRow). r.default)) c.in_ok-apn-2.ensures.row in
    c.default_quality.ensures ∙ row ∙ sym (access_point c.args.tables.now c.args.known.now _ _ (sym c.in_ok-apn.ensures))
