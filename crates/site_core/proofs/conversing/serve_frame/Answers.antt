use Rattle.std.proofs.Common.{refl, sym, ◌∙◌}
use Rattle.site_core.proofs.Putting.{put_whole, put_in_part}
use Rattle.site_core.proofs.Values.{site_answers, site_unanswered}
use Rattle.site_core.proofs.conversing.serve_frame.Goals as goal

pub returns-in_default-clause-turned : goal.returns-in_default-clause-turned
returns-in_default-clause-turned g c = (refl, site_unanswered _ _ _ c.in_default.ensures.unanswered)

pub returns-then-is_err-clause-turned : goal.returns-then-is_err-clause-turned
returns-then-is_err-clause-turned g c =
    let failed = sym c.is_err.ensures.value ∙ c.if-is_err.true in
    let a = site_answers _ _ _ _ _ c.in-Ok.ensures.answered in
    (a.2, put_in_part _ _ _ _ (c.as_slice.ensures.value ∙ a.0) c.put.result failed c.put.ensures.part)

pub returns-then-answer-clause-turned : goal.returns-then-answer-clause-turned
returns-then-answer-clause-turned g c =
    let done = sym c.is_err.ensures.value ∙ c.if-is_err.false in
    let a = site_answers _ _ _ _ _ c.in-Ok.ensures.answered in
    (sym a.1 ∙ c.if-answer.true, a.2, put_whole _ _ _ _ (c.as_slice.ensures.value ∙ a.0) c.put.result done c.put.ensures.bytes)

pub returns-clause-turned : goal.returns-clause-turned
returns-clause-turned g c =
    let done = sym c.is_err.ensures.value ∙ c.if-is_err.false in
    let a = site_answers _ _ _ _ _ c.in-Ok.ensures.answered in
    (sym a.1 ∙ c.if-answer.false, a.2, put_whole _ _ _ _ (c.as_slice.ensures.value ∙ a.0) c.put.result done c.put.ensures.bytes)
