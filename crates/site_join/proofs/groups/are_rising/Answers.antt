use Rattle.std.proofs.Common.{◌≡◌, ◌∙◌, sym, Less}
use Rattle.pcrf_model.specs.Sessions.{session_cmp}
use Rattle.pcrf_model.proofs.HoldingLaws.{session_ranked}
use Rattle.pcrf_values.proofs.Plain.{lt_less}
use Rattle.site_join.specs.Groups.{Group, group_of}
use Rattle.site_join.specs.States.{session_of}
use Rattle.site_join.proofs.RisingLaws.{rises_on}
use Rattle.site_join.proofs.groups.are_rising.Goals as goal

-- the first of those left is before the second
pub loop-first-preserved-else-not-is_before : goal.loop-first-preserved-else-not-is_before
loop-first-preserved-else-not-is_before c =
    let first = c.in-Some.first.now in
    let second = c.in-Some-first.second.now in
    let low : session_cmp (session_of first) (session_of second) ≡ Less = lt_less _ (sym c.is_before.ensures ∙ c.if-not-is_before.false) in
    c.loop-first.invariant ∙ rises_on session_cmp session_ranked.total group_of (λ (g : Group). g.0) c.loop-first.left.now c.in-Some.rest.now first second c.in-Some.ensures.cases.0 c.in-Some-first.ensures.value low
