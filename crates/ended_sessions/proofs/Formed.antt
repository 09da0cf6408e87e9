-- The form of what is held without one session.
use Rattle.std.proofs.Common.{◌≡◌, true, not, List, [], ◌++◌, inl, inr}
use Rattle.std.specs.Ordering.{is_eq}
use Rattle.std.specs.List.{filter}
use Rattle.pcrf_values.specs.Sets.{In}
use Rattle.pcrf_values.proofs.SetLaws.{In-cases, filter-In}
use Rattle.pcrf_model.specs.Sessions.{Session, session_cmp}
use Rattle.pcrf_model.specs.Holdings.{SessionFact, under, Holding}
use Rattle.pcrf_model.specs.Forms.{is_up_to, are_up_to, is_holding}
use Rattle.pcrf_model.proofs.HoldingLaws.{sorted-In}
use Rattle.pcrf_model.proofs.FormReading.{each_passes}
use Rattle.pcrf_model.proofs.FormLaws.{all_pass}
use Rattle.pcrf_model.proofs.RecordForms.{holding_up_to}
use Rattle.ended_sessions.specs.Forgotten.{forgotten}

-- no tag in it is above its clock
pub forgotten_up_to : (h : Holding) (s : Session) → is_holding h ≡ true → are_up_to h.clock (forgotten h s).facts ≡ true
forgotten_up_to h s form =
    let upto = λ (x : SessionFact). is_up_to h.clock x.1 in
    let is_other = λ (x : SessionFact). not (is_eq (session_cmp s x.0)) in
    let others : List SessionFact = filter is_other h.facts in
    all_pass upto (forgotten h s).facts (λ x i. each_passes upto h.facts (holding_up_to h form) x (elim (In-cases x others (under s []) ((sorted-In (others ++ under s []) x).0 i)) [
      | inl j ↦ (filter-In is_other x h.facts j).0
      | inr j ↦ absurd j
    ]))
