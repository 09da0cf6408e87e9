-- What the site is asked for a letter.
use Rattle.std.proofs.Common.{◌≡◌, ℕ, Bool, true, false, cond, ◌==◌, inl, arith, Option, Some, None, refl, sym, ap, subst, ◌∙◌}
use Rattle.std.proofs.lemmas.Bool.Decides.{nat_tests}
use Rattle.pcrf_model.specs.Letters.{AckValue}
use Rattle.pcrf_model.specs.Cursors.{Cursor, CursorsValue, ask, peer_cursor, question_past}
use Rattle.pcrf_model.specs.Steps.{SiteEvent, AskOwn, AskWhole}
use Rattle.site_lock.specs.Books.{ReceiptValue, SeatValue}
use Rattle.pcrf_serve.specs.Earlier.{Adds, Gains}
use Rattle.pcrf_serve.specs.Events.{IsExchange}
use Rattle.pcrf_serve.proofs.Chains.{gains_weaker}
use Rattle.pcrf_serve.specs.Exchanging.{IsIdle, takes_whole}
use Rattle.pcrf_serve.specs.Turns.{asked_event, asked_position, said_taken}

-- what is asked for by an entry begins where the entry says
position_by : (cursor : ℕ) (is_none : Bool) → (cursor == 0) ≡ is_none → asked_position (cond is_none AskWhole (AskOwn cursor)) ≡ cursor
position_by cursor true e = grind (arith, nat_tests, e)
position_by cursor false e = refl

entry_position : (entry : Option Cursor) → asked_position (question_past entry) ≡ said_taken entry
entry_position None = refl
entry_position (Some c) = position_by c.cursor (c.cursor == 0) refl

-- so does what is asked for a peer
pub asked_position_is : (c : CursorsValue) (peer : ℕ) (event : SiteEvent) → event ≡ ask c peer → said_taken (peer_cursor c peer) ≡ asked_position event
asked_position_is c peer event e = sym (ap asked_position e ∙ entry_position (peer_cursor c peer))

-- ---- asking takes nothing in

idle_of : (r : ReceiptValue) (event : SiteEvent) → r.event ≡ event → IsExchange event → takes_whole event r.reply ≡ false → IsIdle r
idle_of r event e is none = (inl (subst IsExchange (sym e) is), ap (λ x. takes_whole x r.reply) e ∙ none)

idle_by : (r : ReceiptValue) (is_none : Bool) (from : ℕ) → r.event ≡ cond is_none AskWhole (AskOwn from) → IsIdle r
idle_by r true from e = idle_of r AskWhole e tt refl
idle_by r false from e = idle_of r (AskOwn from) e tt refl

idle_entry : (r : ReceiptValue) (entry : Option Cursor) → r.event ≡ question_past entry → IsIdle r
idle_entry r None e = idle_of r AskWhole e tt refl
idle_entry r (Some c) e = idle_by r (c.cursor == 0) c.cursor e

asked_idle : (c : CursorsValue) (first : Option AckValue) (r : ReceiptValue) → r.event ≡ asked_event c first → IsIdle r
asked_idle c None r e = idle_of r AskWhole e tt refl
asked_idle c (Some first) r e = idle_entry r (peer_cursor c first.sender) e

-- calls that ask
pub asked_gains : (c : CursorsValue) (first : Option AckValue) (s t : SeatValue) (event : SiteEvent)
    → event ≡ asked_event c first → Adds (λ asked. asked ≡ event) s t → Gains IsIdle s t
asked_gains c first s t event is g = gains_weaker (λ r. r.event ≡ event) IsIdle s t (λ r e. asked_idle c first r (e ∙ is)) g
