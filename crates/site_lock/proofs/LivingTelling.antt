-- What who waited for growth is told.
use Rattle.std.proofs.Common.{◌≡◌, ℕ, ◌<◌, ◌==◌, ◌&&◌, Bool, true, false, leb, length, Result, Ok, Err, IfOk, arith}
use Rattle.std.proofs.lemmas.Bool.{leb-false}
use Rattle.std.proofs.lemmas.Bool.Decides.{nat_tests}
use Rattle.pcrf_values.specs.Limits.{delta_limit}
use Rattle.pcrf_model.specs.Replies.{ReplyValue}
use Rattle.pcrf_model.specs.Steps.{SiteEvent}
use Rattle.site_machine.specs.declared.event.Reply.{Reply}
use Rattle.site_machine.specs.declared.fault.StepFault.{StepFault}
use Rattle.site_machine.specs.Values.{reply_value}
use Rattle.site_machine.specs.Sites.{SiteValue, SiteMayReply}
use Rattle.site_lock.specs.Calls.{TellsPast}
use Rattle.site_lock.proofs.Telling.{told_past}

pub told_grown : (past : ℕ) (s : SiteValue) (e : SiteEvent) (answer : Result Reply StepFault) → past < length s.state.log
    → IfOk answer (λ r. SiteMayReply s e (reply_value r)) → IfOk answer (λ r. TellsPast past (reply_value r))
told_grown past s e (Err f) lt may = tt
told_grown past s e (Ok r) lt may = told_past past delta_limit s.tables s.number s.state e (reply_value r) lt may

-- who waits no longer, and is in the epoch still
grown_in : (times begun made past : ℕ) → times ≡ begun → (times == begun && leb made past) ≡ false → past < made
grown_in times begun made past same short = leb-false made past (rest (times == begun) (leb made past) is short)
  where
    is : (times == begun) ≡ true
    is = grind (arith, nat_tests, same)

    rest : (now few : Bool) → now ≡ true → now && few ≡ false → few ≡ false
    rest true few now both = both
    rest false few now both = absurd (cc)

-- so who waited for growth in an epoch is told of more
pub told_since : (past times begun : ℕ) (s : SiteValue) (e : SiteEvent) (r : ReplyValue) → times ≡ begun → (times == begun && leb (length s.state.log) past) ≡ false → SiteMayReply s e r → TellsPast past r
told_since past times begun s e r same short may =
    told_past past delta_limit s.tables s.number s.state e r (grown_in times begun (length s.state.log) past same short) may
