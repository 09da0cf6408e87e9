-- What a letter leaves of the cursors of a site that may have begun anew.
use Rattle.std.proofs.Common.{◌≡◌, Bool, true, false, cond, ◌==◌, ◌&&◌, List, Option, Result, Ok, Err, IfOk, OnErr, refl, ap, ◌∙◌}
use Rattle.pcrf_model.specs.Letters.{AckValue}
use Rattle.pcrf_model.specs.Cursors.{Cursor, CursorsValue, cursors_after_ack}
use Rattle.pcrf_serve.specs.Lives.{IsCounted}
use Rattle.pcrf_serve.specs.declared.dialing.Sent.{Sent}
use Rattle.pcrf_serve.specs.declared.dialing.Sent.TheVariants.{Acknowledged, BegunAnew}
use Rattle.pcrf_serve.proofs.Following.{acked_makers}

-- an acknowledgement leaves the cursors in their epoch
acked_epoch : (c : CursorsValue) (a : AckValue) → (cursors_after_ack c a).epoch ≡ c.epoch
acked_epoch c a = of_test (a.maker == c.site && a.maker_epoch == c.epoch) _
  where
    of_test : (counts : Bool) (peers : List (Option Cursor)) → (cond counts (record c { peers = peers }) c).epoch ≡ c.epoch
    of_test true peers = refl
    of_test false peers = refl

-- so does whatever was sent
pub counted_epoch : (c d : CursorsValue) (sent : Sent) → IsCounted c sent d → d.epoch ≡ c.epoch
counted_epoch c d (Acknowledged a) e = ap (λ (x : CursorsValue). x.epoch) e ∙ acked_epoch c a
counted_epoch c d (BegunAnew n) e = ap (λ (x : CursorsValue). x.epoch) e

-- and no maker's entry changes
pub counted_makers : (c d : CursorsValue) (sent : Sent) → IsCounted c sent d → d.makers ≡ c.makers
counted_makers c d (Acknowledged a) e = ap (λ (x : CursorsValue). x.makers) e ∙ acked_makers c a
counted_makers c d (BegunAnew n) e = ap (λ (x : CursorsValue). x.makers) e

-- whether a letter was acknowledged, there was none to send, or the connection ended
pub counted_either : {E : Type 0} (c d : CursorsValue) (sent : Result Sent E) → IfOk sent (λ s. IsCounted c s d) → OnErr sent (d ≡ c) → (d.makers ≡ c.makers) × (d.epoch ≡ c.epoch)
counted_either c d (Ok s) counted same = (counted_makers c d s counted, counted_epoch c d s counted)
counted_either c d (Err e) counted same = (ap (λ (x : CursorsValue). x.makers) same, ap (λ (x : CursorsValue). x.epoch) same)
