-- In this project's own form a node serves every realm.
use Rattle.std.proofs.Common.{◌≡◌, ℕ, List, take, Result, Ok, Err, if◌then◌else◌, refl, ap, ◌∙◌}
use Rattle.dia_codec.specs.declared.fault.MsgFault.{MsgFault}
use Rattle.dia_codec.specs.Fields.{MessageValue, header_of}
use Rattle.dia_codec.specs.Limits.{header_bytes}
use Rattle.dia_codec.specs.Reading.{message_of}
use Rattle.dia_base.specs.declared.form.MessageForm.{MessageForm}
use Rattle.dia_base.specs.declared.form.MessageForm.TheVariants.{Own}
use Rattle.dia_base.specs.declared.identity.Identity.{Identity}
use Rattle.site_core.specs.Asking.{AskedValue, ToServe, ToRefuse, Nothing, meaning_of_frame, meaning_of_request}
use Rattle.site_core.specs.Realms.{OwnFormServesEveryRealm, judged_at, meaning_at, meaning_by_realm, repeated_in}

-- by a request's frame
by_request : (i : Identity) (frame : List ℕ) (read : Result MessageValue MsgFault) → i.form ≡ Own → meaning_by_realm i frame read ≡ meaning_of_request frame read
by_request i frame (Ok m) own = rw own refl
by_request i frame (Err fault) own = refl

-- before what is repeated
judged : (i : Identity) (frame : List ℕ) → i.form ≡ Own → judged_at i frame ≡ meaning_of_frame frame
unfolding judged_at meaning_of_frame
judged i frame own =
    ap (λ (asked : AskedValue). if (header_of (take header_bytes frame)).flags.request then asked else Nothing) (by_request i frame (message_of frame) own)

-- all that is repeated
repeated : (asked : AskedValue) → repeated_in Own asked ≡ asked
repeated (ToServe h request) = refl
repeated (ToRefuse h session refusal) = refl
repeated Nothing = refl

pub own_form_serves_every_realm : OwnFormServesEveryRealm
unfolding meaning_at
own_form_serves_every_realm i frame own =
    ap (λ (form : MessageForm). repeated_in form (judged_at i frame)) own ∙ repeated (judged_at i frame) ∙ judged i frame own
