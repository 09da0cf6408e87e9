-- What is asked for by a seat's last receipt, whose reply and place are known.
use Rattle.std.proofs.Common.{◌≡◌, ℕ, ◌+◌, Bool, false, List, Option, Some, None, option_map, option_and_then, refl, sym, ap, ◌∙◌}
use Rattle.dia_base.specs.declared.identity.Identity.{Identity}
use Rattle.site_lock.specs.Books.{ReceiptValue}
use Rattle.site_lock.specs.Deeds.{counted_place}
use Rattle.pcrf_model.specs.Replies.{ReplyValue, Pushed, Aborted}
use Rattle.dia_codec.specs.Written.{written_spelling}
use Rattle.gx_profile.specs.Pushes.{rar}
use Rattle.rx_profile.specs.Aborts.{asr}
use Rattle.pcrf_values.proofs.Plain.{none_some, some_same}
use Rattle.dia_base.specs.Stated.{stated}
use Rattle.pcrf_serve.specs.Requests.{asks, identifier_at, request_of, request_saying}

-- the request of the reply that it has, with the identifiers of its place
pub asked_by_last : (names : Identity) (first : ℕ) (last : Option ReceiptValue) (place : ℕ) (reply : ReplyValue)
    → Some place ≡ option_map counted_place last → option_map (λ r. r.reply) last ≡ Some reply
    → request_saying names first place reply ≡ option_and_then (request_of names first) last
asked_by_last names first (Some r) place reply at said =
    ap (λ (p : ℕ). request_saying names first p reply) (some_same place (counted_place r) at)
    ∙ ap (λ (a : ReplyValue). request_saying names first (counted_place r) a) (sym (some_same r.reply reply said))
asked_by_last names first None place reply at said = none_some place (sym at)

-- where there is no place there is no receipt
pub asked_by_none : (names : Identity) (first : ℕ) (last : Option ReceiptValue) → None ≡ option_map counted_place last → None ≡ option_and_then (request_of names first) last
asked_by_none names first (Some r) at = none_some (counted_place r) at
asked_by_none names first None at = refl

-- where no request is made nothing is asked
pub none_asked : (names : Identity) (first place : ℕ) (reply : ReplyValue) → None ≡ request_saying names first place reply → asks reply ≡ false
none_asked names first place (Pushed (Some p)) e = none_some (stated names (written_spelling (rar names (identifier_at place) (identifier_at (first + place)) p))) e
none_asked names first place (Pushed None) e = refl
none_asked names first place (Aborted (Some a)) e = none_some (stated names (written_spelling (asr names (identifier_at place) (identifier_at (first + place)) a))) e
none_asked names first place (Aborted None) e = refl
none_asked names first place reply e = refl

-- where there is no place nothing was replied
pub none_replied : (last : Option ReceiptValue) (reply : ReplyValue) → None ≡ option_map counted_place last → option_map (λ r. r.reply) last ≡ Some reply → asks reply ≡ false
none_replied (Some r) reply at said = none_some (counted_place r) at
none_replied None reply at said = none_some reply said
