-- What is told by a seat's last receipt, whose reply and place are known.
use Rattle.std.proofs.Common.{◌≡◌, ℕ, List, Option, Some, None, option_map, option_and_then, refl, sym, ap, ◌∙◌}
use Rattle.dia_base.specs.declared.identity.Identity.{Identity}
use Rattle.site_lock.specs.Books.{ReceiptValue}
use Rattle.site_lock.specs.Deeds.{counted_place}
use Rattle.pcrf_model.specs.Replies.{ReplyValue}
use Rattle.pcrf_model.specs.Requests.{CcrValue}
use Rattle.pcrf_values.proofs.Plain.{none_some, some_same}
use Rattle.pcrf_serve.specs.Going.{request_telling, telling_of}

-- the request of the reply that it has, with the identifiers of its place
pub told_by_last : (names : Identity) (first : ℕ) (q : CcrValue) (last : Option ReceiptValue) (place : ℕ) (reply : ReplyValue)
    → Some place ≡ option_map counted_place last → option_map (λ r. r.reply) last ≡ Some reply
    → request_telling names first q place reply ≡ option_and_then (telling_of names first q) last
told_by_last names first q (Some r) place reply at said =
    ap (λ (p : ℕ). request_telling names first q p reply) (some_same place (counted_place r) at)
    ∙ ap (λ (a : ReplyValue). request_telling names first q (counted_place r) a) (sym (some_same r.reply reply said))
told_by_last names first q None place reply at said = none_some place (sym at)

-- where there is no place there is no receipt
pub told_by_none : (names : Identity) (first : ℕ) (q : CcrValue) (last : Option ReceiptValue) → None ≡ option_map counted_place last → None ≡ option_and_then (telling_of names first q) last
told_by_none names first q (Some r) at = none_some (counted_place r) at
told_by_none names first q None at = refl
