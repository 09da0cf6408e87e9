-- How long answers of the base protocol are, and what each answer has.
use Rattle.std.proofs.Common.{◌≡◌, ◌≤◌, ◌+◌, ◌*◌, ◌++◌, ◌∷◌, [], ℕ, Bool, true, false, List, Option, None, Some, length, arith, refl, sym, subst}
use Rattle.std.specs.List.{sum_by}
use Rattle.std.proofs.lemmas.List.Sums.{sum_by-append}
use Rattle.pcrf_values.specs.Limits.{identity_limit}
use Rattle.pcrf_values.specs.declared.refusal.Refusal.{Refusal}
use Rattle.dia_codec.specs.declared.message.Header.{Header}
use Rattle.dia_codec.specs.Fields.{AvpValue, MessageValue}
use Rattle.dia_codec.specs.Limits.{longest_message}
use Rattle.dia_codec.specs.Written.{word_bytes, written_avp, padded_len, written_len}
use Rattle.dia_codec.specs.Written as written
use Rattle.dia_base.specs.Avps.{base_key}
use Rattle.dia_base.specs.Answers.{IsShortId, text_avp, number_avp, result_avp, origin_avps, session_avps, names_application, application_avps, refusal_answer}
use Rattle.dia_base.specs.declared.identity.Identity.{Identity}

-- an AVP of at most 4 * n bytes takes 8 more
pub text_within : (code : ℕ) (bytes : List ℕ) (n : ℕ) → length bytes ≤ 4 * n → padded_len (text_avp (base_key code) bytes) ≤ 8 + 4 * n
text_within code bytes n within = omega arith

-- a number takes 12
pub number_within : (code n : ℕ) → padded_len (number_avp (base_key code) n) ≡ 12
unfolding word_bytes
number_within code n = refl

-- Origin-Host and Origin-Realm
pub origin_within : (i : Identity) → length i.host ≤ identity_limit → length i.realm ≤ identity_limit → sum_by padded_len (origin_avps i) ≤ 528
origin_within i host_short realm_short =
    let host = text_within 264 i.host 64 (omega arith) in
    let realm = text_within 296 i.realm 64 (omega arith) in
    omega arith

result_of : (experimental : Bool) (r : Refusal) → r.experimental ≡ experimental → padded_len (result_avp (Some r)) ≤ 32
unfolding word_bytes written_avp written.three_bytes
result_of true r is = rw is (omega arith)
result_of false r is = rw is (omega arith)

-- the result
pub result_within : (r : Option Refusal) → padded_len (result_avp r) ≤ 32
unfolding word_bytes
result_within None = omega arith
result_within (Some r) = result_of r.experimental r refl

-- the Session-Id, where there is one
session_within : (id : Option (List ℕ)) → IsShortId id → sum_by padded_len (session_avps id) ≤ 520
session_within None short = omega arith
session_within (Some id) short = let one = text_within 263 id 128 short in omega arith

-- the Auth-Application-Id, where it stands
application_within : (names : Bool) (h : Header) (r : Refusal) → names_application h r ≡ names → sum_by padded_len (application_avps h r) ≤ 12
unfolding word_bytes
application_within true h r is = rw is (omega arith)
application_within false h r is = rw is (omega arith)

-- two lists of AVPs
pub both_within : (xs ys : List AvpValue) (m n : ℕ) → sum_by padded_len xs ≤ m → sum_by padded_len ys ≤ n → sum_by padded_len (xs ++ ys) ≤ m + n
both_within xs ys m n first second = let both = sum_by-append padded_len xs ys in rw both (omega (arith, first, second))

-- these, then the origin and the result
pub ending_within : (xs : List AvpValue) (n : ℕ) (i : Identity) (r : Option Refusal) → sum_by padded_len xs ≤ n → length i.host ≤ identity_limit → length i.realm ≤ identity_limit → sum_by padded_len (xs ++ origin_avps i ++ result_avp r ∷ []) ≤ n + 560
ending_within xs n i r first host realm =
    let named = both_within xs (origin_avps i) n 528 first (origin_within i host realm) in
    let all = both_within (xs ++ origin_avps i) (result_avp r ∷ []) (n + 528) 32 named (let w = result_within r in omega (arith, w)) in
    omega (arith, all)

-- the answer that refuses a request fits a message
pub refusal_fits : (i : Identity) (h : Header) (r : Refusal) (id : Option (List ℕ)) (m : MessageValue) → m ≡ refusal_answer i h r id → length i.host ≤ identity_limit → length i.realm ≤ identity_limit → IsShortId id
    → written_len m ≤ longest_message
unfolding refusal_answer
refusal_fits i h r id m is host realm short =
    let application = application_within (names_application h r) h r refl in
    let first = both_within (session_avps id) (application_avps h r) 520 12 (session_within id short) application in
    let all = ending_within (session_avps id ++ application_avps h r) 532 i (Some r) first host realm in
    subst (λ (x : MessageValue). written_len x ≤ longest_message) (sym is) (omega (arith, all))
