-- Values within the ranges of their types have the form that facts have.
use Rattle.std.proofs.Common.{◌≡◌, ℕ, suc, ◌<◌, ◌≤◌, ◌^◌, true, List, [], ◌∷◌, length, get_or, refl, ap, ◌∙◌, subst, arith}
use Rattle.std.proofs.lemmas.Bool.Decides.{nat_tests}
use Rattle.std.specs.List.{list_all}
use Rattle.std.specs.Ordering.{is_eq}
use Rattle.pcrf_values.specs.Ascending.{ascending}
use Rattle.pcrf_values.specs.Orders.{text_cmp}
use Rattle.pcrf_values.proofs.Plain.{both}
use Rattle.pcrf_values.proofs.OrderLaws.{text_ranked, eq_itself}
use Rattle.pcrf_values.proofs.AscendingLaws.{ascending-ascending}
use Rattle.pcrf_values.specs.Limits.{apn_limit, subscribers_limit}
use Rattle.pcrf_values.specs.Subscribers.{subscriber_cmp}
use Rattle.pcrf_values.specs.Texts.{small_letters}
use Rattle.pcrf_values.specs.Values.{Subscriber}
use Rattle.pcrf_values.proofs.FactLaws.{subscriber_ranked}
use Rattle.pcrf_model.specs.Forms.{is_within, is_byte, is_text, is_rising, is_apn, is_subscriber, are_subscribers}
use Rattle.pcrf_model.proofs.FormLaws.{le_passes, test_by_rises}

-- bytes pass the test of bytes
pub bytes_pass : (xs : List ℕ) → ((k : ℕ) → get_or xs k 0 < 2 ^ 8) → list_all is_byte xs ≡ true
bytes_pass [] low = refl
bytes_pass (x ∷ xs) low = let first = low 0 in both _ _ (grind (arith, nat_tests, first)) (bytes_pass xs (λ k. low (suc k)))

-- a length from 1 to the most
length_within : {A : Type 0} (most : ℕ) (xs : List A) → 0 < length xs → length xs ≤ most → is_within 1 most (length xs) ≡ true
length_within most xs some few = both _ _ (le_passes 1 (length xs) some) (le_passes (length xs) most few)

-- such bytes are a text
pub text_passes : (most : ℕ) (t : List ℕ) → 0 < length t → length t ≤ most → list_all is_byte t ≡ true → is_text most t ≡ true
text_passes most t some few low = both _ _ (length_within most t some few) low

-- a text in small letters is the name of an access point
pub apn_passes : (t : List ℕ) → 0 < length t → length t ≤ apn_limit → list_all is_byte t ≡ true → small_letters t ≡ t → is_apn t ≡ true
apn_passes t some few low small =
    both _ _ (text_passes apn_limit t some few low) (ap (λ u. is_eq (text_cmp u t)) small ∙ eq_itself text_ranked t)

-- an ascending list of subscribers
pub subscribers_pass : (xs : List Subscriber) → 0 < length xs → length xs ≤ subscribers_limit → ascending subscriber_cmp xs ≡ xs → list_all is_subscriber xs ≡ true → are_subscribers xs ≡ true
subscribers_pass xs some few sorted each =
    let rises : is_rising subscriber_cmp xs ≡ true = subst (λ l. is_rising subscriber_cmp l ≡ true) sorted (test_by_rises subscriber_cmp (ascending subscriber_cmp xs) (ascending-ascending subscriber_cmp subscriber_ranked xs)) in
    both _ _ (both _ _ (length_within subscribers_limit xs some few) each) rises
