-- Workers that began with seats give them back.
use Rattle.std.proofs.Common.{◌≡◌, List, [], ◌∷◌, length, refl, ap, suc}
use Rattle.std.specs.List.{AllZip}
use Rattle.site_lock.specs.Books.{SeatValue}
use Rattle.pcrf_serve.specs.declared.workers.Begun.{Begun}
use Rattle.pcrf_serve.proofs.Chains.{gains_earlier}
use Rattle.pcrf_serve.specs.Serving.{IsOfConnection}
use Rattle.pcrf_serve.specs.Workers.{AllBegun, AllJoin, AllGiveBack, AllServe}

-- lists that fit are as long as each other
pub zip_length : {A B : Type 0} (P : A → B → Type 0) (xs : List A) (ys : List B) → AllZip P xs ys → length ys ≡ length xs
zip_length P [] [] z = refl
zip_length P [] (y ∷ ys) z = absurd z
zip_length P (x ∷ xs) [] z = absurd z
zip_length P (x ∷ xs) (y ∷ ys) z = ap suc (zip_length P xs ys z.1)

-- what began with the seats of the connections and was joined gives them back, with what was served behind
pub joined : {S : _} {A R W E : Type 0} (seen : A → SeatValue) (connections : List (A × R × W)) (begun : List (Begun S A)) (ended : List (A × E))
    → AllBegun seen connections begun → AllJoin seen begun ended → AllServe seen connections ended
joined seen [] [] [] a b = tt
joined seen [] [] (e ∷ ended) a b = absurd b
joined seen [] (x ∷ begun) ended a b = absurd a
joined seen (c ∷ connections) [] ended a b = absurd a
joined seen (c ∷ connections) (x ∷ begun) [] a b = absurd b
joined seen (c ∷ connections) (x ∷ begun) (e ∷ ended) a b = (b.0 (seen c.0) a.0, joined seen connections begun ended a.1 b.1)

-- so each keeps its earlier receipts
pub given_back : {A R W E : Type 0} (seen : A → SeatValue) (connections : List (A × R × W)) (ended : List (A × E))
    → AllServe seen connections ended → AllGiveBack seen connections ended
given_back seen [] [] a = tt
given_back seen [] (e ∷ ended) a = absurd a
given_back seen (c ∷ connections) [] a = absurd a
given_back seen (c ∷ connections) (e ∷ ended) a = (gains_earlier (λ r. IsOfConnection r.event) (seen c.0) (seen e.0) a.0, given_back seen connections ended a.1)
