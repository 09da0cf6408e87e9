-- Numbers of four octets compare as the octets do.
use Rattle.std.proofs.Common.{◌≡◌, ℕ, ◌+◌, ◌*◌, ◌/◌, ◌%◌, ◌^◌, ◌<◌, [], ◌∷◌, refl, ap, ◌∙◌, arith, Ordering, Less, Equal, Greater}
use Rattle.std.specs.Ordering.{nat_cmp, ordering_then}
use Rattle.std.proofs.lemmas.Bool.Decides.{nat_tests}
use Rattle.std.proofs.lemmas.Nat.{from_be_bytes-to_be_bytes_4}
use Rattle.pcrf_values.specs.Orders.{text_cmp}
use Rattle.bind_index.specs.Index.{address_cmp}
use Rattle.bind_index.specs.Numbers.{address_of}

-- an octet more: the numbers before it decide first
an_octet_more : (m n x y : ℕ) → x < 256 → y < 256 → nat_cmp (m * 256 + x) (n * 256 + y) ≡ ordering_then (nat_cmp m n) (nat_cmp x y)
an_octet_more m n x y low least = grind (arith, nat_tests)

-- of comparisons in turn, it is the same which are taken together
in_turn : (o p q r : Ordering) → ordering_then (ordering_then (ordering_then o p) q) r ≡ ordering_then o (ordering_then p (ordering_then q (ordering_then r Equal)))
in_turn Less p q r = refl
in_turn Greater p q r = refl
in_turn Equal Less q r = refl
in_turn Equal Greater q r = refl
in_turn Equal Equal Less r = refl
in_turn Equal Equal Greater r = refl
in_turn Equal Equal Equal Less = refl
in_turn Equal Equal Equal Equal = refl
in_turn Equal Equal Equal Greater = refl

-- four octets and four
four : (a b c d e f g h : ℕ) → b < 256 → c < 256 → d < 256 → f < 256 → g < 256 → h < 256
    → nat_cmp (((a * 256 + b) * 256 + c) * 256 + d) (((e * 256 + f) * 256 + g) * 256 + h) ≡ text_cmp (a ∷ b ∷ c ∷ d ∷ []) (e ∷ f ∷ g ∷ h ∷ [])
four a b c d e f g h b' c' d' f' g' h' =
    an_octet_more ((a * 256 + b) * 256 + c) ((e * 256 + f) * 256 + g) d h d' h'
    ∙ ap (λ o. ordering_then o (nat_cmp d h)) (an_octet_more (a * 256 + b) (e * 256 + f) c g c' g')
    ∙ ap (λ o. ordering_then (ordering_then o (nat_cmp c g)) (nat_cmp d h)) (an_octet_more a e b f b' f')
    ∙ in_turn (nat_cmp a e) (nat_cmp b f) (nat_cmp c g) (nat_cmp d h)

-- a number by its octets
by_octets : (n : ℕ) → n < 2 ^ 32 → n ≡ ((n / 16777216 % 256 * 256 + n / 65536 % 256) * 256 + n / 256 % 256) * 256 + n % 256
by_octets n fits = omega (arith, from_be_bytes-to_be_bytes_4 n fits)

-- so numbers compare as the addresses that they spell
pub compare_alike : (m n : ℕ) → m < 2 ^ 32 → n < 2 ^ 32 → nat_cmp m n ≡ address_cmp (address_of m) (address_of n)
compare_alike m n a b =
    ap (λ k. nat_cmp k n) (by_octets m a) ∙ ap (nat_cmp (((m / 16777216 % 256 * 256 + m / 65536 % 256) * 256 + m / 256 % 256) * 256 + m % 256)) (by_octets n b)
    ∙ four (m / 16777216 % 256) (m / 65536 % 256) (m / 256 % 256) (m % 256) (n / 16777216 % 256) (n / 65536 % 256) (n / 256 % 256) (n % 256)
    (omega arith) (omega arith) (omega arith) (omega arith) (omega arith) (omega arith)
