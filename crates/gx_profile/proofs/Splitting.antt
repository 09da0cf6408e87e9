-- Texts and their words.
use Rattle.std.proofs.Common.{◌≡◌, ◌<◌, ◌≤◌, ◌+◌, ◌∙◌, ℕ, Bool, true, false, ◌&&◌, nat_lt, List, [], ◌∷◌, ◌++◌, length, take, drop, get_or, ap, sym, refl, rules, arith, drop-drop, lt-ltb}
use Rattle.std.specs.List.{All, AllByRecursion, list_all, position_or_len}
use Rattle.std.proofs.lemmas.List.Elements.{All-from_recursion}
use Rattle.std.proofs.lemmas.List.Splits.{slice_split_none, slice_split_at, slice_split_first, join_with_byte-slice_split, length-slice_split}
use Rattle.std.proofs.lemmas.List.Sums.{fails_before_first}
use Rattle.std.specs.Cmp.{first_so, second_so}
use Rattle.gx_profile.specs.Filters.{is_of}
use Rattle.gx_profile.specs.Texts.{options_text}
use Rattle.gx_profile.specs.Words.{space, is_space, words_of, text_of}

-- ---- the first word

-- a text without a space is one word
pub one_word : (text : List ℕ) → position_or_len is_space text ≡ length text → words_of text ≡ text ∷ []
one_word text none = slice_split_none is_space text (λ k d lt. fails_before_first is_space text k d (rw none lt))

-- what stands before the first space is the first word
pub word_before : (text : List ℕ) → position_or_len is_space text < length text → words_of text ≡ take (position_or_len is_space text) text ∷ words_of (drop (position_or_len is_space text + 1) text)
word_before text some = slice_split_first is_space text 0 some

-- ---- words joined and parted

-- words joined by spaces come back
pub text_of_words : (text : List ℕ) → text_of (words_of text) ≡ text
text_of_words text = join_with_byte-slice_split space text

words_by : (text : List ℕ) (words : List (List ℕ)) → 0 < length words → text_of words ≡ text → options_text words ≡ space ∷ text
words_by text [] some is = absurd (omega arith)
words_by text (word ∷ words) some is = ap (λ t. space ∷ t) is

-- the words of options, behind a space
pub options_written : (text : List ℕ) → options_text (words_of text) ≡ space ∷ text
options_written text = words_by text (words_of text) (omega (arith, length-slice_split is_space text)) (text_of_words text)

-- a word has no space
abbrev pub Spaceless : List ℕ → Type 0
Spaceless word = AllByRecursion (λ byte. is_space byte ≡ false) word

-- a text is parted into its words, where these have no spaces
pub words_of_text : (word : List ℕ) (words : List (List ℕ)) → AllByRecursion Spaceless (word ∷ words) → words_of (text_of (word ∷ words)) ≡ word ∷ words
words_of_text word [] h = slice_split_none is_space word (All-from_recursion (λ byte. is_space byte ≡ false) word h.0)
words_of_text word (next ∷ words) h =
    slice_split_at is_space word space (text_of (next ∷ words)) (All-from_recursion (λ byte. is_space byte ≡ false) word h.0) refl
    ∙ ap (λ more. word ∷ more) (words_of_text next words h.1)

-- bytes that pass a test that a space doesn't
pub spaceless : (passes : ℕ → Bool) → ((byte : ℕ) → passes byte ≡ true → is_space byte ≡ false) → (word : List ℕ) → list_all passes word ≡ true → Spaceless word
spaceless passes apart [] h = tt
spaceless passes apart (byte ∷ bytes) h =
    (apart byte (first_so (passes byte) (list_all passes bytes) h), spaceless passes apart bytes (second_so (passes byte) (list_all passes bytes) h))

-- some bytes that all pass
pub of_all : (passes : ℕ → Bool) (word : List ℕ) → 0 < length word → is_of passes word ≡ list_all passes word
of_all passes word some = let is : nat_lt 0 (length word) ≡ true = lt-ltb 0 (length word) some in rw is refl

-- the same of a word
pub spaceless_of : (passes : ℕ → Bool) → ((byte : ℕ) → passes byte ≡ true → is_space byte ≡ false) → (word : List ℕ) → is_of passes word ≡ true → Spaceless word
spaceless_of passes apart word h = spaceless passes apart word (second_so (nat_lt 0 (length word)) (list_all passes word) h)
