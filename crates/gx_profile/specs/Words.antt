-- A text by its words: what stands between single spaces.
use Rattle.std.specs.Prelude.{ℕ, Bool, ◌==◌, List, [], ◌∷◌, Option, Some, None}
use Rattle.std.specs.List.{slice_split, join_with_byte}

abbrev pub space : ℕ
space = 0x20

abbrev pub is_space : ℕ → Bool
is_space byte = byte == space

-- the words of a text
abbrev pub words_of : List ℕ → List (List ℕ)
words_of text = slice_split is_space text

-- the text of these words
abbrev pub text_of : List (List ℕ) → List ℕ
text_of words = join_with_byte space words

-- the words of what is left of a text, none where nothing is
abbrev pub words_left : Option (List ℕ) → List (List ℕ)
words_left None = []
words_left (Some text) = words_of text

-- the first of some words, and those behind it
abbrev pub first_word : List (List ℕ) → Option (List ℕ × List (List ℕ))
first_word [] = None
first_word (word ∷ words) = Some (word, words)
