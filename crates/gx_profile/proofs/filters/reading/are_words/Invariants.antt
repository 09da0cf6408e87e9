use Rattle.std.proofs.Common.{◌≡◌, length, option_copied}
use Rattle.std.specs.List.{list_all}
use Rattle.gx_profile.specs.Filters.{is_word}
use Rattle.gx_profile.specs.Views.{rest_view}
use Rattle.gx_profile.proofs.filters.reading.are_words.Given as goal

-- what is left decides the whole
abbrev pub invariant-loop-word : goal.invariant-loop-word
invariant-loop-word l = list_all is_word (rest_view l.left) ≡ list_all is_word (rest_view l.text)

abbrev pub decreases-loop-word : goal.decreases-loop-word
decreases-loop-word l = length (rest_view l.left)
