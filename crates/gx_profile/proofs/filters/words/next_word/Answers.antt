use Rattle.std.proofs.Common.{◌≡◌, ◌<◌, ◌+◌, ◌∙◌, ap, sym, refl, rules, arith, length, take, drop, drop-drop, not}
use Rattle.std.specs.List.{position_or_len}
use Rattle.std.proofs.lemmas.List.Sums.{prefix_len-le-length}
use Rattle.gx_profile.specs.Words.{is_space, words_of}
use Rattle.gx_profile.proofs.Splitting.{one_word, word_before}
use Rattle.gx_profile.proofs.filters.words.next_word.Goals as goal

pub returns-then-length-text : goal.returns-then-length-text
returns-then-length-text c =
    let one = one_word c.in_ok-text.text.now (search rules) in
    rw (c.in_ok-text.was, one) refl

pub split_at-requires : goal.split_at-requires
split_at-requires c = rw c.word_length-length.ensures (prefix_len-le-length (λ byte. not (is_space byte)) c.in_ok-text.text.now)

pub returns : goal.returns
returns c =
    let text = c.in_ok-text.text.now in
    let n = position_or_len is_space text in
    let is : c.word_length-length.result ≡ n = c.word_length-length.ensures in
    let most = prefix_len-le-length (λ byte. not (is_space byte)) text in
    let some : n < length text = grind arith in
    let word : c.split_at.result.0.now ≡ take n text = c.split_at.ensures.front ∙ ap (λ k. take k text) is in
    let rest : c.in-Some.rest.now ≡ drop (n + 1) text = ap (drop 1) (sym c.in-Some.ensures.cases.0 ∙ c.split_at.ensures.back ∙ ap (λ k. drop k text) is) ∙ drop-drop 1 n text in
    rw (c.in_ok-text.was, word_before text some, word, rest) refl
