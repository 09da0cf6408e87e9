use Rattle.std.proofs.Common.{sym, rules, length}
use Rattle.std.proofs.lemmas.List.Sums.{position_or_len_is}
use Rattle.gx_profile.specs.Words.{is_space}
use Rattle.gx_profile.proofs.filters.words.word_length.Goals as goal

pub returns-then-text-length-eq32 : goal.returns-then-text-length-eq32
returns-then-text-length-eq32 c =
    sym (position_or_len_is is_space c.args.text.now c.loop-length.length 0 (search rules) c.loop-length.invariant (λ lt. search rules))

pub returns : goal.returns
returns c =
    sym (position_or_len_is is_space c.args.text.now (length c.args.text.now) 0 (search rules) (λ k lt. c.loop-length.invariant k (search rules)) (λ lt. search rules))
