-- The first that are due, so far as they were found.
use Rattle.std.proofs.Common.{◌≡◌, ℕ, true, cond, ◌<◌, ◌≤◌, List, [], ◌∷◌, ◌++◌, map, length, take, arith, sym, ap, ◌∙◌}
use Rattle.std.specs.List.{filter}
use Rattle.std.proofs.Math.Seq.{take-append_seam}
use Rattle.std.proofs.lemmas.List.{append_assoc, append-nil, take_all}
use Rattle.watched_links.specs.Refusals.{StageList, due_of}
use Rattle.watched_links.specs.Stages.{is_due}
use Rattle.watched_links.specs.declared.stage.Stage.{Stage}

module _ {A : Type 0} (most : ℕ) (found : List A) where
  -- where as many were found as are wanted, they are the first
  pub firsts_full : (rest all : List A) → found ++ rest ≡ all → length found ≡ most → found ≡ take most all
  firsts_full rest all is full = sym (take-append_seam found rest) ∙ ap (λ n. take n (found ++ rest)) full ∙ ap (take most) is

  -- where fewer were found and nothing is left, they are all
  pub firsts_few : (all : List A) → found ++ [] ≡ all → length found < most → found ≡ take most all
  firsts_few all is few =
      let within : length found ≤ most = omega arith in
      let same : found ≡ all = sym (append-nil found) ∙ is in
      sym (take_all most found within) ∙ ap (take most) same

-- one more that is due, of those that are left
pub one_found : (pause now : ℕ) (found after all : List (List ℕ)) (left rest : StageList) (x id : List ℕ) (s : Stage)
    → found ++ due_of pause now left ≡ all → left ≡ (id, s) ∷ rest → is_due pause now s ≡ true → x ≡ id → after ≡ found ++ x ∷ []
    → after ++ due_of pause now rest ≡ all
one_found pause now found after all left rest x id s so step due same more =
    ap (λ (l : List (List ℕ)). l ++ due_of pause now rest) more
    ∙ append_assoc found (x ∷ []) (due_of pause now rest)
    ∙ ap (λ (y : List ℕ). found ++ y ∷ due_of pause now rest) same
    ∙ ap (λ b. found ++ map (λ e. e.0) (cond b ((id, s) ∷ filter (λ e. is_due pause now e.1) rest) (filter (λ e. is_due pause now e.1) rest))) (sym due)
    ∙ ap (λ (l : StageList). found ++ due_of pause now l) (sym step)
    ∙ so
