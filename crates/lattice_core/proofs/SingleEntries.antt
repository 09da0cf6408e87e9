-- Maps of one entry.
use Rattle.std.proofs.Common.{◌≡◌, suc, List, [], ◌∷◌, ◌++◌, length, arith, sym, ap, ◌∙◌}

-- the last entry of a list of one is all of it
pub only_entry : {A : Type 0} (es rest : List A) (e : A) → length es ≡ 1 → es ≡ rest ++ e ∷ [] → es ≡ e ∷ []
only_entry es [] e h is = is
only_entry es (r ∷ []) e h is =
    let two : 2 ≡ 1 = sym (ap length is) ∙ h in
    absurd (omega (two, arith))
only_entry es (r ∷ s ∷ rest) e h is =
    let more : suc (suc (length (rest ++ e ∷ []))) ≡ 1 = sym (ap length is) ∙ h in
    absurd (omega (more, arith))
