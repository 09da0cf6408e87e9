-- A run, event by event.
use Rattle.std.proofs.Common.{◌≡◌, List, [], ◌∷◌, ◌++◌, refl}
use Rattle.pcrf_model.specs.Worlds.{WorldEvent, WorldAnswer, Setting, WorldTook, world_view, Gives, GivesAll, after, after_all}

-- one event more with its answer
pub gives_push : (g : Setting) (w : WorldTook) (es : List WorldEvent) (answers : List WorldAnswer) (e : WorldEvent) (a : WorldAnswer) → GivesAll g w es answers → Gives g (world_view (after_all g w es answers)) e a → GivesAll g w (es ++ e ∷ []) (answers ++ a ∷ [])
gives_push g w [] [] e a gives last = (last, tt)
gives_push g w [] (b ∷ answers) e a gives last = absurd gives
gives_push g w (d ∷ es) [] e a gives last = absurd gives
gives_push g w (d ∷ es) (b ∷ answers) e a gives last = (gives.0, gives_push g (after g w d b) es answers e a gives.1 last)

-- and what the sites then took
pub after_push : (g : Setting) (w : WorldTook) (es : List WorldEvent) (answers : List WorldAnswer) (e : WorldEvent) (a : WorldAnswer) → GivesAll g w es answers → after_all g w (es ++ e ∷ []) (answers ++ a ∷ []) ≡ after g (after_all g w es answers) e a
after_push g w [] [] e a gives = refl
after_push g w [] (b ∷ answers) e a gives = absurd gives
after_push g w (d ∷ es) [] e a gives = absurd gives
after_push g w (d ∷ es) (b ∷ answers) e a gives = after_push g (after g w d b) es answers e a gives.1
