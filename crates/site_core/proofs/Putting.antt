-- What putting the bytes of an answer came to.
use Rattle.std.proofs.Common.{◌≡◌, ℕ, true, false, List, Option, Result, Ok, Err, is_err, OnOk, OnErr, subst}
use Rattle.std.specs.Io.KnownBytes.{Appends}
use Rattle.dia_codec.specs.Counted.{AppendsPart}

module _ {X E : Type 0} (from to : Option (List ℕ)) (sent answer : List ℕ) (is : sent ≡ answer) where
  -- all were written
  pub put_whole : (r : Result X E) → is_err r ≡ false → OnOk r (Appends from to sent) → Appends from to answer
  put_whole (Ok x) none h = subst (Appends from to) is h
  put_whole (Err e) some h = absurd cc

  -- some first part was
  pub put_in_part : (r : Result X E) → is_err r ≡ true → OnErr r (AppendsPart from to sent) → AppendsPart from to answer
  put_in_part (Ok x) none h = absurd cc
  put_in_part (Err e) some h = subst (AppendsPart from to) is h
