-- Whether a session is abandoned, by what is made of it.
use Rattle.std.proofs.Common.{◌≡◌, ℕ, Bool, true, false, cond, List, Option, Some, None, is_some, option_map, refl, sym, ap, ◌∙◌}
use Rattle.pcrf_values.proofs.Plain.{clash, none_some}
use Rattle.pcrf_model.specs.Aborting.{abort_of, is_abandoned, abandoned_session}
use Rattle.pcrf_model.specs.Replies.{AbortValue}
use Rattle.pcrf_model.specs.Sessions.{Session}
use Rattle.pcrf_model.specs.Views.{View}
use Rattle.rule_delta.specs.Abandoned.{abort_if_left}

-- where something is made of a session it passed
pub passed : {A B : Type 0} (f : A → B) (o : Option A) (b : Bool) (y : B) → option_map f o ≡ cond b (Some y) None → is_some o ≡ true → b ≡ true
passed f None b y h e = clash false e refl
passed f (Some x) true y h e = refl
passed f (Some x) false y h e = none_some (f x) (sym h)

-- and where nothing is it didn't
pub failed : {A B : Type 0} (f : A → B) (o : Option A) (b : Bool) (y : B) → option_map f o ≡ cond b (Some y) None → is_some o ≡ false → b ≡ false
failed f (Some x) b y h e = clash true refl e
failed f None true y h e = none_some y h
failed f None false y h e = refl

-- what is asked of a session that is the one that is abandoned
pub its_abort : (i : ℕ) (v : View) (name : Option (List ℕ)) (s : Session) (o : Option AbortValue) → o ≡ abort_if_left i v name s → is_abandoned i v name s ≡ true
    → Some s ≡ abandoned_session i v name → o ≡ option_map (abort_of v) (abandoned_session i v name)
its_abort i v name s o p d first = p ∙ ap (λ (b : Bool). cond b (Some (abort_of v s)) None) d ∙ ap (option_map (abort_of v)) first

-- where none is abandoned nothing is asked
pub no_abort : (i : ℕ) (v : View) (name : Option (List ℕ)) → None ≡ abandoned_session i v name → None ≡ option_map (abort_of v) (abandoned_session i v name)
no_abort i v name none = ap (option_map (abort_of v)) none
