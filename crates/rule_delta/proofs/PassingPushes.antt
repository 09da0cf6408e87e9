-- Whether a session is due, by what is made of it.
use Rattle.std.proofs.Common.{◌≡◌, ℕ, Bool, true, false, cond, List, Option, Some, None, is_some, option_map, refl, sym, ap, ◌∙◌}
use Rattle.pcrf_values.proofs.Plain.{clash, none_some}
use Rattle.pcrf_model.specs.Pushing.{is_due, due_session}
use Rattle.pcrf_model.specs.Replies.{PushValue}
use Rattle.pcrf_model.specs.Sessions.{Session}
use Rattle.pcrf_model.specs.Tables.{Tables}
use Rattle.pcrf_model.specs.Views.{View}
use Rattle.rule_delta.specs.Pushed.{push_of}
use Rattle.rule_delta.specs.Due.{push_if_due}

-- where something is made of a session it passed
pub passed : {A B : Type 0} (f : A → B) (o : Option A) (b : Bool) (y : B) → option_map f o ≡ cond b (Some y) None → is_some o ≡ true → b ≡ true
passed f None b y h e = clash false e refl
passed f (Some x) true y h e = refl
passed f (Some x) false y h e = none_some (f x) (sym h)

-- and where nothing is it didn't
pub failed : {A B : Type 0} (f : A → B) (o : Option A) (b : Bool) (y : B) → option_map f o ≡ cond b (Some y) None → is_some o ≡ false → b ≡ false
failed f (Some x) b y h e = clash true refl e
failed f None true y h e = none_some y h
failed f None false y h e = refl

-- the push of a session that is the one that is due
pub its_push : (t : Tables) (i : ℕ) (v : View) (name : Option (List ℕ)) (s : Session) (o : Option PushValue) → o ≡ push_if_due t i v name s → is_due t i v name s ≡ true
    → Some s ≡ due_session t i v name → o ≡ option_map (push_of t v) (due_session t i v name)
its_push t i v name s o p d first = p ∙ ap (λ (b : Bool). cond b (Some (push_of t v s)) None) d ∙ ap (option_map (push_of t v)) first

-- where none is due nothing is pushed
pub no_push : (t : Tables) (i : ℕ) (v : View) (name : Option (List ℕ)) → None ≡ due_session t i v name → None ≡ option_map (push_of t v) (due_session t i v name)
no_push t i v name none = ap (option_map (push_of t v)) none
