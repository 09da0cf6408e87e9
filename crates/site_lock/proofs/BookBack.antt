-- What is said of a book that was settled is said of the one that comes back.
use Rattle.std.proofs.Common.{◌≡◌, Result, Ok, Err, IfOk, IfErr, sym, subst}

module _ {S U V : Type 0} where
  pub on_ok : (book : S → V) (P : S → V → Type 0) (v : V) (r : Result S U) → IfOk r (λ s. P s v) → IfOk r (λ s. book s ≡ v) → IfOk r (λ s. P s (book s))
  on_ok book P v (Ok s) h e = subst (P s) (sym e) h
  on_ok book P v (Err u) h e = h

  pub on_err : (book : U → V) (P : U → V → Type 0) (v : V) (r : Result S U) → IfErr r (λ u. P u v) → IfErr r (λ u. book u ≡ v) → IfErr r (λ u. P u (book u))
  on_err book P v (Ok s) h e = h
  on_err book P v (Err u) h e = subst (P u) (sym e) h
