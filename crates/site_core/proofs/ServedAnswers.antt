-- What was answered to a request that was served.
use Rattle.std.proofs.Common.{◌≡◌, ℕ, Bool, List, Result, Ok, Err, IfOk, OnErr, inl, inr, ap, sym, subst, ◌∙◌}
use Rattle.pcrf_model.specs.Replies.{ReplyValue}
use Rattle.pcrf_model.specs.Requests.{RequestValue}
use Rattle.dia_base.specs.declared.identity.Identity.{Identity}
use Rattle.dia_codec.specs.declared.message.Header.{Header}
use Rattle.site_core.specs.Answering.{answer_to}
use Rattle.site_core.specs.Asking.{ToServe}
use Rattle.site_core.specs.Frames.{IsServed, Unanswered, disconnects}
use Rattle.site_core.specs.declared.answering.Answer.{Answer}

module _ {A : Type 0} (names : A → Identity) (may : A → RequestValue → ReplyValue → A → Type 0) (full : A → Type 0) (old new : A) (h : Header) (asked : RequestValue) (r : ReplyValue) (replied : may old asked r new) where
  -- the request came back as it was
  pub served_by : {E : Type 0} (i : Identity) (q : RequestValue) (result : Result Answer E) → i ≡ names new → q ≡ asked → IfOk result (λ a. a.bytes.items ≡ answer_to i h q r) → IfOk result (λ a. a.last ≡ disconnects q r)
      → IfOk result (λ a. IsServed names may full old h asked a.bytes.items a.last new)
  served_by i q (Ok a) named same bytes last =
      inl (r, replied, bytes ∙ ap (λ (x : Identity). answer_to x h q r) named ∙ ap (λ (x : RequestValue). answer_to (names new) h x r) same, last ∙ ap (λ (x : RequestValue). disconnects x r) same)
  served_by i q (Err e) named same bytes last = tt

  -- without an answer it was served all the same
  pub served_without : {E : Type 0} (result : Result Answer E) → OnErr result (Unanswered may old (ToServe h asked) new)
  served_without (Ok a) = tt
  served_without (Err e) = inr (r, replied)

-- what holds of a reply that is there
pub of_reply : {X E : Type 0} (P : X → Type 0) (result : Result X E) (reply : X) → IfOk result P → result ≡ Ok reply → P reply
of_reply {X = X} {E = E} P result reply holds is = subst (λ (x : Result X E). IfOk x P) is holds
