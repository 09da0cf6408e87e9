-- A site that keeps no overshadowed fact replies the same, and keeps the same.
use Rattle.std.proofs.Common.{◌≡◌, ℕ, Bool, false, List, ◌∷◌, ◌++◌, take, length, [], ◌↔◌, Option, Some, None, sym, ap, ◌∙◌}
use Rattle.pcrf_model.specs.Holdings.{Holding, under, union, kept_of}
use Rattle.pcrf_model.specs.Operations.{Operation, holding_of}
use Rattle.pcrf_model.specs.Tables.{Tables}
use Rattle.pcrf_model.specs.Replies.{ReplyValue, Taken, Copy, Outcome}
use Rattle.pcrf_model.specs.Serving.{serve}
use Rattle.pcrf_model.specs.Pushing.{push}
use Rattle.pcrf_model.specs.Aborting.{abort}
use Rattle.pcrf_model.specs.Retelling.{retell}
use Rattle.pcrf_model.specs.Steps.{SiteState, kept_state, SiteEvent, Serve, Push, Ops, Whole, AskOwn, AskWhole, Abort, Retell, with_own, MayReply, state_after}
use Rattle.pcrf_model.proofs.UnionLaws.{kept_of-union, kept_of_twice}
use Rattle.pcrf_model.proofs.ReadingLaws.{serve-kept_of, push-kept_of, lacks_counter-kept_of, abort-kept_of, lacks_counter_to_abort-kept_of, retell-kept_of, lacks_counter_to_retell-kept_of}

module _ (most : ℕ) (t : Tables) (i : ℕ) (s : SiteState) where
  -- the reply to the kept state is the reply to the state
  reply_either : (r : ReplyValue) (a b : Outcome) → a ≡ b → (r ≡ a.reply) ↔ (r ≡ b.reply)
  reply_either r a b e = (λ h. h ∙ ap (λ (o : Outcome). o.reply) e, λ h. h ∙ ap (λ (o : Outcome). o.reply) (sym e))

  -- where no counter is lacking to the one, none is to the other
  reply_where : {b c : Bool} (r : ReplyValue) (x y : Outcome) → b ≡ c → x ≡ y
      → ((b ≡ false) × (r ≡ x.reply)) ↔ ((c ≡ false) × (r ≡ y.reply))
  reply_where r x y g e =
      let f = reply_either r x y e in
      (λ h. (sym g ∙ h.0, f.0 h.1), λ h. (g ∙ h.0, f.1 h.1))

  -- the same replies
  pub may_reply : (e : SiteEvent) (r : ReplyValue) → MayReply most t i (kept_state s) e r ↔ MayReply most t i s e r
  may_reply (Serve q) r = reply_either r _ _ (serve-kept_of most t i s.holding q)
  may_reply (Push name) r =
      reply_where r _ _ (lacks_counter-kept_of t i s.holding name)
      (push-kept_of most t i s.holding name)
  may_reply (Abort name) r =
      reply_where r _ _ (lacks_counter_to_abort-kept_of i s.holding name)
      (abort-kept_of i s.holding name)
  may_reply (Retell id) r =
      reply_where r _ _ (lacks_counter_to_retell-kept_of s.holding id)
      (retell-kept_of i s.holding id)
  may_reply (Ops os) r = (λ h. h, λ h. h)
  may_reply (Whole k) r = (λ h. h, λ h. h)
  may_reply (AskOwn p) r = (λ h. h, λ h. h)
  may_reply AskWhole r =
      let e = ap (λ (h : Holding). Copy h (length s.log)) (kept_of_twice s.holding) in
      (λ h. h ∙ e, λ h. h ∙ sym e)

  -- states that keep the same
  with_holding : (h k : Holding) → kept_of h ≡ kept_of k → (log : List Operation) → kept_state (record { holding = h; log = log }) ≡ kept_state (record { holding = k; log = log })
  with_holding h k e log = λ j. record { holding = e j; log = log }

  -- with more taken
  with_more : (k : Holding) (log : List Operation) → kept_state (record { holding = union (kept_of s.holding) k; log = log }) ≡ kept_state (record { holding = union s.holding k; log = log })
  with_more k log = with_holding (union (kept_of s.holding) k) (union s.holding k) (kept_of-union s.holding k) log

  -- with an operation added
  adds : (o : Option Operation) → kept_state (with_own (kept_state s) o) ≡ kept_state (with_own s o)
  adds None = with_holding (kept_of s.holding) s.holding (kept_of_twice s.holding) s.log
  adds (Some o) = with_more (record { facts = under o.session o.facts; clock = o.counter }) (s.log ++ o ∷ [])

  -- or with nothing
  unchanged : kept_state (kept_state s) ≡ kept_state s
  unchanged = with_holding (kept_of s.holding) s.holding (kept_of_twice s.holding) s.log

  -- the same is kept after each event
  pub steps : (e : SiteEvent) (r : ReplyValue) → kept_state (state_after most t i (kept_state s) e r) ≡ kept_state (state_after most t i s e r)
  steps (Serve q) r = ap (λ (o : Outcome). kept_state (with_own (kept_state s) o.added)) (serve-kept_of most t i s.holding q) ∙ adds (serve most t i s.holding q).added
  steps (Push name) r = ap (λ (o : Outcome). kept_state (with_own (kept_state s) o.added)) (push-kept_of most t i s.holding name) ∙ adds (push most t i s.holding name).added
  steps (Abort name) r =
      ap (λ (o : Outcome). kept_state (with_own (kept_state s) o.added)) (abort-kept_of i s.holding name)
      ∙ adds (abort i s.holding name).added
  steps (Retell id) r =
      ap (λ (o : Outcome). kept_state (with_own (kept_state s) o.added)) (retell-kept_of i s.holding id)
      ∙ adds (retell i s.holding id).added
  steps (Ops os) (Taken n) = with_more (holding_of (take n os)) s.log
  steps (Whole k) r = with_more k s.log
  steps e r = unchanged

-- both
pub steps-kept : (most : ℕ) (t : Tables) (i : ℕ) (s : SiteState) (e : SiteEvent) (r : ReplyValue) →
    (MayReply most t i (kept_state s) e r ↔ MayReply most t i s e r) × (kept_state (state_after most t i (kept_state s) e r) ≡ kept_state (state_after most t i s e r))
steps-kept most t i s e r = (may_reply most t i s e r, steps most t i s e r)
