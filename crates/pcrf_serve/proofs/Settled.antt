-- What a seat gains by demands on a host, and that nothing is to be asked of the host at the end of them.
use Rattle.std.proofs.Common.{◌≡◌, ℕ, List, Result, Ok, Err, IfOk, false, inl, inr, sym, subst, ◌∙◌}
use Rattle.pcrf_model.specs.Steps.{SiteEvent}
use Rattle.site_lock.specs.Books.{SeatValue}
use Rattle.pcrf_serve.specs.Earlier.{Adds}
use Rattle.pcrf_serve.specs.Events.{IsPushTo, event_to}
use Rattle.pcrf_model.specs.Replies.{ReplyValue}
use Rattle.site_lock.specs.Sites.{SiteValue}
use Rattle.pcrf_serve.specs.declared.demand.Demand.{Demand}
use Rattle.pcrf_serve.proofs.Chains.{gains_then, gains_weaker}
use Rattle.pcrf_serve.specs.Due.{FindsNone, NothingWasDue, WasAsked}
use Rattle.pcrf_serve.specs.Requests.{WasReplied, asks}

-- demands on a host, then a look, and then a demand more
pub pushed_on : (demand : Demand) (host : List ℕ) (event : SiteEvent) (s t u v : SeatValue) → event ≡ event_to demand host → Adds (IsPushTo host) s t → u ≡ t → Adds (λ e. e ≡ event) u v
    → Adds (IsPushTo host) s v
pushed_on demand host event s t u v is before same more =
    gains_then (λ r. IsPushTo host r.event) s t v before
    (gains_weaker (λ r. r.event ≡ event) (λ r. IsPushTo host r.event) t v (λ r e. (demand, e ∙ is)) (subst (λ (w : SeatValue). Adds (λ e. e ≡ event) w v) same more))

-- a look alone
pub looked_on : (host : List ℕ) (s t u : SeatValue) → Adds (IsPushTo host) s t → u ≡ t → Adds (IsPushTo host) s u
looked_on host s t u before same = subst (λ (w : SeatValue). Adds (IsPushTo host) s w) (sym same) before

-- demands, and then others
pub both_on : (host : List ℕ) (s t u : SeatValue) → Adds (IsPushTo host) s t → Adds (IsPushTo host) t u → Adds (IsPushTo host) s u
both_on host s t u a b = gains_then (λ r. IsPushTo host r.event) s t u a b

-- a demand by which nothing is asked
pub told_nothing : (Found : SeatValue → SiteValue → Type 0) (demand : Demand) (host : List ℕ) (event : SiteEvent) (reply : ReplyValue) (t : SeatValue) → event ≡ event_to demand host
    → WasAsked t.receipts event → WasReplied t.receipts reply → asks reply ≡ false → NothingWasDue Found demand host t
told_nothing Found demand host event reply t is asked replied none = inl (reply, subst (WasAsked t.receipts) is asked, replied, none)

-- a look that finds nothing
pub found_nothing : (Found : SeatValue → SiteValue → Type 0) (demand : Demand) (host : List ℕ) (s t : SeatValue) → t ≡ s → FindsNone Found demand s host → NothingWasDue Found demand host t
found_nothing Found demand host s t same nothing = inr (subst (λ (w : SeatValue). FindsNone Found demand w host) (sym same) nothing)

-- what holds of each answer holds of the one that is given, if one is
pub of_each : {A E : Type 0} (P : A → Type 0) (r : Result A E) → ((a : A) → P a) → IfOk r P
of_each P (Ok a) f = f a
of_each P (Err e) f = tt
