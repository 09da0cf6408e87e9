-- Exchanges one after the other.
use Rattle.std.proofs.Common.{◌≡◌, ℕ, Bool, true, false, cond, inl, inr, ◌==◌, ◌&&◌, List, [], ◌∷◌, ◌++◌, Option, All, filter, fold, refl, sym, ap, subst, ◌∙◌, append_assoc}
use Rattle.std.specs.List.{AllZip}
use Rattle.std.proofs.lemmas.List.Elements.{All-nil, All-cons, All-head, All-tail, All-append, All-weaker, filter-append}
use Rattle.std.proofs.lemmas.List.Sums.{fold-append}
use Rattle.pcrf_model.specs.Letters.{AckValue, LetterValue}
use Rattle.pcrf_model.specs.Cursors.{Cursor, CursorsValue, cursors_after_ack, cursors_after_letter, is_acknowledgement}
use Rattle.pcrf_model.specs.Steps.{SiteEvent, Serve, Push, Ops, Whole, AskOwn, AskWhole, Abort, Retell}
use Rattle.site_lock.specs.Books.{ReceiptValue, SeatValue}
use Rattle.pcrf_serve.specs.Earlier.{Gains, Adds, with_receipts}
use Rattle.pcrf_serve.specs.Events.{IsExchange, IsPushToHost, event_to}
use Rattle.pcrf_serve.specs.declared.demand.Demand.{Demand}
use Rattle.pcrf_serve.specs.declared.demand.Demand.TheVariants.{Rules, Abort}
use Rattle.pcrf_serve.proofs.Chains.{gains_weaker}
use Rattle.pcrf_serve.specs.Exchanging.{makers_after, takes_whole, holds_whole, body_of, Brings, IsBrought, IsHeldBy, IsOfExchange, Exchanged, IsIdle, GainsWhole, GainsPart}

-- ---- lists

-- lists that fit, one behind the other
zips_then : {A B : Type 0} (R : A → B → Type 0) (xs : List A) (ys : List B) (us : List A) (vs : List B) → AllZip R xs ys → AllZip R us vs → AllZip R (xs ++ us) (ys ++ vs)
zips_then R [] [] us vs a b = b
zips_then R [] (y ∷ ys) us vs a b = absurd a
zips_then R (x ∷ xs) [] us vs a b = absurd a
zips_then R (x ∷ xs) (y ∷ ys) us vs a b = (a.0, zips_then R xs ys us vs a.1 b)

-- a test that no element of the list passes
keeps_none : {A : Type 0} (p : A → Bool) (x : A) (xs : List A) → p x ≡ false → filter p xs ≡ [] → filter p (x ∷ xs) ≡ []
keeps_none p x xs e none = ap (λ b. cond b (x ∷ filter p xs) (filter p xs)) e ∙ none

idle_none : (receipts : List ReceiptValue) → All IsIdle receipts → filter holds_whole receipts ≡ []
idle_none [] a = refl
idle_none (r ∷ receipts) a = keeps_none holds_whole r receipts (All-head IsIdle r receipts a).1 (idle_none receipts (All-tail IsIdle r receipts a))

-- ---- exchanges

-- receipts that hold nothing whole change no entry
pub exchanged_idle : (s t : SeatValue) (makers after : List Cursor) → Gains IsIdle s t → after ≡ makers → Exchanged s t makers after
exchanged_idle s t makers after g e = (
  g.0,
  g.1,
  All-weaker IsIdle (λ r. IsOfExchange r.event) (λ r is. is.0) g.0 g.2,
  ([], subst (λ rs. AllZip IsHeldBy [] rs) (sym (idle_none g.0 g.2)) tt, e),
)

-- one exchange after the other
pub exchanged_then : (s t u : SeatValue) (first second third : List Cursor) → Exchanged s t first second → Exchanged t u second third → Exchanged s u first third
exchanged_then s t u first second third a b =
    let la = a.3.0 in let lb = b.3.0 in (
      a.0 ++ b.0,
      b.1 ∙ ap (λ x. with_receipts x b.0) a.1 ∙ ap (λ r. record s { receipts = r }) (append_assoc s.receipts a.0 b.0),
      All-append (λ r. IsOfExchange r.event) a.0 b.0 a.2 b.2,
      (
        la ++ lb,
        subst (λ rs. AllZip IsHeldBy (la ++ lb) rs) (sym (filter-append holds_whole a.0 b.0))
            (zips_then IsHeldBy la (filter holds_whole a.0) lb (filter holds_whole b.0) a.3.1 b.3.1),
        b.3.2 ∙ ap (λ m. fold makers_after m lb) a.3.2 ∙ sym (fold-append makers_after first la lb),
      ),
    )

-- a push is none of what letters bring
push_idle : (r : ReceiptValue) → IsPushToHost r.event → IsIdle r
push_idle r is = (inr is, ap (λ e. takes_whole e r.reply) is.1.1 ∙ none is.1.0)
  where
    none : (demand : Demand) → takes_whole (event_to demand is.0) r.reply ≡ false
    none Rules = refl
    none Abort = refl

-- an exchange, and then pushes
pub exchanged_pushed : (s t u : SeatValue) (makers after : List Cursor) → Exchanged s t makers after → Adds IsPushToHost t u → Exchanged s u makers after
exchanged_pushed s t u makers after a h =
    exchanged_then s t u makers after after a (exchanged_idle t u after after (gains_weaker (λ r. IsPushToHost r.event) IsIdle t u push_idle h) refl)

-- an acknowledgement changes no maker's entry
pub acked_makers : (c : CursorsValue) (a : AckValue) → (cursors_after_ack c a).makers ≡ c.makers
acked_makers c a = of_test (a.maker == c.site && a.maker_epoch == c.epoch) _
  where
    of_test : (counts : Bool) (peers : List (Option Cursor)) → (cond counts (record c { peers = peers }) c).makers ≡ c.makers
    of_test true peers = refl
    of_test false peers = refl

-- a letter that isn't one raises its maker's
took_makers : (c : CursorsValue) (l : LetterValue) → is_acknowledgement l.body ≡ false → (cursors_after_letter c l).makers ≡ makers_after c.makers l
took_makers c l e = ap (λ (b : Bool). (cond b c (record c { makers = makers_after c.makers l })).makers) e

-- one receipt that holds whole what a letter brings
exchanged_held : (s t : SeatValue) (makers after : List Cursor) (l : LetterValue) (event : SiteEvent) → Brings l.body event → IsExchange event → GainsWhole s t event
    → after ≡ makers_after makers l → Exchanged s t makers after
exchanged_held s t makers after l event brings is g e = (
  g.0 ∷ [],
  g.1,
  All-cons (λ r. IsOfExchange r.event) g.0 [] (inl (subst IsExchange (sym g.2) is)) (All-nil (λ r. IsOfExchange r.event)),
  (l ∷ [], subst (λ rs. AllZip IsHeldBy (l ∷ []) rs) (sym (ap (λ b. cond b (g.0 ∷ []) []) g.3)) (subst (λ x. Brings l.body x) (sym g.2) brings, tt), e),
)

-- what a letter brings was taken whole, and it was counted
pub exchanged_brought : (s t : SeatValue) (c d : CursorsValue) (l : LetterValue) (at : ℕ) (event : SiteEvent) → IsBrought event → l.body ≡ body_of at event
    → GainsWhole s t event → d ≡ cursors_after_letter c l → Exchanged s t c.makers d.makers
exchanged_brought s t c d l at (Ops operations) is body g counted =
    exchanged_held s t c.makers d.makers l (Ops operations) (subst (λ b. Brings b (Ops operations)) (sym body) refl) tt g
    (ap (λ (x : CursorsValue). x.makers) counted ∙ took_makers c l (ap is_acknowledgement body))
exchanged_brought s t c d l at (Whole holding) is body g counted =
    exchanged_held s t c.makers d.makers l (Whole holding) (subst (λ b. Brings b (Whole holding)) (sym body) refl) tt g
    (ap (λ (x : CursorsValue). x.makers) counted ∙ took_makers c l (ap is_acknowledgement body))
exchanged_brought s t c d l at (Serve q) is body g counted = absurd is
exchanged_brought s t c d l at (Push name) is body g counted = absurd is
exchanged_brought s t c d l at (AskOwn from) is body g counted = absurd is
exchanged_brought s t c d l at AskWhole is body g counted = absurd is
exchanged_brought s t c d l at (Abort name) is body g counted = absurd is
exchanged_brought s t c d l at (Retell id) is body g counted = absurd is

-- it was not taken whole, and it was not counted
brought_exchange : (event : SiteEvent) → IsBrought event → IsExchange event
brought_exchange (Ops operations) is = tt
brought_exchange (Whole holding) is = tt
brought_exchange (Serve q) is = absurd is
brought_exchange (Push name) is = absurd is
brought_exchange (AskOwn from) is = absurd is
brought_exchange AskWhole is = absurd is
brought_exchange (Abort name) is = absurd is
brought_exchange (Retell id) is = absurd is

part_idle : (event : SiteEvent) → IsExchange event → (r : ReceiptValue) → (r.event ≡ event) × (holds_whole r ≡ false) → IsIdle r
part_idle event is r a = (inl (subst IsExchange (sym a.0) is), a.1)

pub part_gains : (s t : SeatValue) (event : SiteEvent) → IsBrought event → GainsPart s t event → Gains IsIdle s t
part_gains s t event is g =
    gains_weaker (λ r. (r.event ≡ event) × (holds_whole r ≡ false)) IsIdle s t (part_idle event (brought_exchange event is)) g

pub exchanged_part : (s t : SeatValue) (c d : CursorsValue) (event : SiteEvent) → IsBrought event → GainsPart s t event → d ≡ c → Exchanged s t c.makers d.makers
exchanged_part s t c d event is g e =
    exchanged_idle s t c.makers d.makers (part_gains s t event is g) (ap (λ (x : CursorsValue). x.makers) e)
