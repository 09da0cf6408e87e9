-- Who goes on waiting, and when that is enough.
use Rattle.std.proofs.Common.{◌≡◌, ℕ, Bool, ◌&&◌, ◌||◌, true, false, List, [], Option, Some, None, refl, ap, ◌∙◌, option_map, unwrap_or, is_some}
use Rattle.std.specs.Cmp.{first_so, second_so}
use Rattle.std.specs.Ordering.{is_eq}
use Rattle.std.specs.declared.net.ipv4_addr.Ipv4Addr.{Ipv4Addr}
use Rattle.pcrf_values.specs.Orders.{text_cmp}
use Rattle.pcrf_values.proofs.OrderLaws.{text_ranked, eq_is}
use Rattle.pcrf_values.proofs.Plain.{clash}
use Rattle.pcrf_values.specs.Places.{host}
use Rattle.pcrf_model.specs.Live.{is_live}
use Rattle.pcrf_model.specs.Pushing.{is_of_host, is_home}
use Rattle.pcrf_model.specs.Sessions.{Session, is_gx}
use Rattle.pcrf_model.specs.Tables.{Tables}
use Rattle.pcrf_model.specs.Views.{View, text}
use Rattle.pcrf_model.specs.Waiting.{MayWait}
use Rattle.pcrf_model.proofs.WaitingLaws.{all_enough}
use Rattle.bind_index.specs.Index.{IndexValue}
use Rattle.bind_index.specs.Lists.{first_of, ids_at}
use Rattle.rule_delta.specs.Waits.{WaitingValue, is_waiting, waiting_of, DueWait, Keeps, WaitsIfDue, EachWaits, ListedWait}

-- where nobody is listed, and not all wait, nobody waits under any host
pub nobody_waits : (w : WaitingValue) → w.all ≡ false → ((name : List ℕ) → ids_at text_cmp w.lists name ≡ []) → (name : List ℕ) → is_waiting w name ≡ false
nobody_waits w some none name =
    ap (λ (b : Bool). b || is_some (first_of (waiting_of w name))) some
    ∙ ap (λ (ids : List (List ℕ)). is_some (first_of ids)) (none name)

-- what waits keeps waiting
pub keeps_itself : (w : WaitingValue) → Keeps w w
keeps_itself w = record { some = λ a. a; stay = λ a. record { each = λ name id m. m } }

-- and goes on
pub keeps_through : (u v w : WaitingValue) → Keeps u v → Keeps v w → Keeps u w
keeps_through u v w g h = record {
  some = λ a. g.some (h.some a);
  stay = λ a. record { each = λ name id m. (h.stay a).each name id ((g.stay (h.some a)).each name id m) };
}

-- a session that waits goes on waiting
pub waits_on : (v : View) (u w : WaitingValue) (s : Session) → Keeps u w → WaitsIfDue v u s → WaitsIfDue v w s
waits_on v u w s g h = record { there = λ a name e. (g.stay a).each name s.id (h.there (g.some a) name e) }

-- so do those that are listed under an address
pub listed_on : (v : View) (i : IndexValue) (u w : WaitingValue) (at : Option Ipv4Addr) → Keeps u w → ListedWait v i u at → ListedWait v i w at
listed_on v i u w at g h = record { each = λ a s e k m. waits_on v u w s g (h.each a s e k m) }

-- the host of a session that is at it
its_host : (v : View) (name : List ℕ) (s : Session) → is_of_host v (Some name) s ≡ true → text v s host ≡ Some name
its_host v name s h = by (text v s host) h
  where
    by : (o : Option (List ℕ)) → unwrap_or (option_map (λ x. is_eq (text_cmp x name)) o) false ≡ true → o ≡ Some name
    by None g = clash false g refl
    by (Some x) g = ap Some (eq_is text_ranked x name g)

-- a session that waits under its host waits where it may be due
pub may_wait : (i : ℕ) (v : View) (w : WaitingValue) (s : Session) → w.all ≡ false → (is_gx s.kind ≡ true → WaitsIfDue v w s) → MayWait i v (waiting_of w) s
may_wait i v w s a h = record {
  there = λ name u.
      let front = first_so (is_gx s.kind && is_live v s && is_home i v s) _ u in
      let of_gateway : is_gx s.kind ≡ true = first_so _ _ (first_so _ _ front) in
      (h of_gateway).there a name (its_host v name s (second_so (is_gx s.kind && is_live v s && is_home i v s) _ u));
}

-- where each waits, all that are due do
pub each_enough : (t : Tables) (i : ℕ) (v : View) (w : WaitingValue) → EachWaits v w → DueWait t i v w
each_enough t i v w h = record { listed = λ a. all_enough t i v (waiting_of w) (λ s. may_wait i v w s a (h.each s)) }
