-- The parts of an indexed state agree after a session was forgotten that has ended.
use Rattle.std.proofs.Common.{◌≡◌, ℕ, Bool, true, List, Some, sym, ap, ◌∙◌, option_map}
use Rattle.pcrf_values.specs.RuleValues.{RuleValue}
use Rattle.pcrf_values.specs.Places.{Place}
use Rattle.pcrf_values.specs.Values.{Entry}
use Rattle.pcrf_model.specs.Holdings.{Holding}
use Rattle.pcrf_model.specs.Sessions.{Session, gx}
use Rattle.pcrf_model.specs.Tables.{Tables}
use Rattle.pcrf_model.specs.Views.{view, value}
use Rattle.ended_sessions.specs.Forgotten.{forgotten, has_ended}
use Rattle.ended_sessions.specs.Laws.{LivesAlike}
use Rattle.ended_sessions.proofs.Alike.{leaves_the_live}
use Rattle.bind_index.specs.Index.{IndexValue}
use Rattle.pcc_rules.specs.Cached.{RulesValue, AreStale, cached_at}
use Rattle.rule_delta.specs.Waits.{WaitingValue}
use Rattle.indexed_state.specs.Indexed.{Agree}
use Rattle.indexed_state.proofs.Agreeing.{all_wait, all_calls_wait}
use Rattle.indexed_state.proofs.Near.{others_same}

-- where of two views all reads alike but who has ended, what agrees with the one agrees with the other, whichever lists of rules are stale
agree_alike : (t : Tables) (i : ℕ) (h k : Holding) (b : Bool) (index : IndexValue) (r q : RulesValue) (w x : WaitingValue)
    → LivesAlike (view k.facts) (view h.facts) → ((id : List ℕ) (rs : List RuleValue) → cached_at q id ≡ Some rs → cached_at r id ≡ Some rs)
    → Agree t i h b index r w x → Agree t i k b index q w x
agree_alike t i h k b index r q w x alike fewer a = record {
  covers = λ e. (let c = a.covers e in record {
    addresses = λ s z g. c.addresses s z (sym (shows s _) ∙ g);
    prefixes = λ s p g. c.prefixes s p (sym (shows s _) ∙ g);
    subscribed = λ id xs z g i. c.subscribed id xs z (sym (shows (gx id) _) ∙ g) i;
  });
  kept = record {
    each = λ id rs g. a.kept.each id rs (fewer id rs g) ∙ sym (alike.lists t (gx id));
    apart = λ id rs g. a.kept.apart id rs (fewer id rs g);
  };
  due = record { listed = λ e. record { each = λ name s d. (a.due.listed e).each name s (sym (alike.due t i (Some name) s) ∙ d) } };
  abandoned = record { listed = λ e. record { each = λ name s d. (a.abandoned.listed e).each name s (sym (alike.abandoned i (Some name) s) ∙ d) } };
}
  where
    shows : (s : Session) (p : Place) → value (view k.facts) s p ≡ value (view h.facts) s p
    shows s p = ap (option_map (λ (e : Entry). e.1)) (alike.places s p)

-- so it is where one that has ended is forgotten, and the rules of one are stale
pub agree_gateway_forgotten : (t : Tables) (i : ℕ) (h : Holding) (s : Session) (ids : List (List ℕ)) (b : Bool) (index : IndexValue) (r q : RulesValue) (w x : WaitingValue)
    → has_ended h s ≡ true → AreStale r q ids → Agree t i h b index r w x → Agree t i (forgotten h s) b index q w x
agree_gateway_forgotten t i h s ids b index r q w x ended stale a =
    agree_alike t i h (forgotten h s) b index r q w x (leaves_the_live h s ended) (others_same r q ids stale) a

pub agree_call_forgotten : (t : Tables) (i : ℕ) (h : Holding) (s : Session) (b : Bool) (index : IndexValue) (r : RulesValue) (w x : WaitingValue)
    → has_ended h s ≡ true → Agree t i h b index r w x → Agree t i (forgotten h s) b index r w x
agree_call_forgotten t i h s b index r w x ended a =
    agree_alike t i h (forgotten h s) b index r r w x (leaves_the_live h s ended) (λ id rs g. g) a

-- where all wait, whoever waited before
pub agree_waiting_anew : (t : Tables) (i : ℕ) (h : Holding) (b : Bool) (index : IndexValue) (r : RulesValue) (w x v y : WaitingValue)
    → v.all ≡ true → y.all ≡ true → Agree t i h b index r w x → Agree t i h b index r v y
agree_waiting_anew t i h b index r w x v y all calls a = record {
  covers = a.covers;
  kept = a.kept;
  due = all_wait t i (view h.facts) v all;
  abandoned = all_calls_wait i (view h.facts) y calls;
}
