-- Where one gateway's session binds as before, no binding changes and no list of rules, and no session has to be listed.
use Rattle.std.proofs.Common.{◌≡◌, ℕ, Bool, List, Option, None, inl, inr, sym, ap, ◌∙◌, refl, subst, option_map}
use Rattle.pcrf_values.specs.Facts.{Fact}
use Rattle.pcrf_values.specs.FlowWords.{value_at}
use Rattle.pcrf_values.specs.Live.{Shows}
use Rattle.pcrf_values.specs.Places.{Place, OfSession, OfComponent, OfFlow, OfRuleName, SessionField, FramedIpAddress, FramedIpv6Prefix, address, prefix, apn, subscribers}
use Rattle.pcrf_values.specs.Values.{Entry}
use Rattle.pcrf_model.specs.Bindings.{Party, Stamp, last_reached}
use Rattle.pcrf_model.specs.Holdings.{Holding, facts_on}
use Rattle.pcrf_model.specs.Laws.{DifferInOne, BindsAlike}
use Rattle.pcrf_model.specs.Sessions.{Session, gx}
use Rattle.pcrf_model.specs.Tables.{Tables}
use Rattle.pcrf_model.specs.Views.{view, value}
use Rattle.pcrf_model.proofs.NeighbourLaws.{which, said, all_keep}
use Rattle.pcrf_model.proofs.WaitingLaws.{one_enough}
use Rattle.bind_index.specs.Index.{IndexValue}
use Rattle.pcc_rules.specs.Cached.{RulesValue}
use Rattle.rule_delta.specs.Waits.{WaitingValue, waiting_of, DueWait, Keeps, WaitsIfDue}
use Rattle.rule_delta.proofs.Waited.{keeps_itself, may_wait}
use Rattle.rule_delta.proofs.Followed.{told_followed}
use Rattle.indexed_state.specs.Alike.{ShowAlike}
use Rattle.indexed_state.specs.Indexed.{Agree}

-- an address and a prefix show, and nothing else
both_shown : Option Entry → Option Entry → Shows
both_shown a p (OfSession FramedIpAddress) = a
both_shown a p (OfSession FramedIpv6Prefix) = p
both_shown a p other = None

-- a session whose records show alike binds as before
pub binds_alike : (h k : Holding) (id : List ℕ) (before after : List Fact) → before ≡ facts_on h.facts (gx id) → after ≡ facts_on k.facts (gx id) → ShowAlike before after
    → BindsAlike (view h.facts) (view k.facts) (gx id)
unfolding view both_shown
binds_alike h k id before after was is both =
    let alike = subst (λ (xs : List Fact). ShowAlike xs (facts_on k.facts (gx id))) was (subst (ShowAlike before) is both) in
    record {
      of_gateway = refl;
      reads = λ i. record {
        live = alike.lives i;
        address = option_map (λ (e : Entry). e.1) (alike.at_address i);
        prefix = option_map (λ (e : Entry). e.1) (alike.at_prefix i);
        subscribers = alike.of_subscribers i;
        apn = alike.at_apn i;
      };
      stands = λ i. option_map (λ (t : Stamp). (t.0, (t.1, id))) (last_reached (both_shown (alike.at_address i) (alike.at_prefix i)));
    }

module _ (h k : Holding) (id : List ℕ) (differs : DifferInOne h.facts k.facts (gx id)) (alike : BindsAlike (view h.facts) (view k.facts) (gx id)) where
  -- each session shows what it showed at a place where this one does
  same_value : (s : Session) (p : Place) → value (view h.facts) (gx id) p ≡ value (view k.facts) (gx id) p → value (view h.facts) s p ≡ value (view k.facts) s p
  same_value s p here = elim (which (gx id) s) [
    | inl e ↦ subst (λ (r : Session). value (view h.facts) r p ≡ value (view k.facts) r p) (sym e) here
    | inr n ↦ ap (option_map (λ (e : Entry). e.1)) ((said h.facts k.facts (gx id) s differs n).shows p)
  ]

  -- so the parts agree, where all that are due wait
  pub agree_due : (t : Tables) (i : ℕ) (b : Bool) (index : IndexValue) (r : RulesValue) (u w x : WaitingValue) → DueWait t i (view k.facts) w
      → Agree t i h b index r u x → Agree t i k b index r w x
  agree_due t i b index r u w x due a = record {
    covers = λ e. record {
      addresses = λ s x f. (a.covers e).addresses s x (same_value s address (ap (λ (p : Party). p.address) alike.reads) ∙ f);
      prefixes = λ s p f. (a.covers e).prefixes s p (same_value s prefix (ap (λ (q : Party). q.prefix) alike.reads) ∙ f);
      subscribed = λ other xs x f m. (a.covers e).subscribed other xs x (same_value (gx other) subscribers (ap (λ (p : Party). p.subscribers) alike.reads) ∙ f) m;
    };
    kept = record {
      each = λ other rs f. a.kept.each other rs f ∙ all_keep t h.facts k.facts (gx id) (gx other) differs alike;
      apart = a.kept.apart;
    };
    due = due;
    abandoned = told_followed i h.facts k.facts (gx id) x x differs (keeps_itself x) a.abandoned alike;
  }

  -- as they do where the session waits
  pub agree_alike : (t : Tables) (i : ℕ) (b : Bool) (index : IndexValue) (r : RulesValue) (u w x : WaitingValue) → Keeps u w → WaitsIfDue (view k.facts) w (gx id)
      → Agree t i h b index r u x → Agree t i k b index r w x
  agree_alike t i b index r u w x keeps waits a = agree_due t i b index r u w x (record {
    listed = λ all. one_enough t i h.facts k.facts (gx id) (waiting_of u) (waiting_of w) differs
        (a.due.listed (keeps.some all)) (keeps.stay all) (may_wait i (view k.facts) w (gx id) all (λ _. waits)) alike;
  }) a
