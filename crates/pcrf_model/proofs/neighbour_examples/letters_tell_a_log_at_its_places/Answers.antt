use Rattle.std.proofs.Common.{◌≡◌, ◌≤◌, ℕ, ◌+◌, zero, suc, Some, inl, refl, sym, ◌∙◌, subst, slice_get, arith}
use Rattle.std.specs.Fmt.{digits}
use Rattle.pcrf_values.proofs.Plain.{none_some, some_same}
use Rattle.pcrf_values.specs.Sets.{In}
use Rattle.pcrf_model.specs.Views.{view}
use Rattle.pcrf_model.specs.Bindings.{bind}
use Rattle.pcrf_model.specs.Rules.{rules}
use Rattle.pcrf_model.specs.Differences.{told_rules_of}
use Rattle.pcrf_model.specs.Refusals.{ccr_refusal, aar_refusal, str_refusal}
use Rattle.pcrf_model.specs.Serving.{provision_outcome, serve_ccr, serve_aar, serve_str}
use Rattle.pcrf_model.specs.Operations.{Operation}
use Rattle.pcrf_model.specs.Letters.{Range}
use Rattle.pcrf_model.specs.Worlds.{SiteTook, SentLetter, epoch_of}
use Rattle.pcrf_model.specs.CursorLaws.{IsSound, BodyFits, Fits, AllSound}
use Rattle.pcrf_model.specs.Neighbours.{written_from}
use Rattle.pcrf_model.specs.Scenes.{one}
use Rattle.pcrf_model.proofs.CursorSteps.{start_backed, start_peer}
use Rattle.pcrf_model.proofs.neighbour_examples.letters_tell_a_log_at_its_places.Goals as goal

pub returns : goal.returns
unfolding digits view bind rules told_rules_of ccr_refusal aar_refusal str_refusal provision_outcome serve_ccr serve_aar serve_str
returns c = record { sound = record { sites = sites; letters = letters }; further = further }
  where
    own : (k : ℕ) (o : Operation) → slice_get one.log k ≡ Some o → In o one.log
    own zero o h = inl (sym (some_same _ o h))
    own (suc k) o h = none_some o h

    sites : (i : ℕ) (s : SiteTook) → slice_get (written_from 0).sites i ≡ Some s → IsSound (written_from 0) i s
    sites zero s h = subst (IsSound (written_from 0) 0) (some_same _ s h) (record {
      number = refl;
      site = refl;
      epoch = refl;
      own = own;
      makers = λ m. start_backed (written_from 0) 0 1 m one.log;
      peers = λ j x e. none_some x (sym (start_peer 0 1 j) ∙ e);
    })
    sites (suc i) s h = none_some s h

    there : (k : ℕ) (o : Operation) → slice_get one.log k ≡ Some o → slice_get one.log (0 + k) ≡ Some o
    there zero o h = h
    there (suc k) o h = none_some o h

    letters : (k : ℕ) (l : SentLetter) → slice_get (written_from 0).letters k ≡ Some l → Fits (written_from 0) l
    letters zero l h = subst (Fits (written_from 0)) (some_same _ l h) (λ a at. subst (λ (z : SiteTook). (1 ≤ epoch_of z) × BodyFits z 1 one.log (Range 0 one.log)) (some_same _ a at) (omega arith, there))
    letters (suc k) l h = none_some l h

    further : AllSound (written_from 1) → ⊥
    further w = none_some _ ((w.letters 0 _ refl _ refl).1 0 _ refl)
