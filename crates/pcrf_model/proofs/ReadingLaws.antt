-- What is read of a view, and what a site does, is the same on the kept facts.
use Rattle.std.proofs.Common.{◌≡◌, ℕ, Bool, false, List, [], Option, refl, ap}
use Rattle.pcrf_values.specs.Sets.{Same}
use Rattle.pcrf_values.specs.declared.numbers.RequestKind.{RequestKind}
use Rattle.pcrf_values.specs.declared.numbers.RequestKind.TheVariants.{Initial, Update, Termination}
use Rattle.pcrf_values.specs.Places.{Place}
use Rattle.pcrf_values.specs.Values.{Entry}
use Rattle.pcrf_model.specs.Holdings.{SessionFact, kept_facts, under, Holding, kept_of}
use Rattle.pcrf_model.specs.Sessions.{Session, gx, af}
use Rattle.pcrf_model.specs.Views.{View, Shown, view}
use Rattle.pcrf_model.specs.Live.{is_live, is_partial, home}
use Rattle.pcrf_model.specs.Bindings.{matches, bind}
use Rattle.pcrf_model.specs.Tables.{Tables}
use Rattle.pcrf_model.specs.Rules.{rules}
use Rattle.pcrf_model.specs.Differences.{told_rules_of, difference}
use Rattle.pcrf_model.specs.SiteOverviews.{site_overview, value_seen}
use Rattle.pcrf_model.specs.Requests.{CcrValue, AarValue, StrValue, RequestValue, Ccr, Aar, Str, Base}
use Rattle.pcrf_model.specs.Making.{ccr_fields, aar_facts, next_tag}
use Rattle.pcrf_model.specs.Refusals.{ccr_refusal, aar_refusal, str_refusal}
use Rattle.pcrf_model.specs.Serving.{accepted_ccr, serve, serve_ccr, serve_aar, serve_str, provision_outcome}
use Rattle.pcrf_model.specs.Pushing.{push, lacks_counter}
use Rattle.pcrf_model.specs.Aborting.{abort, lacks_counter_to_abort}
use Rattle.pcrf_model.specs.Retelling.{retell, lacks_counter_to_retell}
use Rattle.pcrf_model.specs.Laws.{ReadsAlike, ReadsTheSame}
use Rattle.pcrf_model.proofs.ViewLaws.{view-Same, view-kept}
use Rattle.pcrf_model.proofs.UnionLaws.{view_sorted, view_with}

-- what is read of a view but what is removed and who was aborted
abbrev seen_by : (Session → Place → Option Entry) → (Session → Bool) → List Shown → List Session → View
seen_by shows ended all sessions = record {
  shows = shows;
  ended = ended;
  removals = λ s. [];
  aborted = λ s. false;
  all = all;
  sessions = sessions;
}

-- where these are the same, views read alike
module _ (v w : View) (shows : v.shows ≡ w.shows) (ended : v.ended ≡ w.ended) (all : v.all ≡ w.all)
    (sessions : v.sessions ≡ w.sessions) where
  -- so does whatever is read of them
  alike_in : {A : Type 0} (read : View → A)
      → read (seen_by v.shows v.ended v.all v.sessions) ≡ read (seen_by w.shows w.ended w.all w.sessions)
  alike_in read = λ i. read (seen_by (shows i) (ended i) (all i) (sessions i))

  pub reads_alike : ReadsAlike v w
  unfolding bind rules told_rules_of
  reads_alike = record {
    places = λ s p i. shows i s p;
    ends = λ s i. ended i s;
    lives = λ s. alike_in (λ (z : View). is_live z s);
    partials = λ s. alike_in (λ (z : View). is_partial z s);
    homes = λ s. alike_in (λ (z : View). home z s);
    candidates = λ a s. alike_in (λ (z : View). matches z a s);
    bindings = λ a. alike_in (λ (z : View). bind z a);
    lists = λ t s. alike_in (λ (z : View). rules t z s);
    entries = λ s. alike_in (λ (z : View). told_rules_of z s);
    differences = λ t s. alike_in (λ (z : View). difference (told_rules_of z s) (rules t z s));
  }

-- equal views read the same
reads : (v w : View) → v ≡ w → ReadsTheSame v w
reads v w e = record {
  alike = reads_alike v w (ap (λ (z : View). z.shows) e) (ap (λ (z : View). z.ended) e)
      (ap (λ (z : View). z.all) e) (ap (λ (z : View). z.sessions) e);
  removals = λ s. ap (λ (z : View). z.removals s) e;
  aborts = λ s. ap (λ (z : View). z.aborted s) e;
}

-- the kept facts
pub reads-kept : (facts : List SessionFact) → ReadsTheSame (view (kept_facts facts)) (view facts)
reads-kept facts = reads _ _ (view-kept facts)

-- facts with the same members
pub reads-Same : (xs ys : List SessionFact) → Same xs ys → ReadsTheSame (view xs) (view ys)
reads-Same xs ys s = reads _ _ (view-Same xs ys s)

-- an operator sees the same
pub site_overview-kept_of : (t : Tables) (h : Holding) → site_overview t (kept_of h) ≡ site_overview t h
unfolding site_overview
site_overview-kept_of t h = ap (λ (v : View). value_seen t h.clock v) (view_sorted h.facts)

-- ---- requests

-- what a request makes of a holding, as a function of the views with and without its facts
provisioned-kept_of : (most : ℕ) (t : Tables) (i : ℕ) (h : Holding) (q : CcrValue) → provision_outcome most t i (kept_of h) q ≡ provision_outcome most t i h q
unfolding provision_outcome
provisioned-kept_of most t i h q = rw (view_with h.facts (under (gx q.session) (ccr_fields q (next_tag i h q.number)))) refl

-- the same credit control requests are refused
ccr_refusal-kept_of : (t : Tables) (h : Holding) (q : CcrValue) → ccr_refusal t (kept_of h) q ≡ ccr_refusal t h q
unfolding ccr_refusal
ccr_refusal-kept_of t h q = rw (view_sorted h.facts) refl

-- the same AA requests are refused
aar_refusal-kept_of : (t : Tables) (i : ℕ) (h : Holding) (q : AarValue) → aar_refusal t i (kept_of h) q ≡ aar_refusal t i h q
unfolding aar_refusal
aar_refusal-kept_of t i h q = rw (view_with h.facts (under (af q.session) (aar_facts q (next_tag i h 0))), view_sorted h.facts) refl

-- the same session termination requests are refused
str_refusal-kept_of : (h : Holding) (q : StrValue) → str_refusal (kept_of h) q ≡ str_refusal h q
unfolding str_refusal
str_refusal-kept_of h q = rw (view_sorted h.facts) refl

-- an accepted request makes the same
accepted-kept_of : (most : ℕ) (t : Tables) (i : ℕ) (h : Holding) (q : CcrValue) (k : RequestKind) → accepted_ccr most t i (kept_of h) q k ≡ accepted_ccr most t i h q k
accepted-kept_of most t i h q Initial = provisioned-kept_of most t i h q
accepted-kept_of most t i h q Update = provisioned-kept_of most t i h q
accepted-kept_of most t i h q Termination = refl

-- a credit control request is served the same
serve_ccr-kept_of : (most : ℕ) (t : Tables) (i : ℕ) (h : Holding) (q : CcrValue) → serve_ccr most t i (kept_of h) q ≡ serve_ccr most t i h q
unfolding serve_ccr
serve_ccr-kept_of most t i h q = rw (ccr_refusal-kept_of t h q, accepted-kept_of most t i h q q.kind) refl

-- an AA request is served the same
serve_aar-kept_of : (t : Tables) (i : ℕ) (h : Holding) (q : AarValue) → serve_aar t i (kept_of h) q ≡ serve_aar t i h q
unfolding serve_aar
serve_aar-kept_of t i h q = rw (aar_refusal-kept_of t i h q) refl

-- a session termination request is served the same
serve_str-kept_of : (i : ℕ) (h : Holding) (q : StrValue) → serve_str i (kept_of h) q ≡ serve_str i h q
unfolding serve_str
serve_str-kept_of i h q = rw (str_refusal-kept_of h q) refl

-- any request is served the same
pub serve-kept_of : (most : ℕ) (t : Tables) (i : ℕ) (h : Holding) (q : RequestValue) → serve most t i (kept_of h) q ≡ serve most t i h q
serve-kept_of most t i h (Ccr q) = serve_ccr-kept_of most t i h q
serve-kept_of most t i h (Aar q) = serve_aar-kept_of t i h q
serve-kept_of most t i h (Str q) = serve_str-kept_of i h q
serve-kept_of most t i h (Base q) = refl

-- the same is pushed
pub push-kept_of : (most : ℕ) (t : Tables) (i : ℕ) (h : Holding) (name : Option (List ℕ)) → push most t i (kept_of h) name ≡ push most t i h name
unfolding push
push-kept_of most t i h name = rw (view_sorted h.facts) refl

-- a counter is lacking just then
pub lacks_counter-kept_of : (t : Tables) (i : ℕ) (h : Holding) (name : Option (List ℕ)) → lacks_counter t i (kept_of h) name ≡ lacks_counter t i h name
unfolding lacks_counter
lacks_counter-kept_of t i h name = rw (view_sorted h.facts) refl

-- the same is aborted
pub abort-kept_of : (i : ℕ) (h : Holding) (name : Option (List ℕ))
    → abort i (kept_of h) name ≡ abort i h name
unfolding abort
abort-kept_of i h name = rw (view_sorted h.facts) refl

-- and a counter is lacking for it just then
pub lacks_counter_to_abort-kept_of : (i : ℕ) (h : Holding) (name : Option (List ℕ))
    → lacks_counter_to_abort i (kept_of h) name ≡ lacks_counter_to_abort i h name
unfolding lacks_counter_to_abort
lacks_counter_to_abort-kept_of i h name = rw (view_sorted h.facts) refl

-- the same is retold
pub retell-kept_of : (i : ℕ) (h : Holding) (id : List ℕ) → retell i (kept_of h) id ≡ retell i h id
unfolding retell
retell-kept_of i h id = rw (view_sorted h.facts) refl

-- and a counter is lacking for it just then
pub lacks_counter_to_retell-kept_of : (h : Holding) (id : List ℕ)
    → lacks_counter_to_retell (kept_of h) id ≡ lacks_counter_to_retell h id
unfolding lacks_counter_to_retell
lacks_counter_to_retell-kept_of h id = rw (view_sorted h.facts) refl
