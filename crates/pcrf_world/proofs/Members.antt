-- The sites of a world stay its own: each has the world's operator tables and the names that its number gives.
use Rattle.std.proofs.Common.{◌≡◌, ◌<◌, ◌≤◌, ℕ, zero, suc, length, inl, inr, arith, List, [], ◌∷◌, ◌++◌, map, slice_get, slice_set, Option, Some, None, option_map, refl, sym, ap, ◌∙◌, subst}
use Rattle.std.proofs.lemmas.List.{length-map, length-set, map-set}
use Rattle.std.proofs.lemmas.Option.{slice_get-map, slice_get_cases}
use Rattle.pcrf_values.proofs.Plain.{none_some, some_same}
use Rattle.pcrf_model.specs.Letters.{LetterValue}
use Rattle.pcrf_model.specs.Holdings.{Holding}
use Rattle.pcrf_model.specs.Operations.{Operation}
use Rattle.pcrf_model.specs.Tables.{Tables}
use Rattle.pcrf_model.specs.Worlds.{SiteView, WorldView}
use Rattle.site_machine.specs.Sites.{SiteValue, emptied_site, with_made, with_state}
use Rattle.pcrf_world.specs.Identities.{identity_of}
use Rattle.pcrf_values.specs.Limits.{site_limit}
use Rattle.pcrf_world.specs.Members.{AreMembers, AreSites, IsMember, new_member, seen_of, site_seen, started_again, with_site}
use Rattle.pcrf_world.specs.declared.site.Member.{Member}

-- ---- each is one of the world's

-- the one at a place
pub members_at : (t : Tables) (ms : List Member) (i : ℕ) (m : Member) → AreMembers t ms → slice_get ms i ≡ Some m → IsMember t m
members_at t [] i m are at = none_some m at
members_at t (n ∷ ms) zero m are at = subst (IsMember t) (some_same n m at) are.0
members_at t (n ∷ ms) (suc i) m are at = members_at t ms i m are.1 at

-- with another at a place
pub members_set : (t : Tables) (ms : List Member) (i : ℕ) (m : Member) → AreMembers t ms → IsMember t m → AreMembers t (slice_set ms i m)
members_set t [] i m are is = tt
members_set t (n ∷ ms) zero m are is = (is, are.1)
members_set t (n ∷ ms) (suc i) m are is = (are.0, members_set t ms i m are.1 is)

-- so they are sites of a world
pub sites_set : (t : Tables) (ms : List Member) (i : ℕ) (m : Member) → AreSites t ms → IsMember t m → AreSites t (slice_set ms i m)
sites_set t ms i m are is = record { members = members_set t ms i m are.members is; count = subst (λ (n : ℕ). n ≤ site_limit) (sym (length-set ms i m)) are.count }

-- the one that stands there put back changes nothing
pub set_back : (ms : List Member) (i : ℕ) (m : Member) → slice_get ms i ≡ Some m → slice_set ms i m ≡ ms
set_back [] i m at = refl
set_back (n ∷ ms) zero m at = ap (λ (x : Member). x ∷ ms) (sym (some_same n m at))
set_back (n ∷ ms) (suc i) m at = ap (λ (l : List Member). n ∷ l) (set_back ms i m at)

-- with one more
pub members_push : (t : Tables) (ms : List Member) (m : Member) → AreMembers t ms → IsMember t m → AreMembers t (ms ++ m ∷ [])
members_push t [] m are is = (is, tt)
members_push t (n ∷ ms) m are is = (are.0, members_push t ms m are.1 is)

-- a new one is one
pub new_is : (t : Tables) (n : ℕ) → IsMember t (new_member t n)
new_is t n = record { site = refl; cursors = refl }

-- ---- what happens to one

module _ (t : Tables) (m : Member) (is : IsMember t m) where
  -- its tables, names and number stay
  keeps : (s : SiteValue) → s.tables ≡ m.site.tables → s.identity ≡ m.site.identity → s.number ≡ m.site.number → IsMember t (with_site m s)
  keeps s tables names number =
      let own : m.site.tables ≡ t = ap (λ (x : SiteValue). x.tables) is.site in
      let named : m.site.identity ≡ identity_of m.site.number = ap (λ (x : SiteValue). x.identity) is.site in
      record {
        site = λ k. record { tables = (tables ∙ own) k; identity = (names ∙ named ∙ ap identity_of (sym number)) k; number = s.number; state = s.state };
        cursors = is.cursors ∙ sym number;
      }

  -- it adds an operation of its own, if it makes one
  pub made_member : (o : Option Operation) → IsMember t (with_site m (with_made m.site o))
  made_member None = is
  made_member (Some o) = keeps (with_made m.site (Some o)) refl refl refl

  -- it takes what a letter brings, which its cursors count
  pub taken_member : (h : Holding) (n : Member) → n.site ≡ with_state m.site h → n.cursors.site ≡ m.cursors.site → IsMember t n
  taken_member h n site same =
      let taken = keeps (with_state m.site h) refl refl refl in
      record {
        site = site ∙ taken.site ∙ sym (ap (λ (x : SiteValue). record { tables = t; identity = identity_of x.number; number = x.number; state = x.state }) site);
        cursors = same ∙ taken.cursors ∙ ap (λ (x : SiteValue). x.number) (sym site);
      }

  -- it starts again
  pub again_member : IsMember t (started_again m)
  again_member = record { site = (keeps (emptied_site m.site) refl refl refl).site; cursors = refl }

-- ---- what is seen of them

-- the sites and letters of a world, as they are seen
abbrev pub world_of : List Member → List LetterValue → WorldView
world_of ms ls = record { sites = map seen_of ms; letters = ls }

-- the world as it is seen, with another site at a place
abbrev pub with_seen : WorldView → ℕ → SiteView → WorldView
with_seen v i s = record v { sites = slice_set v.sites i s }

-- what stands at a place is seen there
pub seen_at : (ms : List Member) (i : ℕ) (m : Member) → slice_get ms i ≡ Some m → slice_get (map seen_of ms) i ≡ Some (seen_of m)
seen_at ms i m at = slice_get-map seen_of ms i ∙ ap (option_map seen_of) at

-- another there is seen too
pub seen_set : (ms : List Member) (ls : List LetterValue) (i : ℕ) (n : Member) (x : SiteView) → seen_of n ≡ x → world_of (slice_set ms i n) ls ≡ with_seen (world_of ms ls) i x
seen_set ms ls i n x is =
    let same : map seen_of (slice_set ms i n) ≡ slice_set (map seen_of ms) i x = map-set seen_of ms i n ∙ ap (slice_set (map seen_of ms) i) is in
    λ k. record { sites = same k; letters = ls }

-- as many are seen as before
pub as_many : (ms : List Member) (i : ℕ) (n : Member) (vs : List SiteView) → map seen_of ms ≡ vs → length (map seen_of (slice_set ms i n)) ≡ length vs
as_many ms i n vs is = length-map (slice_set ms i n) seen_of ∙ length-set ms i n ∙ sym (length-map ms seen_of) ∙ ap length is

-- where there is room for a place, one stands there
pub stands_within : (ms : List Member) (i : ℕ) → i < length ms → (m : Member) × (slice_get ms i ≡ Some m)
stands_within ms i low = elim (slice_get_cases ms i).1 [
  | inl h ↦ (h.0, h.2)
  | inr h ↦ (let past : length ms ≤ i = h.0 in absurd (omega (arith, low, past)))
]

-- the site at a place, by what is seen there
pub site_at : (t : Tables) (ms : List Member) (i : ℕ) (m : Member) → AreMembers t ms → slice_get ms i ≡ Some m → Some m.site ≡ option_map (site_seen t) (slice_get (map seen_of ms) i)
site_at t ms i m are at = ap Some (members_at t ms i m are at).site ∙ sym (ap (option_map (site_seen t)) (seen_at ms i m at))

-- where none stands at a place, none is seen there
pub no_site_at : (t : Tables) (ms : List Member) (i : ℕ) → slice_get ms i ≡ None → None ≡ option_map (site_seen t) (slice_get (map seen_of ms) i)
no_site_at t ms i none = sym (ap (option_map (site_seen t)) (slice_get-map seen_of ms i ∙ ap (option_map seen_of) none))

-- the cursors of the site at a place are seen there
pub cursors_at : (ms : List Member) (i : ℕ) (m : Member) → slice_get ms i ≡ Some m → Some m.cursors ≡ option_map (λ (s : SiteView). s.cursors) (slice_get (map seen_of ms) i)
cursors_at ms i m at = sym (ap (option_map (λ (s : SiteView). s.cursors)) (seen_at ms i m at))

-- and none where none stands
pub no_cursors_at : (ms : List Member) (i : ℕ) → slice_get ms i ≡ None → None ≡ option_map (λ (s : SiteView). s.cursors) (slice_get (map seen_of ms) i)
no_cursors_at ms i none = sym (ap (option_map (λ (s : SiteView). s.cursors)) (slice_get-map seen_of ms i ∙ ap (option_map seen_of) none))
