-- Sites that took the same operations hold the same.
use Rattle.std.proofs.Common.{◌≡◌, ℕ, slice_get, Some, option_map, sym, ap, ◌∙◌, subst}
use Rattle.std.proofs.lemmas.Option.{slice_get-map}
use Rattle.pcrf_values.proofs.Plain.{some_same}
use Rattle.pcrf_model.specs.Holdings.{Holding, kept_of}
use Rattle.pcrf_model.specs.SiteOverviews.{site_overview}
use Rattle.pcrf_model.specs.Worlds.{SiteView, SiteTook, WorldTook, site_view, world_view, HoldsTheSame}
use Rattle.pcrf_model.specs.Laws.{SameOperationsHoldTheSame}
use Rattle.pcrf_model.proofs.UnionLaws.{holding_of-Same}

-- what is seen at a place is what the site there took
seen_there : (w : WorldTook) (i : ℕ) (a : SiteTook) (x : SiteView) → slice_get w.sites i ≡ Some a → slice_get (world_view w).sites i ≡ Some x → site_view a ≡ x
seen_there w i a x at seen = some_same (site_view a) x (sym (slice_get-map site_view w.sites i ∙ ap (option_map site_view) at) ∙ seen)

-- any two of a world
pub hold_alike : SameOperationsHoldTheSame
hold_alike t w i j a b at_i at_j same x y seen_i seen_j =
    let held : (site_view a).state.holding ≡ (site_view b).state.holding = ap (λ (h : Holding). kept_of h) (holding_of-Same a.taken b.taken same) in
    let alike : HoldsTheSame t (site_view a) (site_view b) = (held, ap (λ (h : Holding). site_overview t h) held) in
    subst (λ (z : SiteView). HoldsTheSame t z y) (seen_there w i a x at_i seen_i)
    (subst (λ (z : SiteView). HoldsTheSame t (site_view a) z) (seen_there w j b y at_j seen_j) alike)
