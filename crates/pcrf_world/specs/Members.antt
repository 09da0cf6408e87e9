-- The sites of a world: each with its cursors; all have the world's operator tables, and the names that their numbers give.
use Rattle.std.specs.Prelude.{◌≡◌, ℕ, ◌+◌, ◌≤◌, length, List, [], ◌∷◌}
use Rattle.pcrf_values.specs.Limits.{site_limit}
use Rattle.pcrf_model.specs.Cursors.{start_cursors}
use Rattle.pcrf_model.specs.Tables.{Tables}
use Rattle.pcrf_model.specs.Worlds.{SiteView}
use Rattle.site_machine.specs.Sites.{SiteValue, new_site, emptied_site}
use Rattle.pcrf_world.specs.Identities.{identity_of}
use Rattle.pcrf_world.specs.declared.site.Member.{Member}

-- what is seen of a site
abbrev pub seen_of : Member → SiteView
seen_of m = record { number = m.site.number; epoch = m.cursors.epoch; state = m.site.state; cursors = m.cursors }

-- the site that is so seen in a world with these operator tables
abbrev pub site_seen : Tables → SiteView → SiteValue
site_seen t s = record { tables = t; identity = identity_of s.number; number = s.number; state = s.state }

-- It has these operator tables, and the names that its number gives; its cursors are its own.
pub record IsMember (t : Tables) (m : Member) : Type 0 where
  pub site : m.site ≡ site_seen t (seen_of m)
  pub cursors : m.cursors.site ≡ m.site.number

-- each is one
abbrev pub AreMembers : Tables → List Member → Type 0
AreMembers t [] = Unit {0}
AreMembers t (m ∷ ms) = IsMember t m × AreMembers t ms

-- and there are no more than there may be
pub record AreSites (t : Tables) (ms : List Member) : Type 0 where
  pub members : AreMembers t ms
  pub count : length ms ≤ site_limit

-- a site that took nothing, in its first epoch
abbrev pub new_member : Tables → ℕ → Member
new_member t number = record { cursors = start_cursors number 1; site = new_site t (identity_of number) number }

-- with this in place of its site
abbrev pub with_site : Member → SiteValue → Member
with_site m s = record { cursors = m.cursors; site = s }

-- empty, in the next epoch
abbrev pub started_again : Member → Member
started_again m = record { cursors = start_cursors m.site.number (m.cursors.epoch + 1); site = emptied_site m.site }
