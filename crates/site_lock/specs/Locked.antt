-- What is known of a locked site without its lock.
use Rattle.std.specs.Prelude.{ℕ}
use Rattle.dia_base.specs.declared.identity.Identity.{Identity}
use Rattle.site_machine.specs.Sites.{SiteValue}

-- the names that the site answers under, the edition of its operator tables, and its number, none of which ever changes
pub record LockedValue : Type 0 where
  pub identity : Identity
  pub edition : ℕ
  pub number : ℕ

-- those of a site
abbrev pub beside : SiteValue → LockedValue
beside s = record { identity = s.identity; edition = s.tables.edition; number = s.number }
