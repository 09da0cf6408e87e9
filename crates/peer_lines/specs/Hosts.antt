-- What all sites said, by their numbers, and which sessions a site takes over by that.
use Rattle.std.specs.Prelude.{ℕ, zero, suc, ◌==◌, Bool, false, not, ◌&&◌, List, [], ◌∷◌, replicate, slice_get}
use Rattle.std.proofs.Common.{option_map, unwrap_or}
use Rattle.pcrf_values.specs.Limits.{site_limit}
use Rattle.peer_lines.specs.Said.{SaidValue, NoLink, reaches, is_left}
use Rattle.peer_lines.specs.declared.hosts.Moment.{Moment}

-- the number of the site that knows it, and what each site said
pub record HostsValue : Type 0 where
  pub own : ℕ
  pub said : List SaidValue

-- when the site starts: no site has a link
abbrev pub hosts_at_first : ℕ → ℕ → HostsValue
hosts_at_first own now = record { own = own; said = replicate site_limit (NoLink now) }

-- the list with what becomes of the one at that place, if there is one
abbrev pub changed_at : {A : Type 0} → ℕ → (A → A) → List A → List A
changed_at n f [] = []
changed_at zero f (x ∷ xs) = f x ∷ xs
changed_at (suc n) f (x ∷ xs) = x ∷ changed_at n f xs

-- what the site of that number said is now what becomes of it
abbrev pub with_said : HostsValue → ℕ → (SaidValue → SaidValue) → HostsValue
with_said h site f = record h { said = changed_at site f h.said }

-- the site of that number is so
abbrev pub is_said : List SaidValue → ℕ → (SaidValue → Bool) → Bool
is_said said site test = unwrap_or (option_map test (slice_get said site)) false

-- The site takes over the sessions of a host that have this home: another site is home, the site reaches the host, and the host left its home.
abbrev pub goes_over : HostsValue → Moment → List ℕ → ℕ → Bool
goes_over h m host home = not (home == h.own) && is_said h.said h.own (reaches host) && is_said h.said home (is_left m host)
