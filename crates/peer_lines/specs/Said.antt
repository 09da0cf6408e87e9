-- What a site said of the hosts that it reaches (this project's profile).
use Rattle.std.specs.Prelude.{ℕ, ◌-◌, nat_le, Bool, false, not, List}
use Rattle.std.specs.List.{list_any}
use Rattle.std.specs.BTreeMap.{is_at}
use Rattle.std.specs.BTreeSet.{insert_key}
use Rattle.std.specs.Set.{remove_key}
use Rattle.pcrf_values.specs.Orders.{text_cmp}
use Rattle.peer_lines.specs.declared.hosts.Moment.{Moment}
use Rattle.peer_lines.specs.declared.said.Said.{Said}
use Rattle.peer_lines.specs.declared.said.Said.TheVariants as said

-- it has no link since then, has one and said nothing over it yet, or said that it reaches these hosts, which ascend
pub data SaidValue : Type 0 where
  NoLink : ℕ → SaidValue
  Silent : SaidValue
  Reaches : List (List ℕ) → SaidValue

-- what was said, without where it lies in memory
abbrev pub said_value : Said → SaidValue
said_value (said.NoLink since) = NoLink since
said_value said.Silent = Silent
said_value (said.Reaches hosts) = Reaches hosts.keys

-- ---- what a site says

-- that it reaches these hosts, and no others: without a link it says nothing
abbrev pub with_all : List (List ℕ) → SaidValue → SaidValue
with_all hosts (NoLink since) = NoLink since
with_all hosts Silent = Reaches hosts
with_all hosts (Reaches before) = Reaches hosts

-- that it reaches one more: before it said all, that is nothing
abbrev pub with_host : List ℕ → SaidValue → SaidValue
with_host host (NoLink since) = NoLink since
with_host host Silent = Silent
with_host host (Reaches hosts) = Reaches (insert_key text_cmp hosts host)

-- that it reaches one less
abbrev pub without_host : List ℕ → SaidValue → SaidValue
without_host host (NoLink since) = NoLink since
without_host host Silent = Silent
without_host host (Reaches hosts) = Reaches (remove_key (is_at (text_cmp host)) hosts)

-- ---- what follows

-- the host is among these
abbrev pub is_among : List ℕ → List (List ℕ) → Bool
is_among host hosts = list_any (is_at (text_cmp host)) hosts

-- it said that it reaches the host
abbrev pub reaches : List ℕ → SaidValue → Bool
reaches host (NoLink since) = false
reaches host Silent = false
reaches host (Reaches hosts) = is_among host hosts

-- the host left it: it said that it doesn't reach the host, or has had no link for as long as is borne
abbrev pub is_left : Moment → List ℕ → SaidValue → Bool
is_left m host (NoLink since) = nat_le m.patience (m.now - since)
is_left m host Silent = false
is_left m host (Reaches hosts) = not (is_among host hosts)
