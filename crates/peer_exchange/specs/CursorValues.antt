-- Cursors and acknowledgements as the definitions have them.
use Rattle.std.specs.Prelude.{◌≡◌, ℕ, ◌<◌, ◌≤◌, List, length, Option}
use Rattle.pcrf_values.specs.Limits.{last_counter, site_limit}
use Rattle.pcrf_model.specs.Letters.{AckValue}
use Rattle.pcrf_model.specs.Cursors.{Cursor, CursorsValue}

-- so many operations of that epoch
abbrev pub cursor_at : ℕ → ℕ → Cursor
cursor_at epoch taken = record { epoch = epoch; cursor = taken }

-- what a site says in an epoch of its that it took of a maker
abbrev pub ack_saying : ℕ → ℕ → ℕ → Cursor → AckValue
ack_saying sender epoch maker x = record { sender = sender; sender_epoch = epoch; maker = maker; maker_epoch = x.epoch; cursor = x.cursor }

-- within the ranges that a letter has for it
pub record IsAck (a : AckValue) : Type 0 where
  pub sender : a.sender < site_limit
  pub began : 1 ≤ a.sender_epoch
  pub maker : a.maker < site_limit
  pub within : a.cursor ≤ last_counter

-- these tables of a site in an epoch
abbrev pub cursors_of : ℕ → ℕ → List Cursor → List (Option Cursor) → CursorsValue
cursors_of site epoch makers peers = record { site = site; epoch = epoch; makers = makers; peers = peers }

-- a site that there may be, in an epoch that began, with an entry for each site
pub record IsCursors (c : CursorsValue) : Type 0 where
  pub site : c.site < site_limit
  pub began : 1 ≤ c.epoch
  pub makers : length c.makers ≡ site_limit
  pub peers : length c.peers ≡ site_limit
