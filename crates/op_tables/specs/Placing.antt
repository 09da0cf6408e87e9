-- A fault with its place: the steps to it, the outermost first.
use Rattle.std.specs.Prelude.{ℕ, Option, Some, None, option_map}
use Rattle.op_tables.specs.declared.place.TableKey.{TableKey}
use Rattle.op_tables.specs.declared.place.Step.{Step}
use Rattle.op_tables.specs.declared.fault.TableFault.{TableFault}
use Rattle.op_tables.specs.declared.fault.PlacedFault.{PlacedFault}

-- to what stands at a key, and to a row of the array that stands there, counted from 1
abbrev pub key_step : TableKey → Step
key_step key = record { key = key; row = None }

abbrev pub row_step : TableKey → ℕ → Step
row_step key number = record { key = key; row = Some number }

-- a fault of all that is looked at
abbrev pub unplaced : TableFault → PlacedFault
unplaced fault = record { fault = fault; place = record { outer = None; middle = None; inner = None } }

-- the fault, seen from one step further out; no place of operator tables is more than three steps away
abbrev pub within : Step → PlacedFault → PlacedFault
within step f = record { fault = f.fault; place = record { outer = Some step; middle = f.place.outer; inner = f.place.middle } }

abbrev pub fault_at : TableKey → TableFault → PlacedFault
fault_at key fault = within (key_step key) (unplaced fault)

-- the first fault of what stands within a step
abbrev pub fault_within : Step → Option PlacedFault → Option PlacedFault
fault_within step f = option_map (within step) f
