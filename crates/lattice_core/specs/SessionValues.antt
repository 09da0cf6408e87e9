-- The values of a session's fields, and the numbers of the fields.
use Rattle.std.specs.Prelude.{ℕ, Option, Some, None}
use Rattle.pcrf_values.specs.declared.tag.Tag.{Tag}
use Rattle.pcrf_values.specs.Values.{Value, Number, Text, Entry}
use Rattle.pcrf_values.specs.Values as values
use Rattle.lattice_core.specs.SessionFacts.{address_value}
use Rattle.lattice_core.specs.declared.fact.SessionValue.{SessionValue}
use Rattle.lattice_core.specs.declared.fact.SessionValue.TheVariants.{Address, Apn, Subscribers, Host, Realm, Last, Prefix}

-- the value
abbrev pub session_value : SessionValue ℕ → Value
session_value (Address a) = address_value a
session_value (Apn x) = Text x
session_value (Subscribers x) = values.Subscribers x
session_value (Host x) = Text x
session_value (Realm x) = Text x
session_value (Last x) = Number x
session_value (Prefix x) = values.Prefix x

-- the number of its field
abbrev pub session_number : SessionValue ℕ → ℕ
session_number (Address a) = 1
session_number (Apn x) = 2
session_number (Subscribers x) = 3
session_number (Host x) = 4
session_number (Realm x) = 5
session_number (Last x) = 6
session_number (Prefix x) = 7

-- with its tag
abbrev pub session_entry : Option (Tag × SessionValue ℕ) → Option Entry
session_entry None = None
session_entry (Some e) = Some (e.0, session_value e.1)

-- what a place shows, its value made a value of facts, with its tag
abbrev pub entry_by : {T : Type 0} → (T → Value) → Option (Tag × T) → Option Entry
entry_by make None = None
entry_by make (Some e) = Some (e.0, make e.1)
