-- What a call returned that reads notices.
use Rattle.std.specs.Prelude.{◌≡◌, Option, Some, None, Result, Ok, Err}
use Rattle.peer_lines.specs.declared.heads.HeadFault.{HeadFault}
use Rattle.peer_lines.specs.declared.heads.HeadFault.TheVariants as faults

-- a call may fail so: for want of memory in place of anything, and for nothing but that and what is no notice
abbrev pub Fails : {Y : Type 0} → HeadFault → Option Y → Type 0
Fails faults.NoNotice read = read ≡ None
Fails faults.NoMemory read = Unit {0}
Fails faults.NoLetter read = ⊥
Fails (faults.Version v) read = ⊥
Fails (faults.Edition e) read = ⊥
Fails faults.OwnNumber read = ⊥
Fails faults.OtherSite read = ⊥
Fails faults.Unproved read = ⊥

-- what a call returned, seen by view, is what reading gives, unless memory ran out
abbrev pub Gives : {X Y : Type 0} → (X → Y) → Result X HeadFault → Option Y → Type 0
Gives view (Ok x) read = read ≡ Some (view x)
Gives view (Err e) read = Fails e read
