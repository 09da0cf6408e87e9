-- What a site replies has positions that a log may have: its log is no longer than its clock, and clocks are counters.
use Rattle.std.proofs.Common.{◌≡◌, ◌≤◌, ℕ, ◌+◌, true, length, drop, List, arith, nat_le}
use Rattle.std.proofs.lemmas.Bool.Decides.{nat_tests}
use Rattle.std.proofs.lemmas.List.{length-drop, length-take}
use Rattle.pcrf_values.proofs.Plain.{both}
use Rattle.pcrf_model.proofs.FormLaws.{le_passes}
use Rattle.pcrf_model.specs.Forms.{is_holding}
use Rattle.pcrf_model.specs.Holdings.{Holding}
use Rattle.pcrf_model.specs.Letters.{Range, Snapshot}
use Rattle.pcrf_values.specs.Limits.{last_counter, range_limit}
use Rattle.pcrf_model.specs.Operations.{Operation}
use Rattle.pcrf_model.specs.Steps.{own_from}
use Rattle.peer_exchange.specs.Form.{is_placed}

-- where an operation may be asked for from and where the log may end, so may the operations in between
own_ends : (log : List Operation) (from last : ℕ) → from ≤ last → length log ≤ last → from + length (own_from log from) ≤ last
own_ends log from last low long =
    let taken = length-take range_limit (drop from log) in
    let left = length-drop from log in
    rw (taken, left) (omega (arith, low, long))

-- no more operations are answered at once than a letter carries
own_few : (log : List Operation) (from : ℕ) → length (own_from log from) ≤ range_limit
own_few log from = rw (length-take range_limit (drop from log)) (omega arith)

-- the clock of what is held is a counter
clock_low : (h : Holding) → is_holding h ≡ true → h.clock ≤ last_counter
clock_low h is = grind (arith, nat_tests, is)

-- the operations of a site from a position on
pub own_is_placed : (h : Holding) (log : List Operation) (from : ℕ) → is_holding h ≡ true → length log ≤ h.clock → from ≤ last_counter → is_placed (Range from (own_from log from)) ≡ true
own_is_placed h log from is short low =
    let clock = clock_low h is in
    let ends = own_ends log from last_counter low (omega (arith, short, clock)) in
    both (nat_le (length (own_from log from)) range_limit) _ (le_passes (length (own_from log from)) range_limit (own_few log from)) (le_passes (from + length (own_from log from)) last_counter ends)

-- the state of a site with the length of its log
pub whole_is_placed : (h : Holding) (log : List Operation) → is_holding h ≡ true → length log ≤ h.clock → is_placed (Snapshot h (length log)) ≡ true
whole_is_placed h log is short =
    let clock = clock_low h is in
    let within : length log ≤ last_counter = omega (arith, short, clock) in
    grind (arith, nat_tests, within)
