-- Workers: each gives its seat back, with its earlier receipts as a prefix, and behind them receipts of requests and of pushes alone.
use Rattle.std.specs.Prelude.{◌≡◌, ℕ, ◌≤◌, List, [], vec_capacity}
use Rattle.std.specs.List.{AllZip}
use Rattle.site_lock.specs.Books.{SeatValue}
use Rattle.pcrf_serve.specs.Earlier.{Adds, HasEarlier}
use Rattle.pcrf_serve.specs.Serving.{IsOfConnection}
use Rattle.pcrf_serve.specs.declared.workers.Begun.{Begun}
use Rattle.pcrf_serve.specs.declared.workers.Room.{Room}
use Rattle.pcrf_serve.specs.declared.workers.Begun.TheVariants.{Running, Refused}

-- a worker that runs promised to give this seat back; one that could not be started gave it back
abbrev pub BegunFrom : {S : _} {A : Type 0} → (A → SeatValue) → SeatValue → Begun S A → Type 0
BegunFrom seen seat (Running handle) = seen handle.promise.seat.value ≡ seat
BegunFrom seen seat (Refused other end) = Adds IsOfConnection seat (seen other)

-- what a worker gives back fits each seat that it began with
abbrev pub Joins : {S : _} {A E : Type 0} → (A → SeatValue) → Begun S A → A × E → Type 0
Joins seen begun ended = (seat : SeatValue) → BegunFrom seen seat begun → Adds IsOfConnection seat (seen ended.0)

-- the workers of the connections, in order
abbrev pub AllBegun : {S : _} {A R W : Type 0} → (A → SeatValue) → List (A × R × W) → List (Begun S A) → Type 0
AllBegun seen = AllZip (λ connection begun. BegunFrom seen (seen connection.0) begun)

-- what the workers give back, in order
abbrev pub AllJoin : {S : _} {A E : Type 0} → (A → SeatValue) → List (Begun S A) → List (A × E) → Type 0
AllJoin seen = AllZip (Joins seen)

-- each connection gives its seat back, with its earlier receipts as a prefix, in order
abbrev pub AllGiveBack : {A R W E : Type 0} → (A → SeatValue) → List (A × R × W) → List (A × E) → Type 0
AllGiveBack seen = AllZip (λ connection ended. HasEarlier (seen connection.0) (seen ended.0))

-- each connection gives its seat back, with receipts of requests and of pushes alone behind its earlier ones, in order
abbrev pub AllServe : {A R W E : Type 0} → (A → SeatValue) → List (A × R × W) → List (A × E) → Type 0
AllServe seen = AllZip (λ connection ended. Adds IsOfConnection (seen connection.0) (seen ended.0))

-- there is room for so many workers
abbrev pub IsRoomFor : {S W : _} {A : Type 0} → ℕ → Room S W A → Type 0
IsRoomFor count room =
    (room.begun.items ≡ []) × (count ≤ vec_capacity room.begun)
    × (room.ended.items ≡ []) × (count ≤ vec_capacity room.ended)
