-- A seat that serves requests, and pushes.
use Rattle.std.specs.Prelude.{◌⊎◌, ⊤}
use Rattle.pcrf_model.specs.Replies.{ReplyValue}
use Rattle.pcrf_model.specs.Requests.{RequestValue}
use Rattle.pcrf_model.specs.Steps.{SiteEvent, Serve}
use Rattle.site_lock.specs.Books.{SeatValue}
use Rattle.site_lock.specs.Calls.{GainsReceipt}
use Rattle.pcrf_serve.specs.Events.{IsPushToHost, IsServed}

-- one more receipt, of that request and that reply
abbrev pub GainsReply : SeatValue → RequestValue → ReplyValue → SeatValue → Type 0
GainsReply before request reply after = GainsReceipt before (Serve request) reply after

-- Only who holds the lock sees whether the history has room.
abbrev pub MayBeFull : {A : Type 0} → A → Type 0
MayBeFull s = ⊤

-- what a connection makes happen: a request is served, or a gateway is pushed to
abbrev pub IsOfConnection : SiteEvent → Type 0
IsOfConnection event = IsServed event ⊎ IsPushToHost event
