-- What a site of a world replies, where the world is at hand.
use Rattle.std.specs.Prelude.{◌≡◌, Ok}
use Rattle.pcrf_model.specs.Replies.{ReplyValue}
use Rattle.pcrf_model.specs.Requests.{RequestValue}
use Rattle.pcrf_model.specs.Worlds.{ServeAt, Replied}
use Rattle.pcrf_world.specs.Happening.{HappensIn}
use Rattle.pcrf_world.specs.declared.addressed.AddressedSite.{AddressedSite}

-- it is what happens in the world when the site of that number serves the request; the names and the number stay
pub record HappensAt (old : AddressedSite) (request : RequestValue) (reply : ReplyValue) (new : AddressedSite) : Type 0 where
  pub happens : HappensIn old.world new.world (ServeAt old.number request) (Ok (Replied reply))
  pub number : new.number ≡ old.number
  pub identity : new.identity ≡ old.identity
