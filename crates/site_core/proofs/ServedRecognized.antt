-- Each AVP that a grammar names is recognized.
use Rattle.std.proofs.Common.{refl}
use Rattle.site_core.specs.declared.failed_avps.grammar.Grammar.TheVariants.{CapabilitiesExchange, PeerCommand, VendorApplication, CreditControl, Subscription, Authorization, MediaComponent, MediaSubComponent, SessionTermination}
use Rattle.site_core.specs.Recognized.{is_recognized}
use Rattle.site_core.specs.Unsupported.{ServedAreRecognized}

pub served_are_recognized : ServedAreRecognized
unfolding is_recognized
served_are_recognized CapabilitiesExchange = refl
served_are_recognized PeerCommand = refl
served_are_recognized VendorApplication = refl
served_are_recognized CreditControl = refl
served_are_recognized Subscription = refl
served_are_recognized Authorization = refl
served_are_recognized MediaComponent = refl
served_are_recognized MediaSubComponent = refl
served_are_recognized SessionTermination = refl
