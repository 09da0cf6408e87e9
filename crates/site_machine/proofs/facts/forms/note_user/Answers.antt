use Rattle.std.proofs.Common.{refl, option_map}
use Rattle.std.specs.Net.Addr.{ipv4_octets}
use Rattle.pcrf_values.specs.Places.{FramedIpAddress, FramedIpv6Prefix, CalledStationId, SubscriptionIds}
use Rattle.pcrf_values.specs.Values.{Address, Prefix, Text, Subscribers}
use Rattle.pcrf_model.specs.Forms.{is_address, is_prefix, is_apn, are_subscribers, fits_session_field}
use Rattle.site_machine.proofs.GivenFields.{given_fits}
use Rattle.site_machine.proofs.facts.forms.note_user.Goals as goal

pub returns : goal.returns
returns c = λ k.
    let address = given_fits is_address Address (fits_session_field k FramedIpAddress) (λ x. refl) (option_map ipv4_octets c.args.address) c.note_address_given.ensures in
    let apn = given_fits is_apn Text (fits_session_field k CalledStationId) (λ x. refl) c.args.apn.now c.note_apn_given.ensures in
    let subscribers = given_fits are_subscribers Subscribers (fits_session_field k SubscriptionIds) (λ x. refl) c.args.subscribers.now c.note_subscribers_given.ensures in
    let prefix = given_fits is_prefix Prefix (fits_session_field k FramedIpv6Prefix) (λ x. refl) c.args.prefix c.note_prefix_given.ensures in
    rw (address, apn, subscribers, prefix) refl
