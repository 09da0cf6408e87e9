-- The subscribers that a request names (Subscription-Id, RFC 8506, 8.46 to 8.48).
use Rattle.std.specs.Prelude.{ℕ, List, [], ◌∷◌, Option, Some, None, unwrap_or, map}
use Rattle.pcrf_values.specs.Ascending.{ascending}
use Rattle.pcrf_values.specs.Sets.{if_any}
use Rattle.pcrf_values.specs.Limits.{subscribers_limit, subscription_data_limit}
use Rattle.pcrf_values.specs.Numbers.{subscription_number}
use Rattle.pcrf_values.specs.Subscribers.{subscriber_cmp}
use Rattle.pcrf_values.specs.declared.subscribers.SubscriptionType.TheVariants.{EndUserE164, EndUserPrivate}
use Rattle.dia_codec.specs.Fields.{AvpValue}
use Rattle.dia_codec.specs.Reading.{avps_of}
use Rattle.dia_base.specs.Avps.{subscription_id, subscription_id_data, subscription_id_type}
use Rattle.dia_base.specs.Rows.{Row, Kind, required, repeated, enumerated, text_to, grouped, values_of, value_of, number_at}

-- Subscription-Id-Type, from END_USER_E164 to END_USER_PRIVATE
abbrev pub subscription_type_row : Row
subscription_type_row =
    required subscription_id_type (enumerated (subscription_number EndUserE164) (subscription_number EndUserPrivate))

-- a Subscription-Id: Subscription-Id-Type, and then Subscription-Id-Data
abbrev pub subscription : Kind
subscription =
    grouped (subscription_type_row ∷ required subscription_id_data (text_to subscription_data_limit) ∷ [])

-- the row of the Subscription-Ids of a request
abbrev pub subscription_row : Row
subscription_row = repeated subscription_id (Some subscribers_limit) subscription

-- the type and the data in a group
abbrev pub subscriber_in : Option (List AvpValue) → ℕ × List ℕ
subscriber_in None = (0, [])
subscriber_in (Some avps) =
    (unwrap_or (number_at subscription_id_type avps) 0, unwrap_or (value_of subscription_id_data avps) [])

abbrev pub subscriber_of : List ℕ → ℕ × List ℕ
subscriber_of value = subscriber_in (avps_of value)

-- the subscribers that a request names, in the order in which they stand
abbrev pub named_subscribers : List AvpValue → List (ℕ × List ℕ)
named_subscribers avps = map subscriber_of (values_of subscription_id avps)

-- the subscribers of a request, ascending, each once, if it names any
abbrev pub subscribers_of : List AvpValue → Option (List (ℕ × List ℕ))
subscribers_of avps = if_any (ascending subscriber_cmp (named_subscribers avps))
