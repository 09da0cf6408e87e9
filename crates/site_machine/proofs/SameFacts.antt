-- Facts that say the same are the same.
use Rattle.std.proofs.Common.{◌≡◌, List, [], ◌∷◌, map, Option, Some, None, refl, sym, ◌∙◌, ap}
use Rattle.pcrf_values.specs.Places.{Place, OfSession, OfRuleName, OfComponent, OfFlow, FramedIpAddress, CalledStationId, SubscriptionIds, OriginHost, OriginRealm, RequestType, FramedIpv6Prefix, MediaType, ComponentStatus, ComponentRateUp, ComponentRateDown, FlowDescriptions, FlowUsage, FlowStatus, FlowRateUp, FlowRateDown}
use Rattle.pcrf_values.specs.Places as places
use Rattle.pcrf_values.specs.Values as values
use Rattle.pcrf_values.specs.Facts.{Fact}
use Rattle.pcrf_values.specs.Facts as facts
use Rattle.lattice_core.specs.declared.fact.SessionValue.TheVariants.{Address, Apn, Subscribers, Host, Realm, Last, Prefix}
use Rattle.gx_records.specs.declared.fact.GxFact.{GxFact}
use Rattle.gx_records.specs.declared.fact.GxFact.TheVariants as gx
use Rattle.gx_records.specs.GxFacts as gx_facts
use Rattle.af_records.specs.declared.fact.AfFact.{AfFact}
use Rattle.af_records.specs.declared.fact.AfFact.TheVariants as af
use Rattle.af_records.specs.declared.fact.ComponentValue.TheVariants as of_component
use Rattle.af_records.specs.declared.fact.FlowValue.TheVariants as of_flow
use Rattle.af_records.specs.RecordFacts as af_facts

-- what is read back is what was said
same_by : {A B : Type 0} (f : A → B) (g : B → Option A) → ((x : A) → g (f x) ≡ Some x) → (x y : A) → f x ≡ f y → x ≡ y
same_by {A} {B} f g back x y is = some_same x y (sym (back x) ∙ ap g is ∙ back y)
  where
    some_same : (x y : A) → Some x ≡ Some y → x ≡ y
    some_same x y e = cc

lists_same_by : {A B : Type 0} (f : A → B) (g : B → Option A) → ((x : A) → g (f x) ≡ Some x) → (xs ys : List A) → map f xs ≡ map f ys → xs ≡ ys
lists_same_by {A} {B} f g back [] [] is = refl
lists_same_by {A} {B} f g back [] (y ∷ ys) is = absurd (cc)
lists_same_by {A} {B} f g back (x ∷ xs) [] is = absurd (cc)
lists_same_by {A} {B} f g back (x ∷ xs) (y ∷ ys) is =
    let head : f x ≡ f y = cc in
    let tail : map f xs ≡ map f ys = cc in
    let first : x ≡ y = same_by f g back x y head in
    let rest : xs ≡ ys = lists_same_by f g back xs ys tail in
    cc

-- ---- facts of a gateway's session

gx_read : Fact → Option GxFact
gx_read facts.End = Some gx.End
gx_read (facts.Field (OfSession FramedIpAddress) t (values.Address o)) = Some (gx.Field t (Address (record { octets = o })))
gx_read (facts.Field (OfSession CalledStationId) t (values.Text x)) = Some (gx.Field t (Apn x))
gx_read (facts.Field (OfSession SubscriptionIds) t (values.Subscribers x)) = Some (gx.Field t (Subscribers x))
gx_read (facts.Field (OfSession OriginHost) t (values.Text x)) = Some (gx.Field t (Host x))
gx_read (facts.Field (OfSession OriginRealm) t (values.Text x)) = Some (gx.Field t (Realm x))
gx_read (facts.Field (OfSession RequestType) t (values.Number x)) = Some (gx.Field t (Last x))
gx_read (facts.Field (OfSession FramedIpv6Prefix) t (values.Prefix x)) = Some (gx.Field t (Prefix x))
gx_read (facts.Field (OfRuleName name) t values.Untold) = Some (gx.Told t name None)
gx_read (facts.Field (OfRuleName name) t (values.Told r)) = Some (gx.Told t name (Some r))
gx_read f = None

gx_read_back : (x : GxFact) → gx_read (gx_facts.fact_of x) ≡ Some x
unfolding gx_read
gx_read_back gx.End = refl
gx_read_back (gx.Field t (Address a)) = refl
gx_read_back (gx.Field t (Apn x)) = refl
gx_read_back (gx.Field t (Subscribers x)) = refl
gx_read_back (gx.Field t (Host x)) = refl
gx_read_back (gx.Field t (Realm x)) = refl
gx_read_back (gx.Field t (Last x)) = refl
gx_read_back (gx.Field t (Prefix x)) = refl
gx_read_back (gx.Told t name None) = refl
gx_read_back (gx.Told t name (Some r)) = refl

pub same_gx_facts : (xs ys : List GxFact) → map gx_facts.fact_of xs ≡ map gx_facts.fact_of ys → xs ≡ ys
same_gx_facts = lists_same_by gx_facts.fact_of gx_read gx_read_back

-- ---- facts of an application function's session

af_read : Fact → Option AfFact
af_read facts.End = Some af.End
af_read (facts.Removed (places.Component c)) = Some (af.ComponentRemoved c)
af_read (facts.Removed (places.Flow c n)) = Some (af.FlowRemoved c n)
af_read facts.Aborted = Some af.Aborted
af_read (facts.Field (OfSession FramedIpAddress) t (values.Address o)) = Some (af.Session t (Address (record { octets = o })))
af_read (facts.Field (OfSession CalledStationId) t (values.Text x)) = Some (af.Session t (Apn x))
af_read (facts.Field (OfSession SubscriptionIds) t (values.Subscribers x)) = Some (af.Session t (Subscribers x))
af_read (facts.Field (OfSession OriginHost) t (values.Text x)) = Some (af.Session t (Host x))
af_read (facts.Field (OfSession OriginRealm) t (values.Text x)) = Some (af.Session t (Realm x))
af_read (facts.Field (OfSession RequestType) t (values.Number x)) = Some (af.Session t (Last x))
af_read (facts.Field (OfSession FramedIpv6Prefix) t (values.Prefix x)) = Some (af.Session t (Prefix x))
af_read (facts.Field (OfComponent c MediaType) t (values.Number x)) = Some (af.Component c t (of_component.MediaType x))
af_read (facts.Field (OfComponent c ComponentStatus) t (values.Number x)) = Some (af.Component c t (of_component.Status x))
af_read (facts.Field (OfComponent c ComponentRateUp) t (values.Number x)) = Some (af.Component c t (of_component.RateUp x))
af_read (facts.Field (OfComponent c ComponentRateDown) t (values.Number x)) = Some (af.Component c t (of_component.RateDown x))
af_read (facts.Field (OfFlow c n FlowDescriptions) t (values.Filters x)) = Some (af.Flow c n t (of_flow.Descriptions x))
af_read (facts.Field (OfFlow c n FlowUsage) t (values.Number x)) = Some (af.Flow c n t (of_flow.Usage x))
af_read (facts.Field (OfFlow c n FlowStatus) t (values.Number x)) = Some (af.Flow c n t (of_flow.Status x))
af_read (facts.Field (OfFlow c n FlowRateUp) t (values.Number x)) = Some (af.Flow c n t (of_flow.RateUp x))
af_read (facts.Field (OfFlow c n FlowRateDown) t (values.Number x)) = Some (af.Flow c n t (of_flow.RateDown x))
af_read f = None

af_read_back : (x : AfFact) → af_read (af_facts.fact_of x) ≡ Some x
unfolding af_read
af_read_back af.End = refl
af_read_back (af.ComponentRemoved c) = refl
af_read_back (af.FlowRemoved c n) = refl
af_read_back af.Aborted = refl
af_read_back (af.Session t (Address a)) = refl
af_read_back (af.Session t (Apn x)) = refl
af_read_back (af.Session t (Subscribers x)) = refl
af_read_back (af.Session t (Host x)) = refl
af_read_back (af.Session t (Realm x)) = refl
af_read_back (af.Session t (Last x)) = refl
af_read_back (af.Session t (Prefix x)) = refl
af_read_back (af.Component c t (of_component.MediaType x)) = refl
af_read_back (af.Component c t (of_component.Status x)) = refl
af_read_back (af.Component c t (of_component.RateUp x)) = refl
af_read_back (af.Component c t (of_component.RateDown x)) = refl
af_read_back (af.Flow c n t (of_flow.Descriptions x)) = refl
af_read_back (af.Flow c n t (of_flow.Usage x)) = refl
af_read_back (af.Flow c n t (of_flow.Status x)) = refl
af_read_back (af.Flow c n t (of_flow.RateUp x)) = refl
af_read_back (af.Flow c n t (of_flow.RateDown x)) = refl

pub same_af_facts : (xs ys : List AfFact) → map af_facts.fact_of xs ≡ map af_facts.fact_of ys → xs ≡ ys
same_af_facts = lists_same_by af_facts.fact_of af_read af_read_back
