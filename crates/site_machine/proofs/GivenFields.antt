-- The facts of what a request says of its session.
use Rattle.std.proofs.Common.{◌≡◌, ℕ, Bool, true, List, map, Option, Some, None, refl, ap, ◌∙◌, option_map}
use Rattle.std.specs.Net.Addr.{ipv4_octets}
use Rattle.std.specs.declared.net.ipv4_addr.Ipv4Addr.{Ipv4Addr}
use Rattle.pcrf_values.specs.declared.tag.Tag.{Tag}
use Rattle.pcrf_values.specs.Prefixes.{Ipv6Prefix}
use Rattle.pcrf_values.specs.Values.{Subscriber, Value}
use Rattle.lattice_core.specs.SessionFacts.{session_fact}
use Rattle.pcrf_model.specs.Forms.{is_none_or}
use Rattle.pcrf_model.specs.Making.{request_says, said_facts}
use Rattle.pcrf_model.specs.Requests.{UserValue}
use Rattle.site_machine.specs.Given.{values_given}

-- the user of these parts
abbrev pub user_of : Option Ipv4Addr → Option Ipv6Prefix → Option (List ℕ) → Option (List Subscriber) → UserValue
user_of a p n xs = record { address = option_map ipv4_octets a; prefix = p; apn = n; subscribers = xs }

-- what is given says just what the definitions have
pub values_say : (t : Tag) (a : Option Ipv4Addr) (p : Option Ipv6Prefix) (n : Option (List ℕ)) (xs : Option (List Subscriber)) (of_host of_realm : List ℕ) (last : ℕ)
    → map (session_fact t) (values_given a p n xs of_host of_realm last) ≡ said_facts t (request_says (user_of a p n xs) of_host of_realm last)
values_say t None None None None h r last = refl
values_say t None None None (Some xs) h r last = refl
values_say t None None (Some n) None h r last = refl
values_say t None None (Some n) (Some xs) h r last = refl
values_say t None (Some p) None None h r last = refl
values_say t None (Some p) None (Some xs) h r last = refl
values_say t None (Some p) (Some n) None h r last = refl
values_say t None (Some p) (Some n) (Some xs) h r last = refl
values_say t (Some a) None None None h r last = refl
values_say t (Some a) None None (Some xs) h r last = refl
values_say t (Some a) None (Some n) None h r last = refl
values_say t (Some a) None (Some n) (Some xs) h r last = refl
values_say t (Some a) (Some p) None None h r last = refl
values_say t (Some a) (Some p) None (Some xs) h r last = refl
values_say t (Some a) (Some p) (Some n) None h r last = refl
values_say t (Some a) (Some p) (Some n) (Some xs) h r last = refl

-- what passes where it is given fits where it stands
pub given_fits : {A : Type 0} (test : A → Bool) (make : A → Value) (fits : Value → Bool) → ((x : A) → fits (make x) ≡ test x)
    → (o : Option A) → is_none_or test o ≡ true → is_none_or fits (option_map make o) ≡ true
given_fits test make fits same None h = refl
given_fits test make fits same (Some x) h = same x ∙ h
