-- Values of fields, and the order in which one wins over another under equal tags (this project's profile).
use Rattle.std.specs.Prelude.{ℕ, List, ◌⊎◌}
use Rattle.std.proofs.Common.{inl, inr, Ordering}
use Rattle.std.specs.Ordering.{nat_cmp, on}
use Rattle.std.specs.Cmp.Lexicographic.{slice_cmp}
use Rattle.pcrf_values.specs.Orders.{pair_cmp, either_cmp, text_cmp}
use Rattle.pcrf_values.specs.Subscribers.{subscriber_cmp}
use Rattle.pcrf_values.specs.RuleValues.{RuleValue, rule_cmp}
use Rattle.pcrf_values.specs.declared.tag.Tag.{Tag}
use Rattle.pcrf_values.specs.Tags.{tag_cmp}
use Rattle.pcrf_values.specs.Prefixes.{Ipv6Prefix, prefix_cmp}

-- A subscriber: the Subscription-Id-Type and the Subscription-Id-Data (RFC 8506, 8.46 to 8.48).
abbrev pub Subscriber : Type 0
Subscriber = ℕ × List ℕ

-- A number; a text as its bytes; an IPv4 address as its four octets; the ascending list of
-- subscribers; the filters of a flow (Flow-Description, TS 29.214, 5.3.8); of a rule name, that no
-- rule counts as told under it, by a removal or a retelling, or the rule that the gateway was told;
-- an IPv6 prefix.
pub data Value : Type 0 where
  Number : ℕ → Value
  Text : List ℕ → Value
  Address : List ℕ → Value
  Subscribers : List Subscriber → Value
  Filters : List (List ℕ) → Value
  Untold : Value
  Told : RuleValue → Value
  Prefix : Ipv6Prefix → Value

-- a value as its parts
abbrev pub ValueKey : Type 0
ValueKey =
    ℕ ⊎ (List ℕ ⊎ (List ℕ ⊎ (List Subscriber ⊎ (List (List ℕ)
    ⊎ (ℕ ⊎ (RuleValue ⊎ Ipv6Prefix))))))

-- values of different kinds stand in this order
abbrev pub value_key : Value → ValueKey
value_key (Number n) = inl n
value_key (Text t) = inr (inl t)
value_key (Address a) = inr (inr (inl a))
value_key (Subscribers s) = inr (inr (inr (inl s)))
value_key (Filters f) = inr (inr (inr (inr (inl f))))
value_key Untold = inr (inr (inr (inr (inr (inl 0)))))
value_key (Told r) = inr (inr (inr (inr (inr (inr (inl r))))))
value_key (Prefix p) = inr (inr (inr (inr (inr (inr (inr p))))))

-- Numbers by size, texts and addresses by bytes, lists member by member with a prefix first; that no
-- rule is told is below every rule; rules field by field; IPv6 prefixes by length, and then by bytes.
abbrev pub value_cmp : Value → Value → Ordering
value_cmp = on value_key
    (either_cmp nat_cmp (either_cmp text_cmp (either_cmp text_cmp
    (either_cmp (slice_cmp subscriber_cmp) (either_cmp (slice_cmp text_cmp)
    (either_cmp nat_cmp (either_cmp rule_cmp prefix_cmp)))))))

-- what a fact says of its place: a value under a tag
abbrev pub Entry : Type 0
Entry = Tag × Value

-- by tag (number, counter, site), and then by value
abbrev pub entry_cmp : Entry → Entry → Ordering
entry_cmp = pair_cmp tag_cmp value_cmp
