-- What is written of notices is read.
use Rattle.std.proofs.Common.{◌≡◌, ℕ, suc, ◌+◌, ◌-◌, ◌^◌, ◌<◌, ◌≤◌, ◌&&◌, ◌||◌, not, Bool, true, false, cond, ltb, List, [], ◌∷◌, ◌++◌, length, take, drop, Option, Some, None, refl, sym, ap, subst, ◌∙◌, append-nil, append_assoc, arith}
use Rattle.std.specs.Prelude.{nat_le, option_map, if◌then◌else◌}
use Rattle.std.specs.List.{concat, flat_map, list_any, AllByRecursion}
use Rattle.std.specs.List.Sorted.{IsStrictlySortedBy}
use Rattle.std.specs.Int.{w16, w32, from_be_bytes, to_be_bytes}
use Rattle.std.specs.BTreeSet.{insert_key}
use Rattle.std.specs.Ordering.{is_eq, match_ordering, ordering_reverse}
use Rattle.std.specs.declared.cmp.Ordering.TheVariants.{Less, Greater}
use Rattle.std.specs.Cmp.Lexicographic.{nat_list_cmp_total}
use Rattle.std.proofs.lemmas.Bool.{leb-true, le-leb, le-ltb}
use Rattle.std.proofs.lemmas.List.{length-append, take_at, drop_at}
use Rattle.std.proofs.lemmas.List.Concat.{flat_map-append}
use Rattle.std.proofs.lemmas.Nat.{from_be_bytes-to_be_bytes_2, from_be_bytes-to_be_bytes_4}
use Rattle.pcrf_values.specs.Limits.{identity_limit}
use Rattle.pcrf_values.specs.Orders.{text_cmp}
use Rattle.pcrf_values.specs.Texts.{one_to}
use Rattle.peer_lines.specs.Said.{is_among}
use Rattle.peer_lines.specs.NoticeLaws.{AreHosts, AreRead, IsHost, NoticesFit, WhatIsToldIsHeard}
use Rattle.peer_lines.specs.NoticeReading.{Fails}
use Rattle.peer_lines.specs.Notices.{Heard, Kept, NoticeValue, TellsAll, TellsPart, are_new, before, bytes_at, frame_at, frame_of, frame_with, frames_from, frames_of, front_width, go_on, has_room, hear_first, hear_on, heard_within, host_at, host_bytes, hosts_at, hosts_frame, joined, kind_all, kind_part, length_width, many_at, most_host_bytes, most_hosts, most_said, notice_mark, notice_of, said_bytes, short_at, short_bytes, taken, together, told_at, with_all_of, with_each, word_bytes}
use Rattle.peer_lines.specs.declared.heads.HeadFault.{HeadFault}
use Rattle.peer_lines.specs.declared.heads.HeadFault.TheVariants as faults

-- the parts of what is added
pub added : (xs ys zs : List ℕ) → (xs ++ ys) ++ zs ≡ xs ++ (ys ++ zs)
added xs ys zs = append_assoc xs ys zs

-- ---- what is spelled is read

short_again : (n : ℕ) (rest : List ℕ) → n < 2 ^ 16 → short_at (short_bytes n ++ rest) ≡ Some (n, rest)
unfolding short_at short_bytes
short_again n rest lt =
    let long : ltb (length (to_be_bytes w16 n ++ rest)) 2 ≡ false = le-ltb _ _ (omega (arith, length-append (to_be_bytes w16 n) rest)) in
    let front : take 2 (to_be_bytes w16 n ++ rest) ≡ to_be_bytes w16 n = take_at (to_be_bytes w16 n) rest 2 refl in
    let left : drop 2 (to_be_bytes w16 n ++ rest) ≡ rest = drop_at (to_be_bytes w16 n) rest 2 refl in
    (λ i. cond (long i) None (Some (from_be_bytes w16 (front i), left i))) ∙ ap (λ (m : ℕ). Some (m, rest)) (from_be_bytes-to_be_bytes_2 n lt)

bytes_again : (n : ℕ) (t rest : List ℕ) → length t ≡ n → bytes_at n (t ++ rest) ≡ Some (t, rest)
unfolding bytes_at
bytes_again n t rest e =
    let enough : ltb (length (t ++ rest)) n ≡ false = le-ltb _ _ (omega (arith, length-append t rest)) in
    rw (enough, take_at t rest n e, drop_at t rest n e) refl

name_again : (host : List ℕ) → IsHost host → one_to identity_limit host ≡ Some host
name_again host is = λ i. cond (le-leb 1 (length host) is.0 i && le-leb (length host) identity_limit is.1 i) (Some host) None

host_again : (host rest : List ℕ) → IsHost host → host_at (host_bytes host ++ rest) ≡ Some (host, rest)
unfolding host_at
host_again host rest is =
    let fits : length host < 2 ^ 16 = omega (arith, is.1) in
    rw (append_assoc (short_bytes (length host)) host rest, short_again (length host) (host ++ rest) fits, bytes_again (length host) host rest refl) (ap (before rest) (name_again host is))

many_again : (hosts : List (List ℕ)) (rest : List ℕ) → AreHosts hosts → many_at (length hosts) (flat_map host_bytes hosts ++ rest) ≡ Some (hosts, rest)
unfolding many_at
many_again [] rest all = refl
many_again (host ∷ hosts) rest all =
    rw (append_assoc (host_bytes host) (flat_map host_bytes hosts) rest, host_again host (flat_map host_bytes hosts ++ rest) all.0, many_again hosts rest all.1) refl

-- ---- hosts that ascend

abbrev pub Ascends : List (List ℕ) → Type 0
Ascends hosts = IsStrictlySortedBy text_cmp hosts

-- each of these is below the host
abbrev AreBelow : List (List ℕ) → List ℕ → Type 0
AreBelow kept host = AllByRecursion (λ k. text_cmp k host ≡ Less) kept

above : (x y : List ℕ) → text_cmp x y ≡ Less → text_cmp y x ≡ Greater
above x y e = nat_list_cmp_total.antisymm y x ∙ ap ordering_reverse e

new_at_end : (kept : List (List ℕ)) (host : List ℕ) → AreBelow kept host → is_among host kept ≡ false
new_at_end [] host b = refl
new_at_end (k ∷ ks) host b = λ i. is_eq (above k host b.0 i) || new_at_end ks host b.1 i

last_placed : (kept : List (List ℕ)) (host : List ℕ) → AreBelow kept host → insert_key text_cmp kept host ≡ kept ++ host ∷ []
last_placed [] host b = refl
last_placed (k ∷ ks) host b = λ i. match_ordering (above k host b.0 i) (host ∷ k ∷ ks) (k ∷ ks) (k ∷ last_placed ks host b.1 i)

reached : (P : List ℕ → Type 0) (xs : List (List ℕ)) (h : List ℕ) (hs : List (List ℕ)) → AllByRecursion P (xs ++ h ∷ hs) → P h
reached P [] h hs a = a.0
reached P (x ∷ xs) h hs a = reached P xs h hs a.1

skipped : (P : List ℕ → Type 0) (xs : List (List ℕ)) (h : List ℕ) (hs : List (List ℕ)) → AllByRecursion P (xs ++ h ∷ hs) → AllByRecursion P (xs ++ hs)
skipped P [] h hs a = a.1
skipped P (x ∷ xs) h hs a = (a.0, skipped P xs h hs a.1)

front_of_all : (P : List ℕ → Type 0) (xs ys : List (List ℕ)) → AllByRecursion P (xs ++ ys) → AllByRecursion P xs
front_of_all P [] ys a = tt
front_of_all P (x ∷ xs) ys a = (a.0, front_of_all P xs ys a.1)

front_ascends : (xs ys : List (List ℕ)) → Ascends (xs ++ ys) → Ascends xs
unfolding IsStrictlySortedBy
front_ascends [] ys s = tt
front_ascends (x ∷ xs) ys s = (front_of_all (λ y. text_cmp x y ≡ Less) xs ys s.0, front_ascends xs ys s.1)

are_below : (kept : List (List ℕ)) (h : List ℕ) (hs : List (List ℕ)) → Ascends (kept ++ h ∷ hs) → AreBelow kept h
unfolding IsStrictlySortedBy
are_below [] h hs s = tt
are_below (k ∷ ks) h hs s = (reached (λ y. text_cmp k y ≡ Less) ks h hs s.0, are_below ks h hs s.1)

without : (kept : List (List ℕ)) (h : List ℕ) (hs : List (List ℕ)) → Ascends (kept ++ h ∷ hs) → Ascends (kept ++ hs)
unfolding IsStrictlySortedBy
without [] h hs s = s.1
without (k ∷ ks) h hs s = (skipped (λ y. text_cmp k y ≡ Less) ks h hs s.0, without ks h hs s.1)

-- one more behind those that are kept
regrouped : (kept : List (List ℕ)) (h : List ℕ) (hs : List (List ℕ)) → (kept ++ h ∷ []) ++ hs ≡ kept ++ h ∷ hs
regrouped kept h hs = append_assoc kept (h ∷ []) hs

each_again : (kept hosts : List (List ℕ)) → Ascends (kept ++ hosts) → with_each kept hosts ≡ Some (kept ++ hosts)
each_again kept [] s = ap Some (sym (append-nil kept))
each_again kept (h ∷ hs) s =
    let b = are_below kept h hs s in
    (λ i. cond (new_at_end kept h b i) None (with_each (last_placed kept h b i) hs))
    ∙ each_again (kept ++ h ∷ []) hs (subst Ascends (sym (regrouped kept h hs)) s) ∙ ap Some (regrouped kept h hs)

all_again : (kept hosts : List (List ℕ)) → Ascends (kept ++ hosts) → with_all_of kept hosts ≡ kept ++ hosts
all_again kept [] s = sym (append-nil kept)
all_again kept (h ∷ hs) s =
    ap (λ l. with_all_of l hs) (last_placed kept h (are_below kept h hs s))
    ∙ all_again (kept ++ h ∷ []) hs (subst Ascends (sym (regrouped kept h hs)) s) ∙ regrouped kept h hs

none_among : (kept hosts : List (List ℕ)) → Ascends (kept ++ hosts) → are_new kept hosts ≡ true
none_among kept [] s = refl
none_among kept (h ∷ hs) s = (λ i. not (new_at_end kept h (are_below kept h hs s) i || list_any (λ host. is_among host kept) hs)) ∙ none_among kept hs (without kept h hs s)

together_again : (kept hosts : List (List ℕ)) → Ascends (kept ++ hosts) → length (kept ++ hosts) ≤ most_hosts → together kept hosts ≡ Some (kept ++ hosts)
together_again kept hosts s few =
    let fits : length kept + length hosts ≤ most_hosts = omega (arith, length-append kept hosts) in
    (λ i. cond (le-leb (length kept + length hosts) most_hosts fits i && none_among kept hosts s i) (Some (all_again kept hosts s i)) None)

-- ---- a notice is read again

hosts_again : (hosts : List (List ℕ)) → AreHosts hosts → Ascends hosts → length hosts < 2 ^ 16
    → hosts_at (short_bytes (length hosts) ++ flat_map host_bytes hosts) ≡ Some (hosts, [])
unfolding hosts_at
hosts_again hosts all s few =
    let many : many_at (length hosts) (flat_map host_bytes hosts) ≡ Some (hosts, []) =
    subst (λ (l : List ℕ). many_at (length hosts) l ≡ Some (hosts, [])) (append-nil (flat_map host_bytes hosts)) (many_again hosts [] all) in
    rw (short_again (length hosts) (flat_map host_bytes hosts) few, many) (ap (before []) (each_again [] hosts s))

-- what stands behind the front of one that tells of hosts
abbrev said_with : ℕ → List (List ℕ) → List ℕ
said_with kind hosts = kind ∷ (short_bytes (length hosts) ++ flat_map host_bytes hosts)

module _ (hosts : List (List ℕ)) (all : AreHosts hosts) (s : Ascends hosts) (few : length hosts < 2 ^ 16) where
  all_told : notice_of (said_with kind_all hosts) ≡ Some (TellsAll hosts)
  unfolding notice_of told_at
  all_told = rw (hosts_again hosts all s few) refl

  part_told : notice_of (said_with kind_part hosts) ≡ Some (TellsPart hosts)
  unfolding notice_of told_at
  part_told = rw (hosts_again hosts all s few) refl

-- a front is read
front_again : (n : ℕ) → 1 ≤ n → n ≤ most_said → said_bytes (word_bytes n ++ notice_mark ∷ []) ≡ Some (n - 1)
unfolding said_bytes word_bytes
front_again n least most =
    let fits : n < 2 ^ 32 = omega (arith, most) in
    let said : from_be_bytes w32 (take length_width (to_be_bytes w32 n ++ notice_mark ∷ [])) ≡ n =
    ap (from_be_bytes w32) (take_at (to_be_bytes w32 n) (notice_mark ∷ []) 4 refl) ∙ from_be_bytes-to_be_bytes_4 n fits in
    (λ i. cond (true && nat_le 1 (said i) && nat_le (said i) most_said) (Some (said i - 1)) None)
    ∙ (λ i. cond (true && le-leb 1 n least i && le-leb n most_said most i) (Some (n - 1)) None)

-- a frame is its front and what is said, whatever stands behind it
frame_parts : (kind : ℕ) (said rest : List ℕ) → frame_of kind said ++ rest ≡ (word_bytes (length said + 2) ++ notice_mark ∷ []) ++ ((kind ∷ said) ++ rest)
unfolding frame_of word_bytes
frame_parts kind said rest = refl

front_length : (n : ℕ) → length (word_bytes n ++ notice_mark ∷ []) ≡ front_width
unfolding word_bytes
front_length n = refl

frame_again : (kind : ℕ) (said rest : List ℕ) → length said + 2 ≤ most_said → frame_at (frame_of kind said ++ rest) ≡ Some (kind ∷ said, rest)
unfolding frame_at
frame_again kind said rest fits =
    let n = length said + 2 in
    let front = word_bytes n ++ notice_mark ∷ [] in
    let more = (kind ∷ said) ++ rest in
    let least : 1 ≤ length said + 2 = omega arith in
    let one : length (kind ∷ said) ≡ length said + 2 - 1 = omega arith in
    let step : List ℕ → List ℕ → Option (List ℕ × List ℕ) = λ f m. go_on (before m (said_bytes f)) bytes_at in
    ap frame_at (frame_parts kind said rest)
    ∙ ap (λ (o : Option (List ℕ × List ℕ)). go_on o step) (bytes_again front_width front more (front_length n))
    ∙ ap (λ (o : Option ℕ). go_on (before more o) bytes_at) (front_again n least fits)
    ∙ bytes_again (length said + 2 - 1) (kind ∷ said) rest one

-- ---- a stream of notices is heard

first_is_there : (kind : ℕ) (said rest : List ℕ) (n : ℕ) (kept : Kept) → length said + 2 ≤ most_said
    → heard_within (suc n) kept (frame_of kind said ++ rest) ≡ hear_on (taken kept (notice_of (kind ∷ said))) (λ next. heard_within n next rest)
unfolding heard_within frame_of word_bytes
first_is_there kind said rest n kept fits =
    ap (λ (o : Option (List ℕ × List ℕ)). go_on o (λ s r. hear_on (taken kept (notice_of s)) (λ next. heard_within n next r))) (frame_again kind said rest fits)

nothing_first : (h : Option Heard) → hear_first None h ≡ h
nothing_first None = refl
nothing_first (Some h) = refl

-- the hosts that are kept
abbrev held : Kept → List (List ℕ)
held None = []
held (Some hosts) = hosts

part_joined : (kept : Kept) (told : List (List ℕ)) → Ascends (held kept ++ told) → length (held kept ++ told) ≤ most_hosts
    → joined kept (TellsPart told) ≡ Some (Some (held kept ++ told), None)
unfolding joined
part_joined None told s few = refl
part_joined (Some hosts) told s few = ap (option_map (λ all. (Some all, None))) (together_again hosts told s few)

all_joined : (kept : Kept) (told : List (List ℕ)) → Ascends (held kept ++ told) → length (held kept ++ told) ≤ most_hosts
    → joined kept (TellsAll told) ≡ Some (None, Some (TellsAll (held kept ++ told)))
unfolding joined
all_joined None told s few = refl
all_joined (Some hosts) told s few = ap (option_map (λ all. (None, Some (TellsAll all)))) (together_again hosts told s few)

-- ---- how long notices are

short_length : (n : ℕ) → length (short_bytes n) ≡ 2
unfolding short_bytes
short_length n = refl

word_length : (n : ℕ) → length (word_bytes n) ≡ 4
unfolding word_bytes
word_length n = refl

pub host_length : (host : List ℕ) → length (host_bytes host) ≡ length host + 2
host_length host = omega (arith, length-append (short_bytes (length host)) host, short_length (length host))

bytes_more : (told : List (List ℕ)) (host : List ℕ) → flat_map host_bytes (told ++ host ∷ []) ≡ flat_map host_bytes told ++ host_bytes host
bytes_more told host = flat_map-append host_bytes told (host ∷ []) ∙ ap (λ l. flat_map host_bytes told ++ l) (append-nil (host_bytes host))

said_fits : (hosts : List (List ℕ)) → length (flat_map host_bytes hosts) ≤ most_host_bytes
    → length (short_bytes (length hosts) ++ flat_map host_bytes hosts) + 2 ≤ most_said
said_fits hosts fits = omega (arith, fits, length-append (short_bytes (length hosts)) (flat_map host_bytes hosts), short_length (length hosts))

frame_length : (kind : ℕ) (said : List ℕ) → length (frame_of kind said) ≡ length said + 6
unfolding frame_of
frame_length kind said =
    let mark : List ℕ = notice_mark ∷ kind ∷ [] in
    let n = length said + 2 in
    omega (arith, length-append (word_bytes n ++ mark) said, length-append (word_bytes n) mark, word_length n)

frame_fits : (kind : ℕ) (hosts : List (List ℕ)) → length (flat_map host_bytes hosts) ≤ most_host_bytes → length (frame_with kind hosts) ≤ length_width + most_said
frame_fits kind hosts fits = omega (arith, frame_length kind (short_bytes (length hosts) ++ flat_map host_bytes hosts), said_fits hosts fits)

-- one host alone has room
room_alone : (host : List ℕ) → IsHost host → length (flat_map host_bytes (host ∷ [])) ≤ most_host_bytes
room_alone host is = omega (arith, is.1, host_length host, length-append (host_bytes host) [])

-- and one more where there is room
room_for_more : (told : List (List ℕ)) (host : List ℕ) → has_room (length (flat_map host_bytes told)) host ≡ true → length (flat_map host_bytes (told ++ host ∷ [])) ≤ most_host_bytes
room_for_more told host q =
    let fits : length (flat_map host_bytes told) + length (host_bytes host) ≤ most_host_bytes = leb-true _ _ q in
    let e : length (flat_map host_bytes (told ++ host ∷ [])) ≡ length (flat_map host_bytes told) + length (host_bytes host) =
    ap length (bytes_more told host) ∙ length-append (flat_map host_bytes told) (host_bytes host) in
    subst (λ (n : ℕ). n ≤ most_host_bytes) (sym e) fits

hosts_more : (told : List (List ℕ)) (host : List ℕ) → AreHosts told → IsHost host → AreHosts (told ++ host ∷ [])
hosts_more [] host a is = (is, tt)
hosts_more (t ∷ ts) host a is = (a.0, hosts_more ts host a.1 is)

back_ascends : (xs ys : List (List ℕ)) → Ascends (xs ++ ys) → Ascends ys
unfolding IsStrictlySortedBy
back_ascends [] ys s = s
back_ascends (x ∷ xs) ys s = back_ascends xs ys s.1

frames_fit : (told hosts : List (List ℕ)) → AreHosts hosts → length (flat_map host_bytes told) ≤ most_host_bytes → AreRead (frames_from told hosts)
unfolding frames_from
frames_fit told [] b fits = (frame_fits kind_all told fits, tt)
frames_fit told (h ∷ hs) b fits =
    elim (has_room (length (flat_map host_bytes told)) h) as (λ r. has_room (length (flat_map host_bytes told)) h ≡ r
    → AreRead (cond r (frames_from (told ++ h ∷ []) hs) (frame_with kind_part told ∷ frames_from (h ∷ []) hs))) [
      | true ↦ λ q. frames_fit (told ++ h ∷ []) hs b.1 (room_for_more told h q)
      | false ↦ λ q. (frame_fits kind_part told fits, frames_fit (h ∷ []) hs b.1 (room_alone h b.0))
    ] refl

-- ---- what is told is heard

module _ (all : List (List ℕ)) (s : Ascends all) (few : length all ≤ most_hosts) where
  -- some of them come first
  first_few : (xs ys : List (List ℕ)) → xs ++ ys ≡ all → length xs ≤ most_hosts
  first_few xs ys e =
      let more : length (xs ++ ys) ≤ most_hosts = subst (λ (l : List (List ℕ)). length l ≤ most_hosts) (sym e) few in
      omega (arith, more, length-append xs ys)

  first_ascend : (xs ys : List (List ℕ)) → xs ++ ys ≡ all → Ascends xs
  first_ascend xs ys e = front_ascends xs ys (subst Ascends (sym e) s)

  -- those of a part are so few that they can be counted
  counted : (kept told ys : List (List ℕ)) → (kept ++ told) ++ ys ≡ all → length told < 2 ^ 16
  counted kept told ys e = omega (arith, first_few (kept ++ told) ys e, length-append kept told)

  last_heard : (kept : Kept) (told : List (List ℕ)) (rest : List ℕ) (n : ℕ) → AreHosts told → length (flat_map host_bytes told) ≤ most_host_bytes
      → (held kept ++ told) ++ [] ≡ all → heard_within (suc n) kept (frame_with kind_all told ++ rest) ≡ hear_first (Some (TellsAll all)) (heard_within n None rest)
  last_heard kept told rest n a fits e =
      let before_all = held kept ++ told in
      let up : Ascends before_all = first_ascend before_all [] e in
      let it : notice_of (said_with kind_all told) ≡ Some (TellsAll told) = all_told told a (back_ascends (held kept) told up) (counted (held kept) told [] e) in
      first_is_there kind_all (short_bytes (length told) ++ flat_map host_bytes told) rest n kept (said_fits told fits)
      ∙ ap (λ (o : Option (Kept × Option NoticeValue)). hear_on o (λ next. heard_within n next rest)) (ap (taken kept) it ∙ all_joined kept told up (first_few before_all [] e))
      ∙ ap (λ (l : List (List ℕ)). hear_first (Some (TellsAll l)) (heard_within n None rest)) (sym (append-nil before_all) ∙ e)

  part_heard : (kept : Kept) (told hs : List (List ℕ)) (rest : List ℕ) (n : ℕ) → AreHosts told → length (flat_map host_bytes told) ≤ most_host_bytes
      → (held kept ++ told) ++ hs ≡ all → heard_within (suc n) kept (frame_with kind_part told ++ rest) ≡ heard_within n (Some (held kept ++ told)) rest
  part_heard kept told hs rest n a fits e =
      let before_all = held kept ++ told in
      let up : Ascends before_all = first_ascend before_all hs e in
      let it : notice_of (said_with kind_part told) ≡ Some (TellsPart told) = part_told told a (back_ascends (held kept) told up) (counted (held kept) told hs e) in
      first_is_there kind_part (short_bytes (length told) ++ flat_map host_bytes told) rest n kept (said_fits told fits)
      ∙ ap (λ (o : Option (Kept × Option NoticeValue)). hear_on o (λ next. heard_within n next rest)) (ap (taken kept) it ∙ part_joined kept told up (first_few before_all hs e))
      ∙ nothing_first (heard_within n (Some before_all) rest)

  told_heard : (kept : Kept) (told hs : List (List ℕ)) (rest : List ℕ) (n : ℕ) → AreHosts told → AreHosts hs → length (flat_map host_bytes told) ≤ most_host_bytes
      → (held kept ++ told) ++ hs ≡ all → heard_within (length (frames_from told hs) + n) kept (concat (frames_from told hs) ++ rest) ≡ hear_first (Some (TellsAll all)) (heard_within n None rest)
  unfolding frames_from
  told_heard kept told [] rest n a b fits e =
      let f = frame_with kind_all told in
      let one : length (f ∷ []) + n ≡ suc n = omega arith in
      (λ i. heard_within (one i) kept (append-nil f i ++ rest)) ∙ last_heard kept told rest n a fits e
  told_heard kept told (h ∷ hs) rest n a b fits e =
      let f = frame_with kind_part told in
      let left = frames_from (h ∷ []) hs in
      let more : length (f ∷ left) + n ≡ suc (length left + n) = omega arith in
      let further : (held kept ++ (told ++ h ∷ [])) ++ hs ≡ all =
      ap (λ (l : List (List ℕ)). l ++ hs) (sym (append_assoc (held kept) told (h ∷ []))) ∙ regrouped (held kept ++ told) h hs ∙ e in
      elim (has_room (length (flat_map host_bytes told)) h) as (λ r. has_room (length (flat_map host_bytes told)) h ≡ r
      → heard_within (length (cond r (frames_from (told ++ h ∷ []) hs) (f ∷ left)) + n) kept (concat (cond r (frames_from (told ++ h ∷ []) hs) (f ∷ left)) ++ rest)
      ≡ hear_first (Some (TellsAll all)) (heard_within n None rest)) [
        | true ↦ λ q. told_heard kept (told ++ h ∷ []) hs rest n (hosts_more told h a b.0) b.1 (room_for_more told h q) further
        | false ↦ λ q. (λ i. heard_within (more i) kept (append_assoc f (concat left) rest i)) ∙ part_heard kept told (h ∷ hs) (concat left ++ rest) (length left + n) a fits e
            ∙ told_heard (Some (held kept ++ told)) (h ∷ []) hs rest n (b.0, tt) b.1 (room_alone h b.0) (regrouped (held kept ++ told) h hs ∙ e)
      ] refl

pub what_is_told : WhatIsToldIsHeard
unfolding frames_of
what_is_told hosts rest n all s few = told_heard hosts s few None [] hosts rest n tt all (omega arith) refl

pub notices_fit : NoticesFit
unfolding frames_of
notices_fit hosts all = frames_fit [] hosts all (omega arith)

-- ---- how they are written: what is to be written where so many hosts, which have these bytes, stand in a notice that isn't written yet

unfoldable pub written_from : ℕ → List ℕ → List (List ℕ) → List ℕ
written_from count told [] = hosts_frame kind_all count told
written_from count told (host ∷ hosts) =
    if has_room (length told) host then written_from (count + 1) (told ++ host_bytes host) hosts
    else hosts_frame kind_part count told ++ written_from 1 (host_bytes host) hosts

written_is : (told hosts : List (List ℕ)) → written_from (length told) (flat_map host_bytes told) hosts ≡ concat (frames_from told hosts)
unfolding written_from frames_from
written_is told [] = sym (append-nil (frame_with kind_all told))
written_is told (h ∷ hs) =
    let flat = flat_map host_bytes told in
    let f = frame_with kind_part told in
    elim (has_room (length (flat_map host_bytes told)) h) as (λ r. cond r (written_from (length told + 1) (flat ++ host_bytes h) hs) (f ++ written_from 1 (host_bytes h) hs)
    ≡ concat (cond r (frames_from (told ++ h ∷ []) hs) (f ∷ frames_from (h ∷ []) hs))) [
      | true ↦ (λ i. written_from (sym (length-append told (h ∷ [])) i) (sym (bytes_more told h) i) hs) ∙ written_is (told ++ h ∷ []) hs
      | false ↦ ap (λ (l : List ℕ). f ++ written_from 1 l hs) (sym (append-nil (host_bytes h))) ∙ ap (λ (l : List ℕ). f ++ l) (written_is (h ∷ []) hs)
    ]

pub all_written : (hosts : List (List ℕ)) → written_from 0 [] hosts ≡ concat (frames_of hosts)
unfolding frames_of
all_written hosts = written_is [] hosts

-- the last one is written
pub last_written : (count : ℕ) (told : List ℕ) → written_from count told [] ≡ hosts_frame kind_all count told
unfolding written_from
last_written count told = refl

-- one host more is told
pub one_told : (bytes told : List ℕ) (count : ℕ) (host : List ℕ) (hosts : List (List ℕ)) (new_bytes new_told : List ℕ) (new_count : ℕ)
    → new_bytes ≡ cond (has_room (length told) host) bytes (bytes ++ hosts_frame kind_part count told)
    → new_count ≡ cond (has_room (length told) host) (count + 1) 1
    → new_told ≡ cond (has_room (length told) host) (told ++ host_bytes host) (host_bytes host)
    → new_bytes ++ written_from new_count new_told hosts ≡ bytes ++ written_from count told (host ∷ hosts)
unfolding written_from
one_told bytes told count host hosts new_bytes new_told new_count p q t =
    let f = hosts_frame kind_part count told in
    (λ i. p i ++ written_from (q i) (t i) hosts)
    ∙ elim (has_room (length told) host) as (λ r. cond r bytes (bytes ++ f) ++ written_from (cond r (count + 1) 1) (cond r (told ++ host_bytes host) (host_bytes host)) hosts
    ≡ bytes ++ cond r (written_from (count + 1) (told ++ host_bytes host) hosts) (f ++ written_from 1 (host_bytes host) hosts)) [
      | true ↦ refl
      | false ↦ append_assoc bytes f (written_from 1 (host_bytes host) hosts)
    ]

-- ---- how hosts are read, one after the other

abbrev pub among : List (List ℕ) → Option (List (List ℕ) × List ℕ) → Option (List (List ℕ) × List ℕ)
among kept read = go_on read (λ hosts rest. before rest (with_each kept hosts))

-- whether a set had a host, by what its insertion answered
pub was_new : (is_added is_there : Bool) → is_added ≡ not is_there → is_added ≡ true → is_there ≡ false
was_new a true p q = absurd (cc)
was_new a false p q = refl

pub was_old : (is_added is_there : Bool) → is_added ≡ not is_there → is_added ≡ false → is_there ≡ true
was_old a true p q = refl
was_old a false p q = absurd (cc)

module _ (kept : List (List ℕ)) (host : List ℕ) where
  is_new : is_among host kept ≡ false → (read : Option (List (List ℕ) × List ℕ))
      → among kept (go_on read (λ hosts rest. Some (host ∷ hosts, rest))) ≡ among (insert_key text_cmp kept host) read
  is_new e None = refl
  is_new e (Some x) = λ i. before x.1 (cond (e i) None (with_each (insert_key text_cmp kept host) x.0))

  is_old : is_among host kept ≡ true → (read : Option (List (List ℕ) × List ℕ)) → among kept (go_on read (λ hosts rest. Some (host ∷ hosts, rest))) ≡ None
  is_old e None = refl
  is_old e (Some x) = λ i. before x.1 (cond (e i) None (with_each (insert_key text_cmp kept host) x.0))

module _ (kept : List (List ℕ)) (count i : ℕ) (bytes : List ℕ) (total : Option (List (List ℕ) × List ℕ)) (so_far : among kept (many_at (count - i) bytes) ≡ total) where
  -- one was read, and then that
  read_first : i < count → among kept (go_on (host_at bytes) (λ host more. go_on (many_at (count - (i + 1)) more) (λ hosts rest. Some (host ∷ hosts, rest)))) ≡ total
  unfolding many_at
  read_first lt =
      let k : suc (count - (i + 1)) ≡ count - i = omega arith in
      ap (λ (n : ℕ). among kept (many_at n bytes)) k ∙ so_far

  pub host_read : (host after : List ℕ) → i < count → host_at bytes ≡ Some (host, after) → is_among host kept ≡ false
      → among (insert_key text_cmp kept host) (many_at (count - (i + 1)) after) ≡ total
  host_read host after lt h e =
      sym (is_new kept host e (many_at (count - (i + 1)) after))
      ∙ ap (λ (o : Option (List ℕ × List ℕ)). among kept (go_on o (λ host more. go_on (many_at (count - (i + 1)) more) (λ hosts rest. Some (host ∷ hosts, rest))))) (sym h)
      ∙ read_first lt

  pub host_twice : (host after : List ℕ) → i < count → host_at bytes ≡ Some (host, after) → is_among host kept ≡ true → total ≡ None
  host_twice host after lt h e =
      sym (read_first lt)
      ∙ ap (λ (o : Option (List ℕ × List ℕ)). among kept (go_on o (λ host more. go_on (many_at (count - (i + 1)) more) (λ hosts rest. Some (host ∷ hosts, rest))))) h
      ∙ is_old kept host e (many_at (count - (i + 1)) after)

  no_host : i < count → host_at bytes ≡ None → total ≡ None
  no_host lt h =
      sym (read_first lt)
      ∙ ap (λ (o : Option (List ℕ × List ℕ)). among kept (go_on o (λ host more. go_on (many_at (count - (i + 1)) more) (λ hosts rest. Some (host ∷ hosts, rest))))) h

  pub host_fails : (e : HeadFault) → i < count → Fails e (host_at bytes) → Fails e total
  host_fails faults.NoNotice lt h = no_host lt h
  host_fails faults.NoMemory lt h = tt
  host_fails faults.NoLetter lt h = h
  host_fails (faults.Version v) lt h = h
  host_fails (faults.Edition n) lt h = h
  host_fails faults.OwnNumber lt h = h
  host_fails faults.OtherSite lt h = h
  host_fails faults.Unproved lt h = h

  pub hosts_read : count ≤ i → total ≡ Some (kept, bytes)
  unfolding many_at
  hosts_read le =
      let k : count - i ≡ 0 = omega arith in
      sym so_far ∙ ap (λ (n : ℕ). among kept (many_at n bytes)) k
