-- Notices, as docs/LETTERS.md has them ("Who reaches whom"): what they tell, their bytes, how they are read, and how parts are joined.
use Rattle.std.specs.Prelude.{ℕ, zero, suc, ◌+◌, ◌-◌, ◌==◌, ◌&&◌, not, Bool, nat_lt, nat_le, List, [], ◌∷◌, ◌++◌, length, take, drop, get_or, Option, Some, None, option_map, if◌then◌else◌}
use Rattle.std.specs.List.{flat_map, list_any}
use Rattle.std.specs.Int.{w16, w32, from_be_bytes, to_be_bytes}
use Rattle.std.specs.BTreeSet.{BTreeSet, insert_key}
use Rattle.pcrf_values.specs.Limits.{identity_limit}
use Rattle.pcrf_values.specs.Orders.{text_cmp}
use Rattle.pcrf_values.specs.Texts.{one_to}
use Rattle.peer_lines.specs.Said.{is_among}
use Rattle.peer_lines.specs.declared.notice.Notice.{Notice}
use Rattle.peer_lines.specs.declared.notice.Notice.TheVariants as notices

-- ---- numbers of the page

-- what stands where a letter has its version
abbrev pub notice_mark : ℕ
notice_mark = 240

-- how many bytes say the length of a notice, and how many there are with the mark
abbrev pub length_width : ℕ
length_width = 4

abbrev pub front_width : ℕ
front_width = 5

-- the most that a length says
abbrev pub most_said : ℕ
most_said = 65536

-- how many bytes there may be of the hosts of one notice: the length counts the mark, the kind and their number too
abbrev pub most_host_bytes : ℕ
most_host_bytes = 65532

-- of how many hosts parts tell together at most
abbrev pub most_hosts : ℕ
most_hosts = 65535

-- the kinds
abbrev pub kind_all : ℕ
kind_all = 1

abbrev pub kind_reached : ℕ
kind_reached = 2

abbrev pub kind_left : ℕ
kind_left = 3

abbrev pub kind_part : ℕ
kind_part = 4

-- ---- what notices tell

-- these hosts and no others; these and others, of which the next one tells; one more; one less
pub data NoticeValue : Type 0 where
  TellsAll : List (List ℕ) → NoticeValue
  TellsPart : List (List ℕ) → NoticeValue
  TellsReached : List ℕ → NoticeValue
  TellsLeft : List ℕ → NoticeValue

-- what a notice tells, without where it lies in memory
abbrev pub notice_value : Notice → NoticeValue
notice_value (notices.All hosts) = TellsAll hosts.keys
notice_value (notices.Part hosts) = TellsPart hosts.keys
notice_value (notices.Reached host) = TellsReached host
notice_value (notices.Left host) = TellsLeft host

-- ---- their bytes

-- numbers of two and four bytes, big-endian
unfoldable pub short_bytes : ℕ → List ℕ
short_bytes n = to_be_bytes w16 n

unfoldable pub word_bytes : ℕ → List ℕ
word_bytes n = to_be_bytes w32 n

-- a host: how many bytes its name has, and these
abbrev pub host_bytes : List ℕ → List ℕ
host_bytes host = short_bytes (length host) ++ host

-- a notice of that kind with this behind it
unfoldable pub frame_of : ℕ → List ℕ → List ℕ
frame_of kind said = word_bytes (length said + 2) ++ (notice_mark ∷ kind ∷ []) ++ said

-- one that tells of so many hosts, which have these bytes
abbrev pub hosts_frame : ℕ → ℕ → List ℕ → List ℕ
hosts_frame kind count bytes = frame_of kind (short_bytes count ++ bytes)

-- one that tells of these hosts
abbrev pub frame_with : ℕ → List (List ℕ) → List ℕ
frame_with kind hosts = hosts_frame kind (length hosts) (flat_map host_bytes hosts)

-- one that tells of a change
abbrev pub change_frame : List ℕ → Bool → List ℕ
change_frame host is_reached = frame_of (if is_reached then kind_reached else kind_left) (host_bytes host)

-- behind hosts of so many bytes a notice has room for one more
abbrev pub has_room : ℕ → List ℕ → Bool
has_room taken host = nat_le (taken + length (host_bytes host)) most_host_bytes

-- the notices that tell of these and then of those: each has as many as it has room for, and the last alone says that there are no others
unfoldable pub frames_from : List (List ℕ) → List (List ℕ) → List (List ℕ)
frames_from told [] = frame_with kind_all told ∷ []
frames_from told (host ∷ hosts) =
    if has_room (length (flat_map host_bytes told)) host then frames_from (told ++ host ∷ []) hosts
    else frame_with kind_part told ∷ frames_from (host ∷ []) hosts

-- the notices that tell of all hosts
unfoldable pub frames_of : List (List ℕ) → List (List ℕ)
frames_of hosts = frames_from [] hosts

-- ---- how they are read: what stands at the front and what is behind it, or none

-- what was read decides what is read of the rest
abbrev pub go_on : {A B : Type 0} → Option (A × List ℕ) → (A → List ℕ → Option B) → Option B
go_on None f = None
go_on (Some x) f = f x.0 x.1

-- it, with what is behind it
abbrev pub before : {A : Type 0} → List ℕ → Option A → Option (A × List ℕ)
before rest None = None
before rest (Some x) = Some (x, rest)

-- it, where nothing is behind it
abbrev pub alone : {A : Type 0} → A → List ℕ → Option A
alone x [] = Some x
alone x (b ∷ bs) = None

-- so many bytes
unfoldable pub bytes_at : ℕ → List ℕ → Option (List ℕ × List ℕ)
bytes_at n bytes = if nat_lt (length bytes) n then None else Some (take n bytes, drop n bytes)

-- a number of two bytes
unfoldable pub short_at : List ℕ → Option (ℕ × List ℕ)
short_at bytes = if nat_lt (length bytes) 2 then None else Some (from_be_bytes w16 (take 2 bytes), drop 2 bytes)

-- a host
unfoldable pub host_at : List ℕ → Option (List ℕ × List ℕ)
host_at bytes = go_on (short_at bytes) (λ n named. go_on (bytes_at n named) (λ name rest. before rest (one_to identity_limit name)))

-- so many hosts
unfoldable pub many_at : ℕ → List ℕ → Option (List (List ℕ) × List ℕ)
many_at zero bytes = Some ([], bytes)
many_at (suc n) bytes = go_on (host_at bytes) (λ host more. go_on (many_at n more) (λ hosts rest. Some (host ∷ hosts, rest)))

-- these hosts and those, ascending; none where one of those stands there already
abbrev pub with_each : List (List ℕ) → List (List ℕ) → Option (List (List ℕ))
with_each hosts [] = Some hosts
with_each hosts (host ∷ more) = if is_among host hosts then None else with_each (insert_key text_cmp hosts host) more

-- so many hosts, each of which stands there once
abbrev pub each_at : ℕ → List ℕ → Option (List (List ℕ) × List ℕ)
each_at n bytes = go_on (many_at n bytes) (λ hosts rest. before rest (with_each [] hosts))

-- hosts: how many they are, and these
unfoldable pub hosts_at : List ℕ → Option (List (List ℕ) × List ℕ)
hosts_at bytes = go_on (short_at bytes) each_at

-- what a kind says
unfoldable pub told_at : ℕ → List ℕ → Option (NoticeValue × List ℕ)
told_at kind bytes =
    if kind == kind_all then go_on (hosts_at bytes) (λ hosts rest. Some (TellsAll hosts, rest))
    else if kind == kind_part then go_on (hosts_at bytes) (λ hosts rest. Some (TellsPart hosts, rest))
    else if kind == kind_reached then go_on (host_at bytes) (λ host rest. Some (TellsReached host, rest))
    else if kind == kind_left then go_on (host_at bytes) (λ host rest. Some (TellsLeft host, rest))
    else None

-- what stands behind the front of a notice
unfoldable pub notice_of : List ℕ → Option NoticeValue
notice_of [] = None
notice_of (kind ∷ bytes) = go_on (told_at kind bytes) alone

-- how many bytes the front of a notice says are behind it; none where it is no front of one
unfoldable pub said_bytes : List ℕ → Option ℕ
said_bytes front =
    let said = from_be_bytes w32 (take length_width front) in
    if (get_or front length_width 0 == notice_mark) && nat_le 1 said && nat_le said most_said then Some (said - 1) else None

-- a notice: what is behind its front
unfoldable pub frame_at : List ℕ → Option (List ℕ × List ℕ)
frame_at bytes = go_on (bytes_at front_width bytes) (λ front more. go_on (before more (said_bytes front)) bytes_at)

-- ---- how parts are joined

-- none of those is among these
abbrev pub are_new : List (List ℕ) → List (List ℕ) → Bool
are_new kept hosts = not (list_any (λ host. is_among host kept) hosts)

-- these hosts and those, ascending
abbrev pub with_all_of : List (List ℕ) → List (List ℕ) → List (List ℕ)
with_all_of kept [] = kept
with_all_of kept (host ∷ hosts) = with_all_of (insert_key text_cmp kept host) hosts

-- what parts told and what the next one tells, where both together tell of no host twice, and of no more hosts than they may
abbrev pub together : List (List ℕ) → List (List ℕ) → Option (List (List ℕ))
together kept hosts = if nat_le (length kept + length hosts) most_hosts && are_new kept hosts then Some (with_all_of kept hosts) else None

-- the hosts of parts whose last notice isn't there yet
abbrev pub Kept : Type 0
Kept = Option (List (List ℕ))

-- the same, without where they lie in memory
abbrev pub kept_hosts : Option (BTreeSet (List ℕ)) → Kept
kept_hosts = option_map (λ hosts. hosts.keys)

-- What is kept behind a notice, and what it tells with those before it, if others need not come first. None where it may not come there.
unfoldable pub joined : Kept → NoticeValue → Option (Kept × Option NoticeValue)
joined None (TellsPart hosts) = Some (Some hosts, None)
joined None (TellsAll hosts) = Some (None, Some (TellsAll hosts))
joined None (TellsReached host) = Some (None, Some (TellsReached host))
joined None (TellsLeft host) = Some (None, Some (TellsLeft host))
joined (Some kept) (TellsPart hosts) = option_map (λ all. (Some all, None)) (together kept hosts)
joined (Some kept) (TellsAll hosts) = option_map (λ all. (None, Some (TellsAll all))) (together kept hosts)
joined (Some kept) (TellsReached host) = None
joined (Some kept) (TellsLeft host) = None

-- ---- what is heard of a stream of notices

-- what was heard, and what is kept behind that
abbrev pub Heard : Type 0
Heard = List NoticeValue × Kept

-- this is heard first, if it is there
abbrev pub hear_first : Option NoticeValue → Option Heard → Option Heard
hear_first n None = None
hear_first None (Some heard) = Some heard
hear_first (Some n) (Some heard) = Some (n ∷ heard.0, heard.1)

-- what comes of a notice decides what is heard of the rest
abbrev pub hear_on : Option (Kept × Option NoticeValue) → (Kept → Option Heard) → Option Heard
hear_on None f = None
hear_on (Some x) f = hear_first x.1 (f x.0)

-- what comes of what stands behind a front
abbrev pub taken : Kept → Option NoticeValue → Option (Kept × Option NoticeValue)
taken kept None = None
taken kept (Some n) = joined kept n

-- what is heard of a stream of so many notices at most; none where one is refused or isn't whole, or more of them come
unfoldable pub heard_within : ℕ → Kept → List ℕ → Option Heard
heard_within n kept [] = Some ([], kept)
heard_within zero kept (b ∷ bs) = None
heard_within (suc n) kept (b ∷ bs) = go_on (frame_at (b ∷ bs)) (λ said rest. hear_on (taken kept (notice_of said)) (λ next. heard_within n next rest))
