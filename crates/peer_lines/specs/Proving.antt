-- How both ends of a link prove that they have one secret before anything else: a greeting each, with a challenge, and a code each over both greetings.
use Rattle.std.specs.Prelude.{◌≡◌, ℕ, List, [], ◌∷◌, ◌++◌}
use Rattle.peer_lines.specs.Hmac.{block_of, code_under}
use Rattle.peer_lines.specs.Records.{side_byte}
use Rattle.peer_lines.specs.declared.sealed.proving.Greeting.{Greeting}
use Rattle.peer_lines.specs.declared.sealed.proving.Greetings.{Greetings}
use Rattle.peer_lines.specs.declared.sealed.course.Side.{Side}
use Rattle.peer_lines.specs.declared.sealed.course.Side.TheVariants.{Dialler, Listener}

-- what a greeting begins with: "pcr", and the version 1
abbrev pub mark : List ℕ
mark = 0x70 ∷ 0x63 ∷ 0x72 ∷ 0x01 ∷ []

-- a greeting as bytes
abbrev pub greeting_bytes : Greeting → List ℕ
greeting_bytes g = mark ++ (g.site ∷ [] ++ g.challenge)

-- what is coded: what for, both sites and both challenges, the dialler's first
abbrev pub proved_bytes : ℕ → Greeting → Greeting → List ℕ
proved_bytes aim dialler listener = (aim ∷ dialler.site ∷ listener.site ∷ []) ++ dialler.challenge ++ listener.challenge

-- the proof of a side under a secret
abbrev pub proof_of : List ℕ → Side → Greeting → Greeting → List ℕ
proof_of secret side dialler listener = code_under secret (proved_bytes (side_byte side) dialler listener)

-- the key of the link's records, as a block
abbrev pub link_key : List ℕ → Greeting → Greeting → List ℕ
link_key secret dialler listener = block_of (code_under secret (proved_bytes 3 dialler listener))

-- the site whose end is at the other side of a link, which proved that it has the secret
abbrev pub site_beside : Side → Greetings → ℕ
site_beside Dialler both = both.listener.site
site_beside Listener both = both.dialler.site
