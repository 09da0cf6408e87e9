-- By which names a site answers: this project's own.
use Rattle.std.specs.Prelude.{ℕ, List, [], ◌∷◌, ◌++◌, None, codes}
use Rattle.std.specs.Fmt.{decimal}
use Rattle.std.specs.declared.net.ipv4_addr.Ipv4Addr.{Ipv4Addr}
use Rattle.dia_base.specs.declared.form.MessageForm.TheVariants.{Own}
use Rattle.dia_base.specs.declared.identity.Identity.{Identity}

-- the Origin-Host: `s` and the number in decimal
abbrev pub host_text : ℕ → List ℕ
host_text number = codes "s" ++ decimal number

-- 127.0.0.1, the machine itself (RFC 1122, 3.2.1.3)
abbrev pub loopback : Ipv4Addr
loopback = record { octets = 127 ∷ 0 ∷ 0 ∷ 1 ∷ [] }

-- with the Origin-Realm `r`
abbrev pub identity_of : ℕ → Identity
identity_of number = record { host = host_text number; realm = codes "r"; address = loopback; form = Own; state = None }
