-- What messages that are kept are found by.
use Rattle.std.specs.Prelude.{ℕ, Bool, ◌&&◌, ◌==◌}
use Rattle.std.specs.Str.{bytes_eq}
use Rattle.watched_links.specs.declared.message.MessageKey.{MessageKey}

-- the same command, identifier, Session-Id, Origin-Host and host of the connection
abbrev pub same_key : MessageKey → MessageKey → Bool
same_key k l =
    (k.command == l.command)
    && ((k.number == l.number)
    && (bytes_eq k.session.items l.session.items && (bytes_eq k.host.items l.host.items && bytes_eq k.peer.items l.peer.items)))
