use Rattle.std.proofs.Common.{◌≡◌, ◌++◌}
use Rattle.dia_codec.specs.Drafts.{keyed_avp}
use Rattle.dia_codec.specs.Written.{word_bytes, written_avp}
use Rattle.dia_codec.proofs.Drafts.{behind, adds_one}
use Rattle.dia_codec.proofs.writing.MessageWriter.number.Goals as goal

pub returns-clause-added : goal.returns-clause-added
returns-clause-added c =
    let b = behind c.self.inside.bytes.items c.put_number.new.out.items (written_avp (keyed_avp c.args.key c.args.mandatory (word_bytes c.args.number))) c.self.invariant c.in_ok-put_number.ensures.written in
    adds_one (keyed_avp c.args.key c.args.mandatory (word_bytes c.args.number)) c.args.self.now _ (cc)
