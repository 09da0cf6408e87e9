use Rattle.std.proofs.Common.{◌≡◌, ◌++◌}
use Rattle.dia_codec.specs.Drafts.{keyed_avp}
use Rattle.dia_codec.specs.Written.{word_bytes, written_avp}
use Rattle.dia_codec.proofs.Drafts.{behind, adds_one}
use Rattle.dia_codec.proofs.writing.MessageWriter.value.Goals as goal

pub returns-clause-added : goal.returns-clause-added
returns-clause-added c =
    let b = behind c.self.inside.bytes.items c.put_value.new.out.items (written_avp (keyed_avp c.args.key c.args.mandatory c.args.value.now)) c.self.invariant c.in_ok-put_value.ensures.written in
    adds_one (keyed_avp c.args.key c.args.mandatory c.args.value.now) c.args.self.now _ (cc)
