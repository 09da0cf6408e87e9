use Rattle.std.proofs.Common.{rules, ◌<◌, sym}
use Rattle.std.specs.List.{sum_by}
use Rattle.dia_codec.specs.Limits.{longest_message}
use Rattle.dia_codec.specs.Spelling.{owned_views}
use Rattle.dia_codec.specs.Written.{padded_len}
use Rattle.dia_base.proofs.StandardSpelling.{no_room}
use Rattle.dia_base.proofs.standard.behind.put_behind.Goals as goal

pub returns-in-Err-TooLong : goal.returns-in-Err-TooLong
returns-in-Err-TooLong c =
    let long : longest_message < sum_by padded_len (owned_views c.args.avps.now) = search rules in
    sym (no_room c.args.bytes.items (owned_views c.args.avps.now) long)
