use Rattle.std.proofs.Common.{◌≡◌, ◌≤◌, take}
use Rattle.std.specs.List.{sum_by}
use Rattle.dia_codec.specs.Spelling.{avp_views}
use Rattle.dia_codec.specs.Limits.{longest_message}
use Rattle.dia_codec.specs.Written.{padded_len}
use Rattle.dia_codec.proofs.writing.avps_len.Given as goal

abbrev pub invariant-loop-avp : goal.invariant-loop-avp
invariant-loop-avp l = record { so_far : l.length ≡ sum_by padded_len (avp_views (take l.avp-index l.avps)); short : l.length ≤ longest_message }
