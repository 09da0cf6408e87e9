use Rattle.std.proofs.Common.{◌∙◌, drop}
use Rattle.std.specs.Prelude.{slice_index_or}
use Rattle.peer_exchange.proofs.FirstFour.{four_set, word_cells}
use Rattle.peer_exchange.proofs.writing.set_length.Goals as goal

pub returns : goal.returns
returns c =
    let bytes = c.to_be_bytes.result in
    four_set c.args.frame.now.items (slice_index_or bytes 0 0) (slice_index_or bytes 1 0) (slice_index_or bytes 2 0) (slice_index_or bytes 3 0) c.requires
    ∙ word_cells bytes c.args.count (drop 4 c.args.frame.now.items) c.to_be_bytes.ensures
