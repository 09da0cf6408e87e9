use Rattle.std.proofs.Common.{List, ℕ, subst, sym, ◌∙◌}
use Rattle.std.specs.Io.KnownBytes.{Consumes}
use Rattle.peer_lines.proofs.Bytes.{same_true}
use Rattle.peer_lines.proofs.sealed.proving.read_proof.Goals as goal

pub returns-clause-read : goal.returns-clause-read
returns-clause-read g c =
    subst (λ (l : List ℕ). Consumes (g.R.Read.remaining c.args.reader.now) (g.R.Read.remaining c.read_whole.new.reader) l)
    (same_true c.read_whole.new.bytes c.args.proof.now (sym c.are_same.ensures ∙ c.if-not-are_same.false)) c.in_ok-read_whole.ensures.bytes
