use Rattle.std.proofs.Common.{◌≡◌, ◌+◌, ℕ, List, [], ◌∷◌, ◌++◌, length, subst, sym, ◌∙◌}
use Rattle.std.specs.Io.KnownBytes.{Consumes}
use Rattle.std.proofs.KnownBytes.{Consumes-trans}
use Rattle.peer_lines.specs.Proving.{mark}
use Rattle.peer_lines.proofs.Bytes.{by_first, same_true}
use Rattle.peer_lines.proofs.sealed.proving.read_greeting.Goals as goal

pub returns-clause-read : goal.returns-clause-read
returns-clause-read g c =
    let first : c.read_whole.new.bytes ≡ mark = same_true _ _ (sym c.are_same.ensures ∙ c.if-not-are_same.false) in
    let long : length c.read_whole-2.new.bytes ≡ 32 + 1 = c.read_whole-2.auto.bytes in
    let rest = by_first c.read_whole-2.new.bytes c.copy_from_slice.new.self 32 long c.copy_from_slice.ensures.after in
    let all = Consumes-trans (g.R.Read.remaining c.args.reader.now) (g.R.Read.remaining c.read_whole.new.reader) (g.R.Read.remaining c.read_whole-2.new.reader)
    c.read_whole.new.bytes c.read_whole-2.new.bytes c.in_ok-read_whole.ensures.bytes c.in_ok-read_whole-2.ensures.bytes in
    subst (λ (l : List ℕ). Consumes (g.R.Read.remaining c.args.reader.now) (g.R.Read.remaining c.read_whole-2.new.reader) l) (λ i. first i ++ rest i) all
