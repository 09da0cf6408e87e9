use Rattle.std.proofs.Common.{◌≡◌, Option, false, unwrap_or, codes, ◌∙◌, sym, ap}
use Rattle.std.proofs.lemmas.Result.{err_from_is_err_and}
use Rattle.toml.specs.Data.{Members, no_members}
use Rattle.toml.specs.View.{view, table_view}
use Rattle.op_tables.specs.declared.place.TableKey.TheVariants as key
use Rattle.op_tables.specs.Places.{number_32, class_keys}
use Rattle.op_tables.specs.Values.{number_at}
use Rattle.op_tables.specs.Meaning.{media_type, is_media_taken}
use Rattle.op_tables.proofs.Faults.{is_placed, rest_of_row}
use Rattle.op_tables.proofs.media.add_media.Goals as goal

pub returns-in_err-class-clause-refused : goal.returns-in_err-class-clause-refused
returns-in_err-class-clause-refused c =
    let p = err_from_is_err_and c.from_residual-in_err-class.result c.from_residual-in_err-class.ensures.1 in
    let kind_is : media_type (view c.args.row.now) ≡ c.in_ok-kind.kind =
    ap (λ (t : Option Members). number_at (codes "type") (unwrap_or t no_members)) c.in_ok-table.ensures.read ∙ c.in_ok-kind.ensures.read in
    let new : is_media_taken c.args.media.now.entries (view c.args.row.now) ≡ false = rw kind_is (sym c.contains_key.ensures ∙ c.if-contains_key.false) in
    let rest = rest_of_row key.MediaType number_32 class_keys _ (view c.args.row.now) (table_view c.in_ok-table.table.now) c.in_ok-table.ensures.read c.in_ok-kind.ensures.judged new in
    rw (p.1, p.2) (is_placed _ _ (rest ∙ c.in_err-class.ensures.refused))

pub returns-clause-judged : goal.returns-clause-judged
returns-clause-judged c =
    let kind_is : media_type (view c.args.row.now) ≡ c.in_ok-kind.kind =
    ap (λ (t : Option Members). number_at (codes "type") (unwrap_or t no_members)) c.in_ok-table.ensures.read ∙ c.in_ok-kind.ensures.read in
    let new : is_media_taken c.args.media.now.entries (view c.args.row.now) ≡ false = rw kind_is (sym c.contains_key.ensures ∙ c.if-contains_key.false) in
    rest_of_row key.MediaType number_32 class_keys _ (view c.args.row.now) (table_view c.in_ok-table.table.now) c.in_ok-table.ensures.read c.in_ok-kind.ensures.judged new
    ∙ c.in_ok-class.ensures.judged
