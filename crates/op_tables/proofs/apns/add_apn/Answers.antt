use Rattle.std.proofs.Common.{◌≡◌, Option, false, unwrap_or, codes, ◌∙◌, sym, ap}
use Rattle.std.proofs.lemmas.Result.{err_from_is_err_and}
use Rattle.pcrf_values.specs.Texts.{small_letters}
use Rattle.toml.specs.Data.{Members, no_members}
use Rattle.toml.specs.View.{view, table_view}
use Rattle.op_tables.specs.declared.place.TableKey.TheVariants as key
use Rattle.op_tables.specs.Places.{apn_name_shape, apn_keys}
use Rattle.op_tables.specs.Values.{text_in, data_at}
use Rattle.op_tables.specs.Meaning.{apn_of, apn_name, row_apn, is_apn_taken}
use Rattle.op_tables.proofs.Faults.{rest_of_row}
use Rattle.op_tables.proofs.apns.add_apn.Goals as goal

pub returns-in_err-point-clause-refused : goal.returns-in_err-point-clause-refused
returns-in_err-point-clause-refused c =
    let p = err_from_is_err_and c.from_residual-in_err-point.result c.from_residual-in_err-point.ensures.1 in
    let named : apn_name (view c.args.row.now) ≡ c.in_ok-name.name =
    ap (λ (t : Option Members). small_letters (text_in (data_at (codes "name") (unwrap_or t no_members)))) c.in_ok-table.ensures.read ∙ c.in_ok-name.ensures.read in
    let new : is_apn_taken c.args.apns.now.entries (view c.args.row.now) ≡ false = rw named (sym c.contains_key.ensures ∙ c.if-contains_key.false) in
    let rest = rest_of_row key.Name apn_name_shape apn_keys _ (view c.args.row.now) (table_view c.in_ok-table.table.now) c.in_ok-table.ensures.read c.in_ok-name.ensures.judged new in
    rw (p.1, p.2, rest) c.in_err-point.ensures.refused

pub returns-clause-judged : goal.returns-clause-judged
returns-clause-judged c =
    let named : apn_name (view c.args.row.now) ≡ c.in_ok-name.name =
    ap (λ (t : Option Members). small_letters (text_in (data_at (codes "name") (unwrap_or t no_members)))) c.in_ok-table.ensures.read ∙ c.in_ok-name.ensures.read in
    let new : is_apn_taken c.args.apns.now.entries (view c.args.row.now) ≡ false = rw named (sym c.contains_key.ensures ∙ c.if-contains_key.false) in
    rest_of_row key.Name apn_name_shape apn_keys _ (view c.args.row.now) (table_view c.in_ok-table.table.now) c.in_ok-table.ensures.read c.in_ok-name.ensures.judged new
    ∙ c.in_ok-point.ensures.judged

pub returns-clause-added : goal.returns-clause-added
returns-clause-added c =
    let named : apn_name (view c.args.row.now) ≡ c.in_ok-name.name =
    ap (λ (t : Option Members). small_letters (text_in (data_at (codes "name") (unwrap_or t no_members)))) c.in_ok-table.ensures.read ∙ c.in_ok-name.ensures.read in
    let pointed : row_apn (view c.args.row.now) ≡ c.in_ok-point.point =
    ap (λ (t : Option Members). apn_of (unwrap_or t no_members)) c.in_ok-table.ensures.read ∙ sym c.in_ok-point.ensures.read in
    rw (named, pointed) c.in_ok-insert.ensures.entries
