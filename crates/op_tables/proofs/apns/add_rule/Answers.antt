use Rattle.std.proofs.Common.{◌≡◌, Option, false, unwrap_or, codes, ◌∙◌, ap, rules}
use Rattle.std.proofs.lemmas.Result.{err_from_is_err_and}
use Rattle.toml.specs.Data.{Members, no_members}
use Rattle.toml.specs.View.{view, table_view}
use Rattle.op_tables.specs.declared.place.TableKey.TheVariants as key
use Rattle.op_tables.specs.Places.{rule_name_shape, rule_keys}
use Rattle.op_tables.specs.Values.{text_in, data_at}
use Rattle.op_tables.specs.Meaning.{rule_name, has_rule}
use Rattle.op_tables.proofs.Faults.{rest_of_row}
use Rattle.op_tables.proofs.apns.add_rule.Goals as goal

pub returns-in_err-body-clause-refused : goal.returns-in_err-body-clause-refused
returns-in_err-body-clause-refused c =
    let p = err_from_is_err_and c.from_residual-in_err-body.result c.from_residual-in_err-body.ensures.1 in
    let named : rule_name (view c.args.row.now) ≡ c.in_ok-name.name =
    ap (λ (t : Option Members). text_in (data_at (codes "name") (unwrap_or t no_members))) c.in_ok-table.ensures.read ∙ c.in_ok-name.ensures.read in
    let new : has_rule c.args.rules.now.items (rule_name (view c.args.row.now)) ≡ false =
    ap (has_rule c.args.rules.now.items) named ∙ search rules in
    let rest = rest_of_row key.Name rule_name_shape rule_keys _ (view c.args.row.now) (table_view c.in_ok-table.table.now) c.in_ok-table.ensures.read c.in_ok-name.ensures.judged new in
    rw (p.1, p.2, rest) c.in_err-body.ensures.refused
