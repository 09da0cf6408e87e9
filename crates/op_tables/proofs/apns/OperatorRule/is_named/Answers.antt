use Rattle.std.proofs.Common.{◌≡◌, sym, ap}
use Rattle.std.proofs.lemmas.Map.Text.{is_eq-slice_cmp}
use Rattle.pcrf_model.specs.Tables.{OperatorRule}
use Rattle.op_tables.proofs.apns.OperatorRule.is_named.Goals as goal

pub returns : goal.returns
returns c =
    let named : c.args.self.now.name ≡ c.self.inside.name = sym (ap (λ (r : OperatorRule). r.name) c.self.view_is) in
    rw (c.eq.ensures, c.as_slice.ensures.items, c.text.ensures, c.as_slice-2.ensures.items, c.text-2.ensures, named) (sym (is_eq-slice_cmp c.args.name.now c.self.inside.name))
