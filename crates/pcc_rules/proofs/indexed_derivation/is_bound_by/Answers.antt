use Rattle.std.proofs.Common.{ap, ◌∙◌, Option, false, option_map, unwrap_or}
use Rattle.std.specs.Ordering.{is_eq}
use Rattle.pcrf_model.specs.Sessions.{Session, session_cmp, gx}
use Rattle.pcc_rules.proofs.indexed_derivation.is_bound_by.Goals as goal

pub returns-in-Some : goal.returns-in-Some
returns-in-Some c = λ all.
    c.is_eq.ensures
    ∙ ap is_eq c.cmp.ensures
    ∙ ap (λ (o : Option Session). unwrap_or (option_map (λ x. is_eq (session_cmp x (gx c.args.session.now))) o) false) (c.in-Some.ensures all)

pub returns-in-None : goal.returns-in-None
returns-in-None c = λ all.
    ap (λ (o : Option Session). unwrap_or (option_map (λ x. is_eq (session_cmp x (gx c.args.session.now))) o) false) (c.in-None.ensures all)
