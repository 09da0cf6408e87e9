use Rattle.std.proofs.lemmas.Bool.Decides.{Decides-eqb}
use Rattle.std.proofs.lemmas.Slice.Eq.{strip_prefix_is}
use Rattle.site_status.proofs.Options.{some_of, none_of}
use Rattle.site_status.proofs.pages.behind.Goals as goal

pub returns : goal.returns
returns c =
    let is = strip_prefix_is Decides-eqb c.args.path.now c.args.beginning.now c.strip_prefix.result c.strip_prefix.ensures.cases in
    record { found = some_of c.strip_prefix.result _ _ is; none = none_of c.strip_prefix.result _ _ is }
