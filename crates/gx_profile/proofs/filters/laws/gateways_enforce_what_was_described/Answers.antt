use Rattle.gx_profile.proofs.Exchanging.{texts_come_back, enforced_as_described}
use Rattle.gx_profile.proofs.filters.laws.gateways_enforce_what_was_described.Goals as goal

pub returns-clause-inverse : goal.returns-clause-inverse
returns-clause-inverse c = texts_come_back

pub returns-clause-described : goal.returns-clause-described
returns-clause-described c = enforced_as_described
