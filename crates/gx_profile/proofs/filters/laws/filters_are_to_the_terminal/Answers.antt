use Rattle.gx_profile.proofs.Exchanging.{are_of_the_downlink, grows_by_one}
use Rattle.gx_profile.proofs.filters.laws.filters_are_to_the_terminal.Goals as goal

pub returns-clause-begins : goal.returns-clause-begins
returns-clause-begins c = are_of_the_downlink

pub returns-clause-length : goal.returns-clause-length
returns-clause-length c = grows_by_one
