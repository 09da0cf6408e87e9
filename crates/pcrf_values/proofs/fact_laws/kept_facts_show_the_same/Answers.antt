use Rattle.pcrf_values.proofs.ShownLaws.{held_shows_the_same, members_show_the_same}
use Rattle.pcrf_values.proofs.fact_laws.kept_facts_show_the_same.Goals as goal

pub returns : goal.returns
returns c = record { held = held_shows_the_same; members = members_show_the_same }
