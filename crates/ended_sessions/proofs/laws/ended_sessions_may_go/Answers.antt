use Rattle.ended_sessions.proofs.Alike.{lacking_reads_alike, leaves_the_live}
use Rattle.ended_sessions.proofs.laws.ended_sessions_may_go.Goals as goal

pub returns : goal.returns
returns c = record { one = leaves_the_live; all = lacking_reads_alike }
