use Rattle.pcrf_model.proofs.HistoryLaws.{compose, keep}
use Rattle.pcrf_model.proofs.laws.histories_compose.Goals as goal

pub returns : goal.returns
returns c = record { one = compose; kept = keep }
