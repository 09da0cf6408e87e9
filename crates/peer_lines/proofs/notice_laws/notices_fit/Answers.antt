use Rattle.peer_lines.proofs.Notices.{notices_fit}
use Rattle.peer_lines.proofs.notice_laws.notices_fit.Goals as goal

pub returns : goal.returns
returns c = notices_fit
