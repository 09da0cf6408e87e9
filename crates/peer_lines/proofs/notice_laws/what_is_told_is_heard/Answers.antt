use Rattle.peer_lines.proofs.Notices.{what_is_told}
use Rattle.peer_lines.proofs.notice_laws.what_is_told_is_heard.Goals as goal

pub returns : goal.returns
returns c = what_is_told
