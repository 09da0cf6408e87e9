use denote.Param.Send.{param_send}
use Rattle.pcrf_prog.proofs.staying.serving.fn.serve_shared.scope.Goals as goal

pub stay-requires-send-R : goal.stay-requires-send-R
stay-requires-send-R g c κs within = param_send 4 _ c.requires.1.1.1.1.1.1.1.0

pub stay-requires-send-W : goal.stay-requires-send-W
stay-requires-send-W g c κs within = param_send 5 _ c.requires.1.1.1.1.1.1.1.1

pub stay-requires-send-K : goal.stay-requires-send-K
stay-requires-send-K g c κs within = param_send 6 _ c.requires.1.1.1.1.1.1.1.2

pub stay-requires-send-S-Seat : goal.stay-requires-send-S-Seat
stay-requires-send-S-Seat g c κs within = param_send 7 _ c.requires.1.1.1.1.1.1.1.3
