use Rattle.std.specs.Prelude.{codes, decimal, length}
use Rattle.site_status.specs.Response.{head_text, status_text, allow_text}
use Rattle.site_status.proofs.Pieces.{four_pieces}
use Rattle.site_status.proofs.response.put_status.Goals as goal

pub returns : goal.returns
unfolding head_text
returns c =
    rw (
      c.in_ok-extend_from_slice-4.ensures.items,
      c.in_ok-extend_from_slice-3.ensures.items,
      c.in_ok-extend_from_slice-2.ensures.items,
      c.in_ok-extend_from_slice.ensures.items,
      c.allow.ensures,
      c.line.ensures,
    )
    (four_pieces c.args.out.now.items (codes "HTTP/1.1 ") (status_text c.args.status)
    (codes "\r\n") (allow_text c.args.status))
