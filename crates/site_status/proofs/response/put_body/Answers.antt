use Rattle.std.specs.Prelude.{codes, decimal, length}
use Rattle.site_status.specs.Response.{body_text}
use Rattle.site_status.proofs.Pieces.{four_pieces}
use Rattle.site_status.proofs.response.put_body.Goals as goal

pub returns : goal.returns
unfolding body_text
returns c =
    rw (
      c.in_ok-extend_from_slice-4.ensures.items,
      c.in_ok-extend_from_slice-3.ensures.items,
      c.in_ok-extend_from_slice-2.ensures.items,
      c.in_ok-extend_from_slice.ensures.items,
      c.as_bytes.ensures.value,
      c.format.ensures.text,
    )
    (four_pieces c.args.out.now.items (codes "\r\nConnection: close\r\nContent-Length: ") (decimal (length c.args.body.now))
    (codes "\r\n\r\n") c.args.body.now)
