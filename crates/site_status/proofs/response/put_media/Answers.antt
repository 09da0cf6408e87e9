use Rattle.std.specs.Prelude.{codes}
use Rattle.site_status.specs.Response.{media_text, type_text}
use Rattle.site_status.proofs.Pieces.{four_pieces}
use Rattle.site_status.proofs.response.put_media.Goals as goal

pub returns : goal.returns
unfolding type_text
returns c =
    rw (
      c.in_ok-extend_from_slice-4.ensures.items,
      c.in_ok-extend_from_slice-3.ensures.items,
      c.in_ok-extend_from_slice-2.ensures.items,
      c.in_ok-extend_from_slice.ensures.items,
      c.kind.ensures,
    )
    (four_pieces c.args.out.now.items (codes "Content-Security-Policy: default-src 'self'\r\n") (codes "X-Content-Type-Options: nosniff\r\n")
    (codes "Content-Type: ") (media_text c.args.media))
