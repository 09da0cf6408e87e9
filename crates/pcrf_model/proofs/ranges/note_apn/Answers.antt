use Rattle.std.proofs.Common.{◌≡◌, subst, true}
use Rattle.std.specs.List.{list_all}
use Rattle.pcrf_model.specs.Forms.{is_byte}
use Rattle.pcrf_model.proofs.RangeLaws.{apn_passes}
use Rattle.pcrf_model.proofs.ranges.note_apn.Goals as goal

pub returns : goal.returns
returns c =
    let name = c.as_slice.ensures in
    apn_passes c.args.apn.now name.not_empty name.within (subst (λ t. list_all is_byte t ≡ true) name.bytes c.note_bytes.ensures) name.small
