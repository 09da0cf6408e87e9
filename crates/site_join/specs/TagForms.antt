-- The forms that tags of facts may have, one by one.
use Rattle.std.specs.Prelude.{ℕ, Bool, ◌&&◌, ◌==◌, nat_le, nat_lt}
use Rattle.std.specs.Ordering.{is_eq}
use Rattle.pcrf_values.specs.declared.tag.Tag.{Tag}
use Rattle.pcrf_values.specs.Tags.{tag_cmp}
use Rattle.pcrf_values.specs.Limits.{site_limit}
use Rattle.pcrf_values.specs.Facts.{Fact}
use Rattle.pcrf_model.specs.Sessions.{Kind}
use Rattle.pcrf_model.specs.Forms.{is_counted, is_numbered, is_stamp, is_tagged, is_unsigned}
use Rattle.site_join.specs.declared.tag_form.TagForm.{TagForm}
use Rattle.site_join.specs.declared.tag_form.TagForm.TheVariants.{Made, Recorded, Counted}

-- the number that stands in the tag of a field of a gateway's session
abbrev pub number_by : TagForm → Tag → ℕ
number_by (Made m) t = m.number
number_by Recorded t = t.number
number_by (Counted clock) t = t.number

-- the tag is of the form, with that number in it
abbrev pub admits : TagForm → ℕ → Tag → Bool
admits (Made m) n t = is_eq (tag_cmp t (record { number = n; counter = m.counter; site = m.site }))
admits Recorded n t = nat_le 1 t.counter && nat_lt t.site site_limit && is_unsigned t.number && t.number == n
admits (Counted clock) n t = is_stamp t.counter t.site && nat_le t.counter clock && is_unsigned t.number && t.number == n

-- the fact's tag is of the form
abbrev pub has_tag : TagForm → Kind → Fact → Bool
has_tag (Made m) k f = is_tagged k m.counter m.site m.number f
has_tag Recorded k f = is_numbered k f
has_tag (Counted clock) k f = is_counted k clock f
