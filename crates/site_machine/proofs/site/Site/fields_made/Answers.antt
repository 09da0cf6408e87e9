use Rattle.std.proofs.Common.{◌≡◌, map, ap, ◌∙◌}
use Rattle.pcrf_model.specs.Sessions.{gx}
use Rattle.pcrf_model.specs.Forms.{is_operation}
use Rattle.gx_records.specs.GxFacts.{fact_of}
use Rattle.gx_profile.specs.Requests.{ccr_view}
use Rattle.site_machine.specs.Gateway.{made_facts}
use Rattle.site_machine.specs.Sites.{SiteValue}
use Rattle.site_machine.proofs.Formed.{stamped, made_formed}
use Rattle.site_machine.proofs.site.Site.fields_made.Goals as goal

pub with_stamp-requires : goal.with_stamp-requires
with_stamp-requires c =
    let s = c.args.self.now in
    let q = ccr_view c.args.ccr.now in
    let number = ap (λ (x : SiteValue). x.number) c.self.view_is in
    let facts : map fact_of c.in_ok-facts.facts.items ≡ made_facts q q.kind (record { number = q.number; counter = c.args.counter; site = s.number }) = c.in_ok-facts.ensures ∙ ap (made_facts q q.kind) c.tag.ensures in
    (λ i. is_operation (record { counter = c.args.counter; site = number i; number = q.number; session = gx (c.in_ok-session.ensures i); facts = facts i }))
    ∙ made_formed c.args.counter s.number q (stamped c.args.counter s.number c.requires.first c.requires.within c.note_number.ensures) c.note_ccr.ensures
