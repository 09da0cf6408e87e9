use Rattle.std.proofs.Common.{◌≡◌, true, Some, refl, sym, ap, ◌∙◌, subst}
use Rattle.std.proofs.lemmas.Result.{on_ok_weaker}
use Rattle.pcrf_values.specs.Held.{kept_list}
use Rattle.pcrf_model.specs.Forms.{are_up_to}
use Rattle.pcrf_model.specs.Holdings.{with_facts_of}
use Rattle.pcrf_model.specs.Sessions.{gx}
use Rattle.gx_profile.specs.Requests.{ccr_view}
use Rattle.site_join.specs.States.{record_facts}
use Rattle.indexed_state.specs.Indexed.{IndexedValue}
use Rattle.site_machine.specs.Facts.{fields_of, operation_made}
use Rattle.site_machine.specs.Sites.{SiteValue, with_one, with_record}
use Rattle.site_machine.proofs.PlacedRecord.{put_is_made, put_up_to}
use Rattle.site_machine.proofs.site.Site.set_fields.Goals as goal

pub put_gx-requires-clause-counted : goal.put_gx-requires-clause-counted
put_gx-requires-clause-counted c =
    let s = c.args.self.now in
    let q = ccr_view c.args.ccr.now in
    let fields = fields_of s.number c.args.counter q q.kind in
    subst (λ (x : SiteValue). are_up_to c.args.counter (with_facts_of x.state.holding (gx q.session) (record_facts (Some c.args.known)) c.args.counter).facts ≡ true) (sym c.self.view_is)
    (put_up_to s q c.args.counter c.requires.within c.requires.next c.note_number.ensures c.note_ccr.ensures c.note_kept.ensures fields (kept_list fields) c.args.known
    refl refl c.requires.joins c.note_form.ensures)

pub returns-clause-ok : goal.returns-clause-ok
returns-clause-ok c =
    let s = c.args.self.now in
    let q = ccr_view c.args.ccr.now in
    let both = record_facts (Some c.args.known) in
    let fields = fields_of s.number c.args.counter q q.kind in
    let seen : IndexedValue → SiteValue = λ x. record {
      tables = x.tables;
      identity = c.self.inside.identity;
      number = c.self.inside.number;
      state = record { holding = x.holding; log = c.self.inside.log.items };
    } in
    let made = put_is_made s q c.args.counter c.requires.within c.requires.next c.note_number.ensures c.note_ccr.ensures c.note_kept.ensures fields (kept_list fields) c.args.known
    refl refl c.requires.joins in
    let taken : with_record s (gx q.session) both c.args.counter ≡ with_one s (operation_made s.number c.args.counter q q.kind) = λ i. record s { state = record { holding = made i; log = s.state.log } } in
    on_ok_weaker c.put_gx.result
    (λ placed. ap seen placed ∙ ap (λ (x : SiteValue). with_record x (gx q.session) both c.args.counter) c.self.view_is ∙ taken)
    c.put_gx.ensures.placed
