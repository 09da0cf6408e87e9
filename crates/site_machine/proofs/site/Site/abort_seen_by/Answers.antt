use Rattle.std.proofs.Common.{rules, ◌≡◌, ℕ, true, [], ◌∷◌, Some, ap, sym, ◌∙◌, option_map, arith}
use Rattle.std.specs.Option.{option_copied}
use Rattle.pcrf_values.specs.Limits.{session_id_limit}
use Rattle.pcrf_values.specs.Facts as facts
use Rattle.pcrf_model.specs.Forms.{is_text}
use Rattle.pcrf_model.specs.Aborting.{lacks_counter_to_abort}
use Rattle.pcrf_model.specs.Replies.{Outcome}
use Rattle.rx_profile.specs.Aborts.{abort_view}
use Rattle.site_machine.specs.Facts.{operation_on_call}
use Rattle.site_machine.specs.Sites.{SiteValue, abort_outcome_at, with_made}
use Rattle.site_machine.proofs.Aborts.{nothing_is, nothing_lacks, something_is, something_lacks}
use Rattle.site_machine.proofs.Shown.{abort_in}
use Rattle.site_machine.proofs.Formed.{stamped, aborted_formed}
use Rattle.site_machine.proofs.site.Site.abort_seen_by.Goals as goal

pub returns-in_default-found-clause-abort : goal.returns-in_default-found-clause-abort
returns-in_default-found-clause-abort g c =
    let s = c.next_abort.new.self in
    let shown = sym (ap abort_in c.in-Ok-Aborted.field-0-is) ∙ ap abort_in c.in-Ok-Aborted.ensures.reply in
    let name = option_copied c.args.host in
    let none = sym (ap (option_map abort_view) c.in_default-found.is) ∙ ap (option_map abort_view) shown ∙ c.in-Ok.ensures.abort in
    sym (ap (λ (o : Outcome). o.reply) (nothing_is s name none)) ∙ ap (λ (x : SiteValue). (abort_outcome_at x name).reply) c.in-Ok.ensures.same

pub returns-in_default-found-clause-ok : goal.returns-in_default-found-clause-ok
returns-in_default-found-clause-ok g c =
    let s = c.next_abort.new.self in
    let shown = sym (ap abort_in c.in-Ok-Aborted.field-0-is) ∙ ap abort_in c.in-Ok-Aborted.ensures.reply in
    let name = option_copied c.args.host in
    let none = sym (ap (option_map abort_view) c.in_default-found.is) ∙ ap (option_map abort_view) shown ∙ c.in-Ok.ensures.abort in
    sym (ap (λ (o : Outcome). with_made s o.added) (nothing_is s name none))
    ∙ ap (λ (x : SiteValue). with_made x (abort_outcome_at x name).added) c.in-Ok.ensures.same

pub returns-in_default-found-clause-room : goal.returns-in_default-found-clause-room
returns-in_default-found-clause-room g c =
    let s = c.next_abort.new.self in
    let shown = sym (ap abort_in c.in-Ok-Aborted.field-0-is) ∙ ap abort_in c.in-Ok-Aborted.ensures.reply in
    let name = option_copied c.args.host in
    ap (λ (x : SiteValue). lacks_counter_to_abort x.number x.state.holding name) (sym c.in-Ok.ensures.same)
    ∙ nothing_lacks s name (sym (ap (option_map abort_view) c.in_default-found.is) ∙ ap (option_map abort_view) shown ∙ c.in-Ok.ensures.abort)

pub returns-in_default-next_counter-clause-full : goal.returns-in_default-next_counter-clause-full
returns-in_default-next_counter-clause-full g c =
    let s = c.next_abort.new.self in
    let shown = sym (ap abort_in c.in-Ok-Aborted.field-0-is) ∙ ap abort_in c.in-Ok-Aborted.ensures.reply in
    let name = option_copied c.args.host in
    let some = sym (ap (option_map abort_view) c.in-Some.is) ∙ ap (option_map abort_view) shown ∙ c.in-Ok.ensures.abort in
    λ _. ap (λ (x : SiteValue). lacks_counter_to_abort x.number x.state.holding name) (sym c.in-Ok.ensures.same)
    ∙ something_lacks s name (abort_view c.in-Some.abort) some ∙ c.next_counter.ensures.full c.in_default-next_counter.is

pub returns-clause-abort : goal.returns-clause-abort
returns-clause-abort g c =
    let s = c.next_abort.new.self in
    let shown = sym (ap abort_in c.in-Ok-Aborted.field-0-is) ∙ ap abort_in c.in-Ok-Aborted.ensures.reply in
    let name = option_copied c.args.host in
    let some = sym (ap (option_map abort_view) c.in-Some.is) ∙ ap (option_map abort_view) shown ∙ c.in-Ok.ensures.abort in
    sym (ap (λ (o : Outcome). o.reply) (something_is s name (abort_view c.in-Some.abort) some)) ∙ ap (λ (x : SiteValue). (abort_outcome_at x name).reply) c.in-Ok.ensures.same

pub returns-clause-ok : goal.returns-clause-ok
returns-clause-ok g c =
    let s = c.next_abort.new.self in
    let shown = sym (ap abort_in c.in-Ok-Aborted.field-0-is) ∙ ap abort_in c.in-Ok-Aborted.ensures.reply in
    let p = abort_view c.in-Some.abort in
    let name = option_copied c.args.host in
    let some = sym (ap (option_map abort_view) c.in-Some.is) ∙ ap (option_map abort_view) shown ∙ c.in-Ok.ensures.abort in
    let told : c.add_abort.new.self ≡ with_made s (Some (operation_on_call s.number c.in-Some-next_counter.counter p.session (facts.Aborted ∷ []))) = search rules in
    told
    ∙ ap (λ (n : ℕ). with_made s (Some (operation_on_call s.number n p.session (facts.Aborted ∷ [])))) c.in-Some-next_counter.ensures.some
    ∙ sym (ap (λ (o : Outcome). with_made s o.added) (something_is s name p some))
    ∙ ap (λ (x : SiteValue). with_made x (abort_outcome_at x name).added) c.in-Ok.ensures.same

pub returns-clause-room : goal.returns-clause-room
returns-clause-room g c =
    let s = c.next_abort.new.self in
    let shown = sym (ap abort_in c.in-Ok-Aborted.field-0-is) ∙ ap abort_in c.in-Ok-Aborted.ensures.reply in
    let name = option_copied c.args.host in
    let some = sym (ap (option_map abort_view) c.in-Some.is) ∙ ap (option_map abort_view) shown ∙ c.in-Ok.ensures.abort in
    ap (λ (x : SiteValue). lacks_counter_to_abort x.number x.state.holding name) (sym c.in-Ok.ensures.same)
    ∙ something_lacks s name (abort_view c.in-Some.abort) some ∙ c.in-Some-next_counter.ensures.open

pub add_abort-requires-clause-formed : goal.add_abort-requires-clause-formed
add_abort-requires-clause-formed g c =
    let s = c.next_abort.new.self in
    let p = abort_view c.in-Some.abort in
    let n = c.in-Some-next_counter.counter in
    let next = c.in-Some-next_counter.ensures.some in
    let text : is_text session_id_limit p.session ≡ true = rw c.id.ensures at c.note_text.ensures in
    aborted_formed n s.number p.session (stamped n s.number (omega (arith, next)) c.in-Some-next_counter.ensures.within c.note_number.ensures) text
