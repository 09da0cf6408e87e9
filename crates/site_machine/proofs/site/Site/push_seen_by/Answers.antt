use Rattle.std.proofs.Common.{rules, ◌≡◌, ◌≤◌, ℕ, true, map, length, Some, Option, IfSome, ap, sym, ◌∙◌, subst, option_map, arith}
use Rattle.std.specs.Option.{option_copied}
use Rattle.pcrf_values.specs.Sets.{Distinct}
use Rattle.pcrf_values.specs.declared.tag.Tag.{Tag}
use Rattle.pcrf_values.specs.Limits.{session_id_limit, delta_limit}
use Rattle.pcrf_values.specs.RuleValues.{DeltaValue}
use Rattle.pcrf_model.specs.Forms.{is_text}
use Rattle.pcrf_model.specs.Making.{told_facts}
use Rattle.pcrf_model.proofs.DueLaws.{first_due}
use Rattle.pcrf_model.proofs.ServedForms.{told_some}
use Rattle.pcrf_model.specs.Sessions.{gx}
use Rattle.pcrf_model.specs.Views.{view}
use Rattle.pcrf_model.specs.Rules as session
use Rattle.pcrf_model.specs.Differences.{rule_name_of}
use Rattle.pcrf_model.specs.declared.push.PushOut.{PushOut}
use Rattle.pcrf_model.specs.Pushing.{lacks_counter}
use Rattle.pcrf_model.specs.Replies.{Outcome}
use Rattle.site_machine.specs.Sites.{SiteValue}
use Rattle.pcrf_model.specs.ReplyViews.{push_view}
use Rattle.site_machine.specs.Facts.{operation_pushed}
use Rattle.site_machine.specs.Left.{LacksTheRest}
use Rattle.site_machine.specs.Sites.{push_outcome_at, with_made}
use Rattle.site_machine.proofs.Pushes.{nothing_is, nothing_lacks, session_due, pushed_delta, something_is, something_lacks}
use Rattle.site_machine.proofs.Shown.{push_in}
use Rattle.site_machine.proofs.Formed.{stamped, entries_tell, pushed_formed}
use Rattle.site_machine.proofs.Left.{pushed_leaves}
use Rattle.site_machine.proofs.site.Site.push_seen_by.Goals as goal

pub returns-in_default-found-clause-push : goal.returns-in_default-found-clause-push
returns-in_default-found-clause-push g c =
    let s = c.next_push.new.self in
    let name = option_copied c.args.host in
    let shown = sym (ap push_in c.in-Ok-Pushed.field-0-is) ∙ ap push_in c.in-Ok-Pushed.ensures.reply in
    let seen = ap (option_map push_view) shown ∙ c.in-Ok.ensures.push in
    let same = c.in-Ok.ensures.same in
    let none = sym (ap (option_map push_view) c.in_default-found.is) ∙ seen in
    sym (ap (λ (o : Outcome). o.reply) (nothing_is s name none)) ∙ ap (λ (x : SiteValue). (push_outcome_at x name).reply) same

pub returns-in_default-found-clause-ok : goal.returns-in_default-found-clause-ok
returns-in_default-found-clause-ok g c =
    let s = c.next_push.new.self in
    let name = option_copied c.args.host in
    let shown = sym (ap push_in c.in-Ok-Pushed.field-0-is) ∙ ap push_in c.in-Ok-Pushed.ensures.reply in
    let seen = ap (option_map push_view) shown ∙ c.in-Ok.ensures.push in
    let same = c.in-Ok.ensures.same in
    let none = sym (ap (option_map push_view) c.in_default-found.is) ∙ seen in
    sym (ap (λ (o : Outcome). with_made s o.added) (nothing_is s name none)) ∙ ap (λ (x : SiteValue). with_made x (push_outcome_at x name).added) same

pub returns-in_default-found-clause-room : goal.returns-in_default-found-clause-room
returns-in_default-found-clause-room g c =
    let s = c.next_push.new.self in
    let name = option_copied c.args.host in
    let shown = sym (ap push_in c.in-Ok-Pushed.field-0-is) ∙ ap push_in c.in-Ok-Pushed.ensures.reply in
    let seen = ap (option_map push_view) shown ∙ c.in-Ok.ensures.push in
    let same = c.in-Ok.ensures.same in
    ap (λ (x : SiteValue). lacks_counter x.tables x.number x.state.holding name) (sym same)
    ∙ nothing_lacks s name (sym (ap (option_map push_view) c.in_default-found.is) ∙ seen)

pub returns-in_default-next_counter-clause-full : goal.returns-in_default-next_counter-clause-full
returns-in_default-next_counter-clause-full g c =
    let s = c.next_push.new.self in
    let name = option_copied c.args.host in
    let shown = sym (ap push_in c.in-Ok-Pushed.field-0-is) ∙ ap push_in c.in-Ok-Pushed.ensures.reply in
    let seen = ap (option_map push_view) shown ∙ c.in-Ok.ensures.push in
    let same = c.in-Ok.ensures.same in
    let some = sym (ap (option_map push_view) c.in-Some.is) ∙ seen in
    λ _. ap (λ (x : SiteValue). lacks_counter x.tables x.number x.state.holding name) (sym same)
    ∙ something_lacks s name (push_view c.in-Some.push) some ∙ c.next_counter.ensures.full c.in_default-next_counter.is

pub returns-clause-push : goal.returns-clause-push
returns-clause-push g c =
    let s = c.next_push.new.self in
    let name = option_copied c.args.host in
    let shown = sym (ap push_in c.in-Ok-Pushed.field-0-is) ∙ ap push_in c.in-Ok-Pushed.ensures.reply in
    let seen = ap (option_map push_view) shown ∙ c.in-Ok.ensures.push in
    let same = c.in-Ok.ensures.same in
    let some = sym (ap (option_map push_view) c.in-Some.is) ∙ seen in
    sym (ap (λ (o : Outcome). o.reply) (something_is s name (push_view c.in-Some.push) some)) ∙ ap (λ (x : SiteValue). (push_outcome_at x name).reply) same

pub returns-clause-ok : goal.returns-clause-ok
returns-clause-ok g c =
    let s = c.next_push.new.self in
    let p = push_view c.in-Some.push in
    let name = option_copied c.args.host in
    let shown = sym (ap push_in c.in-Ok-Pushed.field-0-is) ∙ ap push_in c.in-Ok-Pushed.ensures.reply in
    let seen = ap (option_map push_view) shown ∙ c.in-Ok.ensures.push in
    let same = c.in-Ok.ensures.same in
    let some = sym (ap (option_map push_view) c.in-Some.is) ∙ seen in
    let told : c.tell_push.new.self ≡ with_made s (Some (operation_pushed s.number c.in-Some-next_counter.counter p.session p.delta)) = search rules in
    let made : c.tell_push.new.self ≡ with_made s (push_outcome_at s name).added =
    told
    ∙ ap (λ (n : ℕ). with_made s (Some (operation_pushed s.number n p.session p.delta))) c.in-Some-next_counter.ensures.some
    ∙ sym (ap (λ (o : Outcome). with_made s o.added) (something_is s name p some)) in
    made ∙ ap (λ (x : SiteValue). with_made x (push_outcome_at x name).added) same

pub returns-clause-left : goal.returns-clause-left
returns-clause-left g c =
    let s = c.next_push.new.self in
    let p = c.in-Some.push in
    let name = option_copied c.args.host in
    let shown = sym (ap push_in c.in-Ok-Pushed.field-0-is) ∙ ap push_in c.in-Ok-Pushed.ensures.reply in
    let seen = ap (option_map push_view) shown ∙ c.in-Ok.ensures.push in
    let same = c.in-Ok.ensures.same in
    let some = sym (ap (option_map push_view) c.in-Some.is) ∙ seen in
    let apart : SiteValue → PushOut → Type 0 = λ x r. Distinct (map rule_name_of (session.rules x.tables (view x.state.holding.facts) (gx r.session))) in
    let names = subst (λ (o : Option PushOut). IfSome o (apart s)) (sym shown) c.in-Ok.ensures.names in
    let told : c.tell_push.new.self ≡ with_made s (Some (operation_pushed s.number c.in-Some-next_counter.counter (push_view p).session (push_view p).delta)) = search rules in
    let made : c.tell_push.new.self ≡ with_made s (push_outcome_at s name).added =
    told
    ∙ ap (λ (n : ℕ). with_made s (Some (operation_pushed s.number n (push_view p).session (push_view p).delta))) c.in-Some-next_counter.ensures.some
    ∙ sym (ap (λ (o : Outcome). with_made s o.added) (something_is s name (push_view p) some)) in
    subst (λ (x : SiteValue). LacksTheRest x x.state.holding.facts c.tell_push.new.self (gx p.session)) same
    (pushed_leaves s c.note_told.ensures name (gx p.session) (session_due s name (push_view p) some)
    (subst (λ (o : Option PushOut). IfSome o (apart s)) c.in-Some.is names)
    c.tell_push.new.self made)

pub returns-clause-room : goal.returns-clause-room
returns-clause-room g c =
    let s = c.next_push.new.self in
    let name = option_copied c.args.host in
    let shown = sym (ap push_in c.in-Ok-Pushed.field-0-is) ∙ ap push_in c.in-Ok-Pushed.ensures.reply in
    let seen = ap (option_map push_view) shown ∙ c.in-Ok.ensures.push in
    let same = c.in-Ok.ensures.same in
    let some = sym (ap (option_map push_view) c.in-Some.is) ∙ seen in
    ap (λ (x : SiteValue). lacks_counter x.tables x.number x.state.holding name) (sym same)
    ∙ something_lacks s name (push_view c.in-Some.push) some ∙ c.in-Some-next_counter.ensures.open

pub tell_push-requires-clause-formed : goal.tell_push-requires-clause-formed
tell_push-requires-clause-formed g c =
    let s = c.next_push.new.self in
    let p = push_view c.in-Some.push in
    let n = c.in-Some-next_counter.counter in
    let next = c.in-Some-next_counter.ensures.some in
    let name = option_copied c.args.host in
    let v = view s.state.holding.facts in
    let u : Tag = record { number = 0; counter = n; site = s.number } in
    let shown = sym (ap push_in c.in-Ok-Pushed.field-0-is) ∙ ap push_in c.in-Ok-Pushed.ensures.reply in
    let seen = ap (option_map push_view) shown ∙ c.in-Ok.ensures.push in
    let same = c.in-Ok.ensures.same in
    let some = sym (ap (option_map push_view) c.in-Some.is) ∙ seen in
    let is = pushed_delta s name p some in
    let apart : SiteValue → PushOut → Type 0 = λ x r. Distinct (map rule_name_of (session.rules x.tables (view x.state.holding.facts) (gx r.session))) in
    let names = subst (λ (o : Option PushOut). IfSome o (apart s)) (sym shown) c.in-Ok.ensures.names in
    let told = told_some delta_limit s.tables s.number v name (gx p.session) u (omega arith) (first_due s.tables s.number s.state.holding.facts name (gx p.session) (session_due s name p some)).is_one in
    let text : is_text session_id_limit p.session ≡ true = rw c.id.ensures at c.note_text.ensures in
    pushed_formed n s.number p.session p.delta (stamped n s.number (omega (arith, next)) c.in-Some-next_counter.ensures.within c.note_number.ensures) text
    (entries_tell s.tables s.state.holding.facts p.session p.delta is (subst (λ (o : Option PushOut). IfSome o (apart s)) c.in-Some.is names) c.note_entries.ensures.names c.note_entries.ensures.rule_names c.note_entries.ensures.rules)
    (subst (λ (d : DeltaValue). 1 ≤ length (told_facts u d)) (sym is) told)
