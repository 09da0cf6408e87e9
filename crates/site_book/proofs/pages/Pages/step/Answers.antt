use Rattle.std.proofs.Common.{rules, arith, ◌≡◌, ◌≤◌, ◌<◌, ◌+◌, ℕ, length, List, [], ◌∷◌, ◌++◌, true, sym, ap, subst, length-append}
use Rattle.std.proofs.lemmas.Result.{err_from_is_err_and}
use Rattle.pcrf_model.specs.Replies.{ReplyValue}
use Rattle.pcrf_model.specs.Steps.{SiteState, SiteEvent}
use Rattle.site_machine.specs.Sites.{SiteValue, after_event}
use Rattle.site_machine.specs.Values.{event_value, reply_value, event_lacks_counter}
use Rattle.site_machine.specs.declared.fault.StepFault.TheVariants.{ClockFull}
use Rattle.site_book.specs.Books.{BookValue, EntryValue, entry_of, LeadsTo}
use Rattle.site_book.proofs.Histories.{leads_more}
use Rattle.site_book.proofs.pages.Pages.step.Goals as goal

pub invariant_of-self-2 : goal.invariant_of-self-2
invariant_of-self-2 g c =
    let b = c.self.inside in
    let e : SiteEvent = event_value c.args.event.now in
    let r : ReplyValue = reply_value c.in_ok-reply.reply in
    let opening : SiteState = record { holding = b.opening; log = b.opening_log.items } in
    let grown : c.push_reserved.new.self.items ≡ b.history.items ++ entry_of c.seat.inside.number e r ∷ [] = search rules in
    let left : c.step_seen_by.new.self ≡ after_event b.site e r = search rules in
    let many : length c.push_reserved.new.self.items ≡ length b.history.items + 1 = rw grown (simp length-append) in
    let short : length b.history.items < b.limit = search rules in
    record {
      replays = rw (grown, left) (leads_more opening b.site b.history.items c.seat.inside.number e r c.self.invariant.replays c.in_ok-reply.ensures.reply);
      counted = omega (arith, many, c.add.ensures.total, c.self.invariant.counted);
      within = omega (arith, many, short);
    }

pub returns-in_err-reply-clause-room : goal.returns-in_err-reply-clause-room
returns-in_err-reply-clause-room g c =
    let p = err_from_is_err_and c.from_residual.result c.from_residual.ensures.1 in
    rw (p.1, p.2) (λ full. absurd (c.in_err-reply.ensures.memory full))

pub returns-in_err-reply-clause-counter : goal.returns-in_err-reply-clause-counter
returns-in_err-reply-clause-counter g c =
    let p = err_from_is_err_and c.from_residual.result c.from_residual.ensures.1 in
    let lacks : BookValue → Type 0 = λ b. c.in_err-reply.field-0.0 ≡ ClockFull →
    event_lacks_counter b.site.tables b.site.number b.site.state.holding (event_value c.args.event.now) ≡ true in
    rw (p.1, p.2) (subst lacks c.self.view_is c.in_err-reply.ensures.full)
