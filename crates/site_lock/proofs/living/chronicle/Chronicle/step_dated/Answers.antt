use Rattle.std.proofs.Common.{rules, ◌≡◌, List, [], ◌∷◌, ◌++◌, sym, ap, subst, ◌∙◌}
use Rattle.site_machine.specs.Values.{event_value, reply_value}
use Rattle.site_book.specs.Books.{EntryValue, SeatValue, entry_of}
use Rattle.site_lock.specs.Deeds.{Deed, Entered, IsAccountOf, LeadsTo, times_begun}
use Rattle.site_lock.proofs.living.chronicle.Chronicle.step_dated.Goals as goal

pub returns-clause-answered : goal.returns-clause-answered
returns-clause-answered g c =
    let old = c.args.self.now in
    let new = c.audit.new.self in
    let x : EntryValue = entry_of c.args.seat.now.number (event_value c.args.event.now) (reply_value c.in_ok-reply.reply) in
    let history : List Deed = old.history ++ Entered x ∷ [] in
    let grown : new.history ≡ history = search rules in
    let stepped : c.step.new.self.history ≡ history = search rules in
    let leads : LeadsTo g.L.Roll.opening new.history new.site = search rules in
    let number : c.args.seat.now.number ≡ c.audit.new.seat.number = search rules in
    let times : c.begun-begun.result ≡ times_begun old.history = search rules in
    let seat : c.audit.new.seat ≡ c.step.new.seat = search rules in
    let account : IsAccountOf g.L.Roll.seats history c.step.new.seat = subst (λ (h : List Deed). IsAccountOf g.L.Roll.seats h c.step.new.seat) stepped c.audit.ensures.accounts in (
      old.history,
      x,
      number,
      times,
      (
        (new.site, subst (λ (h : List Deed). LeadsTo g.L.Roll.opening h new.site) grown leads),
        subst (IsAccountOf g.L.Roll.seats history) (sym seat) account,
      ),
    )
