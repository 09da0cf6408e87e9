use Rattle.std.proofs.Common.{rules, ◌≡◌, ℕ, true, false, ◌==◌, length, Some, ap, sym, ◌∙◌}
use Rattle.pcrf_model.specs.Replies.{Outcome}
use Rattle.pcrf_model.specs.Retelling.{all_removed}
use Rattle.site_machine.specs.Facts.{operation_pushed}
use Rattle.site_machine.specs.Sites.{with_made}
use Rattle.site_machine.proofs.Retellings.{told_if_live, nothing_retold_is, nothing_wanted, retold_is, counter_wanted, retold_formed}
use Rattle.site_machine.proofs.site.Site.retell.Goals as goal

pub returns-then-is_empty-clause-retold : goal.returns-then-is_empty-clause-retold
returns-then-is_empty-clause-retold c =
    let s = c.args.self.now in
    let id = c.args.session.now in
    let is : c.in-Ok.told ≡ told_if_live s id = search rules in
    let none : (length c.in-Ok.told == 0) ≡ true = search rules in
    sym (ap (λ (o : Outcome). o.reply) (nothing_retold_is s id c.in-Ok.told is none))

pub returns-then-is_empty-clause-ok : goal.returns-then-is_empty-clause-ok
returns-then-is_empty-clause-ok c =
    let s = c.args.self.now in
    let id = c.args.session.now in
    let is : c.in-Ok.told ≡ told_if_live s id = search rules in
    let none : (length c.in-Ok.told == 0) ≡ true = search rules in
    sym (ap (λ (o : Outcome). with_made s o.added) (nothing_retold_is s id c.in-Ok.told is none))

pub returns-then-is_empty-clause-room : goal.returns-then-is_empty-clause-room
returns-then-is_empty-clause-room c =
    let s = c.args.self.now in
    let id = c.args.session.now in
    let is : c.in-Ok.told ≡ told_if_live s id = search rules in
    let none : (length c.in-Ok.told == 0) ≡ true = search rules in
    nothing_wanted s id c.in-Ok.told is none

pub returns-in_default-next_counter-clause-full : goal.returns-in_default-next_counter-clause-full
returns-in_default-next_counter-clause-full c =
    let s = c.args.self.now in
    let id = c.args.session.now in
    let is : c.in-Ok.told ≡ told_if_live s id = search rules in
    let some : (length c.in-Ok.told == 0) ≡ false = search rules in
    λ _. counter_wanted s id c.in-Ok.told is some ∙ c.next_counter.ensures.full c.in_default-next_counter.is

pub returns-clause-retold : goal.returns-clause-retold
returns-clause-retold c =
    let s = c.args.self.now in
    let id = c.args.session.now in
    let is : c.in-Ok.told ≡ told_if_live s id = search rules in
    let some : (length c.in-Ok.told == 0) ≡ false = search rules in
    sym (ap (λ (o : Outcome). o.reply) (retold_is s id c.in-Ok.told is some))

pub returns-clause-ok : goal.returns-clause-ok
returns-clause-ok c =
    let s = c.args.self.now in
    let id = c.args.session.now in
    let is : c.in-Ok.told ≡ told_if_live s id = search rules in
    let some : (length c.in-Ok.told == 0) ≡ false = search rules in
    let told : c.tell_away.new.self ≡ with_made s (Some (operation_pushed s.number c.in-Some.counter id (all_removed c.in-Ok.told))) = search rules in
    told
    ∙ ap (λ (n : ℕ). with_made s (Some (operation_pushed s.number n id (all_removed c.in-Ok.told)))) c.in-Some.ensures.some
    ∙ sym (ap (λ (o : Outcome). with_made s o.added) (retold_is s id c.in-Ok.told is some))

pub returns-clause-room : goal.returns-clause-room
returns-clause-room c =
    let s = c.args.self.now in
    let id = c.args.session.now in
    let is : c.in-Ok.told ≡ told_if_live s id = search rules in
    let some : (length c.in-Ok.told == 0) ≡ false = search rules in
    counter_wanted s id c.in-Ok.told is some ∙ c.in-Some.ensures.open

pub tell_away-requires-clause-formed : goal.tell_away-requires-clause-formed
tell_away-requires-clause-formed c =
    let s = c.args.self.now in
    let id = c.args.session.now in
    let is : c.in-Ok.told ≡ told_if_live s id = search rules in
    let some : (length c.in-Ok.told == 0) ≡ false = search rules in
    retold_formed s id c.in-Ok.told is some c.in-Some.counter c.in-Some.ensures.some c.note_number.ensures c.note_form.ensures c.in-Some.ensures.open
