use Rattle.std.proofs.Common.{rules, ◌≡◌, true, [], ◌∷◌, ◌++◌, ap, ◌∙◌}
use Rattle.pcrf_model.specs.Sessions.{Session}
use Rattle.site_machine.specs.Ended.{session_named}
use Rattle.site_machine.specs.Forgotten.{has_ended}
use Rattle.site_machine.specs.Sites.{site_without}
use Rattle.site_lock.specs.Deeds.{Forgot, KeptValue, beginnings, forgotten_in}
use Rattle.site_lock.proofs.Growing.{sound_forgot}
use Rattle.site_lock.proofs.living.chronicle.Chronicle.forget.Goals as goal

pub invariant_of-self-2 : goal.invariant_of-self-2
invariant_of-self-2 g c =
    let b = c.self.inside in
    let inv = c.self.invariant in
    let h = b.history.note in
    let r : Session = session_named c.args.session.now in
    let ended : has_ended b.site.state.holding r ≡ true = search rules in
    let left : c.forget.new.self ≡ site_without b.site r = search rules in
    let grown : c.turn-2.new.self.note ≡ h ++ Forgot r ∷ [] = search rules in
    let named : c.turn-2.new.other.name ≡ c.turn-2.new.self.name = search rules in
    let is : c.turn.new.self.name ≡ g.L.Roll.keeper = search rules in
    let note : c.turn.new.self.note ≡ record { beginnings = b.begun.note.beginnings; forgot = b.begun.note.forgot ++ r ∷ [] } = search rules in
    let kept : c.turn.new.self.note ≡ record { beginnings = beginnings h; forgot = forgotten_in h ++ r ∷ [] } =
    note ∙ ap (λ (k : KeptValue). record { beginnings = k.beginnings; forgot = k.forgot ++ r ∷ [] }) inv.begun_are in
    sound_forgot g.L.Roll.name_of g.L.Roll.seats g.L.Roll.keeper g.L.Roll.opening b.site c.forget.new.self b.entries b.times b.history c.turn-2.new.self b.beside c.turn-2.new.other b.chairs.items b.begun c.turn.new.self r
    inv ended left grown named is kept
