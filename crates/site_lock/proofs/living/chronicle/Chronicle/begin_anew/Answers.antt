use Rattle.std.proofs.Common.{rules, ◌≡◌, ℕ, ◌+◌, length, [], ◌∷◌, ◌++◌, ap, ◌∙◌}
use Rattle.site_lock.specs.Deeds.{BegunAnew, KeptValue, beginnings, calls, forgotten_in, site_begun_anew}
use Rattle.site_lock.proofs.Growing.{sound_begun}
use Rattle.site_lock.proofs.living.chronicle.Chronicle.begin_anew.Goals as goal

pub invariant_of-self : goal.invariant_of-self
invariant_of-self g c =
    let b = c.self.inside in
    let inv = c.self.invariant in
    let h = b.history.note in
    let same : c.keeper.inside.begun.note ≡ b.begun.note = search rules in
    let raised : c.keeper.inside.times + 1 ≡ length b.begun.note.beginnings + 1 = ap (λ (n : ℕ). n + 1) (c.keeper.invariant.1 ∙ ap (λ (k : KeptValue). length k.beginnings) same) in
    let left : c.begin_anew.new.self ≡ site_begun_anew b.site = search rules in
    let grown : c.turn-2.new.self.note ≡ h ++ BegunAnew ∷ [] = search rules in
    let named : c.turn-2.new.other.name ≡ c.turn-2.new.self.name = search rules in
    let is : c.turn.new.self.name ≡ g.L.Roll.keeper = search rules in
    let note : c.turn.new.self.note ≡ record { beginnings = b.begun.note.beginnings ++ length (calls h) ∷ []; forgot = b.begun.note.forgot } = search rules in
    let begun : c.turn.new.self.note ≡ record { beginnings = beginnings h ++ length (calls h) ∷ []; forgot = forgotten_in h } =
    note ∙ ap (λ (k : KeptValue). record { beginnings = k.beginnings ++ length (calls h) ∷ []; forgot = k.forgot }) inv.begun_are in
    sound_begun g.L.Roll.name_of g.L.Roll.seats g.L.Roll.keeper g.L.Roll.opening b.site c.begin_anew.new.self b.entries b.times (c.keeper.inside.times + 1) b.history c.turn-2.new.self b.beside c.turn-2.new.other b.chairs.items b.begun c.turn.new.self
    inv left raised grown named is begun

pub returns-clause-keeper : goal.returns-clause-keeper
returns-clause-keeper g c = (length (calls c.self.inside.history.note), search rules)
