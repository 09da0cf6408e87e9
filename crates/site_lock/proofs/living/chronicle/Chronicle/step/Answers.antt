use Rattle.std.proofs.Common.{rules, arith, ◌≡◌, ◌<◌, ◌+◌, ◌-◌, ◌^◌, min, length, List, [], ◌∷◌, ◌++◌, slice_index_or, ap, ◌∙◌}
use Rattle.site_lock.specs.declared.notes.Original.{Original}
use Rattle.site_machine.specs.Sites.{SiteMayReply, after_event}
use Rattle.site_machine.specs.Values.{event_value, reply_value}
use Rattle.site_book.specs.Books.{EntryValue, ReceiptValue, entry_of, receipt_of}
use Rattle.site_lock.specs.Deeds.{Entered, account, calls}
use Rattle.site_lock.proofs.Growing.{sound_called}
use Rattle.site_lock.proofs.living.chronicle.Chronicle.step.Goals as goal

pub invariant_of-self-2 : goal.invariant_of-self-2
invariant_of-self-2 g c =
    let b = c.self.inside in
    let k = c.seat.inside.number in
    let x : EntryValue = entry_of k (event_value c.args.event.now) (reply_value c.in_ok-reply.reply) in
    let inv = c.self.invariant in
    let lt : k < g.L.Roll.seats = search rules in
    let may : SiteMayReply b.site x.event x.reply = search rules in
    let left : c.step.new.self ≡ after_event b.site x.event x.reply = search rules in
    let raised : c.saturating_add-self-inside.result ≡ min (b.entries + 1) (2 ^ 64 - 1) = search rules in
    let grown : c.turn-2.new.self.note ≡ b.history.note ++ Entered x ∷ [] = search rules in
    let named : c.turn-2.new.other.name ≡ c.turn-2.new.self.name = search rules in
    let old : Original (List ReceiptValue) = c.index_mut-chair.result.now in
    let inside : k < length b.chairs.items = omega (arith, lt, inv.many) in
    let is_old : old ≡ slice_index_or b.chairs.items k old = search rules in
    let chair : c.turn.new.self.name ≡ g.L.Roll.name_of k = c.turn.ensures.original_name ∙ (ap (λ (o : Original (List ReceiptValue)). o.name) is_old ∙ (inv.chairs_are k old inside).0) in
    let noted : old.note ≡ account k b.history.note = ap (λ (o : Original (List ReceiptValue)). o.note) is_old ∙ (inv.chairs_are k old inside).1 in
    let received : c.turn.new.self.note ≡ account k b.history.note ++ receipt_of (length (calls b.history.note)) x.event x.reply ∷ [] = rw (← noted) (search rules) in
    sound_called g.L.Roll.name_of g.L.Roll.seats g.L.Roll.keeper g.L.Roll.opening b.site c.step.new.self b.entries c.saturating_add-self-inside.result b.times b.history c.turn-2.new.self b.beside c.turn-2.new.other b.chairs.items b.begun x c.turn.new.self
    inv lt may left raised grown named chair received
