use Rattle.std.proofs.Common.{rules, ◌≡◌, ◌==◌, ◌&&◌, leb, false, length, sym, ap, subst, ◌∙◌}
use Rattle.site_machine.specs.Sites.{SiteMayReply}
use Rattle.site_machine.specs.Values.{event_value, reply_value}
use Rattle.site_lock.specs.Deeds.{ChronicleValue, times_begun}
use Rattle.site_lock.proofs.LivingTelling.{told_since}
use Rattle.site_lock.proofs.living.locked.LivingSite.call_grown_since.Goals as goal

pub returns-in-Ok-clause-past : goal.returns-in-Ok-clause-past
returns-in-Ok-clause-past g c =
    let found = c.deref_mut.result.now in
    let left = c.deref_mut-2.result.now in
    let same : left ≡ found = search rules in
    let short : (times_begun found.history == c.args.begun && leb (length found.site.state.log) c.args.past) ≡ false = search rules in
    let now : times_begun found.history ≡ c.args.begun = search rules in
    let may : SiteMayReply left.site (event_value c.args.event.now) (reply_value c.in-Ok.dated.reply) = search rules in
    told_since c.args.past (times_begun left.history) c.args.begun left.site (event_value c.args.event.now) (reply_value c.in-Ok.dated.reply)
    (ap (λ (x : ChronicleValue). times_begun x.history) same ∙ now)
    (subst (λ (x : ChronicleValue). (times_begun x.history == c.args.begun && leb (length x.site.state.log) c.args.past) ≡ false) (sym same) short)
    may
