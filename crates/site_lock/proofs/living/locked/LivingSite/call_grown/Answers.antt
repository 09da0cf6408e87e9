use Rattle.std.proofs.Common.{rules, ◌≡◌, leb, false, length}
use Rattle.std.proofs.lemmas.Bool.{leb-false}
use Rattle.pcrf_values.specs.Limits.{delta_limit}
use Rattle.site_machine.specs.Values.{event_value, reply_value}
use Rattle.site_machine.specs.Sites.{SiteMayReply}
use Rattle.site_lock.proofs.Telling.{told_past}
use Rattle.site_lock.proofs.living.locked.LivingSite.call_grown.Goals as goal

pub returns-in-Ok-clause-past : goal.returns-in-Ok-clause-past
returns-in-Ok-clause-past g c =
    let s = c.deref_mut.result.now.site in
    let fits : leb (length s.state.log) c.args.past ≡ false = search rules in
    let may : SiteMayReply s (event_value c.args.event.now) (reply_value c.in-Ok.dated.reply) = search rules in
    told_past c.args.past delta_limit s.tables s.number s.state (event_value c.args.event.now) (reply_value c.in-Ok.dated.reply) (leb-false (length s.state.log) c.args.past fits) may
