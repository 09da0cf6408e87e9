use Rattle.std.proofs.Common.{rules, ◌≡◌, [], ◌++◌, length, sym, ◌∙◌}
use Rattle.watched_links.specs.LostRulesLimits.{most_due}
use Rattle.watched_links.specs.Refusals.{due_of}
use Rattle.watched_links.proofs.Firsts.{firsts_full, firsts_few, one_found}
use Rattle.watched_links.proofs.refused.first_due.Goals as goal

pub returns-then-len-ge-PIECE : goal.returns-then-len-ge-PIECE
returns-then-len-ge-PIECE c =
    let due = due_of c.args.pause c.args.now in
    let all : c.push.new.self.items ++ due c.next.new.self ≡ due c.args.stages.now.entries =
    one_found c.args.pause c.args.now c.loop-session.due.items c.push.new.self.items (due c.args.stages.now.entries) c.loop-session.session-iterator c.next.new.self c.in_ok-try_copy.field-0 c.in-Some.session.now c.in-Some.stage.now
    c.loop-session.invariant.all c.in-Some.ensures.steps (sym c.is_due.ensures ∙ c.if-is_due.true) c.in_ok-try_copy.ensures c.in_ok-push.ensures.items in
    let full : length c.push.new.self.items ≡ most_due = search rules in
    firsts_full most_due c.push.new.self.items (due c.next.new.self) (due c.args.stages.now.entries) all full

pub returns : goal.returns
returns c =
    let due = due_of c.args.pause c.args.now in
    let all : c.loop-session.due.items ++ [] ≡ due c.args.stages.now.entries = search rules in
    firsts_few most_due c.loop-session.due.items (due c.args.stages.now.entries) all c.loop-session.invariant.few
