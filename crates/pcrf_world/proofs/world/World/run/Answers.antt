use Rattle.std.proofs.Common.{rules, ◌≡◌, ◌+◌, ◌++◌, [], ◌∷◌, take, ◌∙◌, ap, sym, subst}
use Rattle.std.proofs.lemmas.List.{take_all, take_more, map-append}
use Rattle.pcrf_model.specs.Tables.{Tables}
use Rattle.pcrf_model.specs.Worlds.{WorldTook, WorldView, start, world_view, after_all, Gives, HoldAlike}
use Rattle.pcrf_model.specs.Seen.{world_view_after}
use Rattle.pcrf_world.specs.Values.{setting, event_value, answer_value, events_value, answers_value}
use Rattle.pcrf_values.specs.Limits.{delta_limit}
use Rattle.pcrf_model.proofs.CursorGaps.{ranges_leave_no_gap}
use Rattle.pcrf_model.proofs.CursorRuns.{entries_are_taken, peers_said}
use Rattle.pcrf_model.proofs.CursorSnapshots.{snapshots_hold}
use Rattle.pcrf_model.proofs.HoldingAlike.{hold_alike}
use Rattle.pcrf_model.proofs.SeenLaws.{seen_is_taken}
use Rattle.pcrf_world.proofs.Runs.{gives_push, after_push}
use Rattle.pcrf_world.proofs.world.World.run.Goals as goal

pub loop-event-preserved : goal.loop-event-preserved
loop-event-preserved c =
    let event = c.event-item.result in
    let answer = c.step-answer.result in
    let before = c.loop-event.invariant in
    let first : WorldTook = start c.args.n in
    let done = take c.loop-event.event-index c.args.events.now in
    let told = c.loop-event.answers.items in
    let es = events_value done in
    let answers = answers_value told in
    let e = event_value event in
    let a = answer_value answer in
    let took : WorldTook = after_all (setting c.args.tables) first es answers in
    let pushed : c.push.new.self.items ≡ told ++ answer ∷ [] = search rules in
    let more : take (c.loop-event.event-index + 1) c.args.events.now ≡ done ++ event ∷ [] = search (rules, take_more) in
    let more_events = map-append event_value done (event ∷ []) in
    let more_answers = map-append answer_value told (answer ∷ []) in
    let happened = c.step-answer.ensures in
    let here : Gives (setting c.args.tables) (world_view took) e a = rw (← before.holds, ← before.tables) happened.answer in
    let seen = happened.seen ∙ ap (λ (t : Tables). world_view_after (setting t) c.loop-event.world.seen e a) before.tables ∙ ap (λ (v : WorldView). world_view_after (setting c.args.tables) v e a) before.holds
    ∙ seen_is_taken (setting c.args.tables) took e a (snapshots_hold (setting c.args.tables) c.args.n es answers) in
    record {
      gives = rw (more, pushed, more_events, more_answers) (gives_push (setting c.args.tables) first es answers e a before.gives here);
      holds = rw (more, pushed, more_events, more_answers) (seen ∙ ap world_view (sym (after_push (setting c.args.tables) first es answers e a before.gives)));
      tables = happened.tables ∙ before.tables;
      count = search rules;
      room = search rules;
    }

pub returns-clause-holds : goal.returns-clause-holds
returns-clause-holds c =
    let all : take c.loop-event.event-index c.args.events.now ≡ c.args.events.now = take_all c.loop-event.event-index c.args.events.now (search rules) in
    c.loop-event.invariant.holds
    ∙ ap (λ es. world_view (after_all (setting c.args.tables) (start c.args.n) (events_value es) (answers_value c.loop-event.answers.items))) all

pub returns-clause-same : goal.returns-clause-same
returns-clause-same c =
    let took : WorldTook = after_all (setting c.args.tables) (start c.args.n) (events_value c.args.events.now) (answers_value c.loop-event.answers.items) in
    subst (λ (v : WorldView). HoldAlike c.args.tables took v) (sym (returns-clause-holds c)) (hold_alike c.args.tables took)

pub returns-clause-taken : goal.returns-clause-taken
returns-clause-taken c = entries_are_taken c.args.tables delta_limit c.args.n (events_value c.args.events.now) (answers_value c.loop-event.answers.items)

pub returns-clause-known : goal.returns-clause-known
returns-clause-known c = peers_said c.args.tables delta_limit c.args.n (events_value c.args.events.now) (answers_value c.loop-event.answers.items)

pub returns-clause-gapless : goal.returns-clause-gapless
returns-clause-gapless c = ranges_leave_no_gap c.args.tables delta_limit c.args.n (events_value c.args.events.now) (answers_value c.loop-event.answers.items)
