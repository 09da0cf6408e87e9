use Rattle.std.proofs.Common.{rules, ◌≡◌, ◌∙◌, ◌+◌, ◌++◌, ◌∷◌, [], take, ap, sym}
use Rattle.std.proofs.lemmas.List.{take_more}
use Rattle.site_machine.specs.Sites.{SiteValue}
use Rattle.site_machine.specs.Sites.{with_one, with_taken}
use Rattle.site_machine.proofs.Taking.{takes_none, takes_more}
use Rattle.site_machine.proofs.site.Site.take_all.Goals as goal

pub loop-count-init : goal.loop-count-init
loop-count-init c =
    let none = sym (takes_none c.args.self.now.state.holding c.note_kept.ensures) in
    λ i. record c.args.self.now { state = record { holding = none i; log = c.args.self.now.state.log } }

pub loop-count-preserved : goal.loop-count-preserved
loop-count-preserved c =
    let s = c.args.self.now in
    let o = c.index-operations-count.result in
    let done = take c.loop-count.count c.args.operations.now in
    let more : take (c.loop-count.count + 1) c.args.operations.now ≡ done ++ o ∷ [] = search (rules, take_more) in
    let taken : c.take.new.self ≡ with_one c.loop-count.self o = search rules in
    let held = takes_more s.state.holding done o in
    let next : with_one (with_taken s done) o ≡ with_taken s (done ++ o ∷ []) = λ i. record s { state = record { holding = held i; log = s.state.log } } in
    taken ∙ ap (λ (x : SiteValue). with_one x o) c.loop-count.invariant ∙ next ∙ ap (with_taken s) (sym more)
