use Rattle.std.proofs.Common.{nat_eq, ◌∙◌, sym}
use Rattle.std.proofs.lemmas.Bool.Decides.{Decides-eqb}
use Rattle.site_join.proofs.EqualStates.{records_same, passed, failed_first, failed_second, decides}
use Rattle.site_join.proofs.state.State.equal.Goals as goal
use Rattle.site_join.proofs.state.State.equal.Goals.{then-self-other, else-self-other}

pub returns-then-same_facts : goal.returns-then-same_facts
returns-then-same_facts c =
    let ours = c.self.inside in
    let theirs = c.other.inside in
    let same_clock = nat_eq ours.clock theirs.clock in
    let same_gx = records_same ours.gx theirs.gx in
    let same_af = records_same ours.af theirs.af in
    let same = c.same_facts-then-same_facts.result in
    decides ours.gx ours.af theirs.gx theirs.af ours.clock theirs.clock c.args.self.now c.args.other.now c.self.view_is c.other.view_is
    c.note_valid.ensures c.note_valid-2.ensures c.note_valid-3.ensures c.note_valid-4.ensures
    same
    (elim c.if-self-other.branch [
      | then-self-other w ↦ passed same_clock same_gx same_af same ((Decides-eqb ours.clock theirs.clock).1 w.if-self-other.true) (sym w.same_facts.ensures ∙ sym w.value-is ∙ c.if-same_facts.true) c.same_facts-then-same_facts.ensures
      | else-self-other w ↦ absurd (w.if-self-other.false ((Decides-eqb ours.clock theirs.clock).0 (sym w.value-is ∙ c.if-same_facts.true)))
    ])

pub returns-else-same_facts : goal.returns-else-same_facts
returns-else-same_facts c =
    let ours = c.self.inside in
    let theirs = c.other.inside in
    let same_clock = nat_eq ours.clock theirs.clock in
    let same_gx = records_same ours.gx theirs.gx in
    let same_af = records_same ours.af theirs.af in
    let same = c.if-self-other.value in
    decides ours.gx ours.af theirs.gx theirs.af ours.clock theirs.clock c.args.self.now c.args.other.now c.self.view_is c.other.view_is
    c.note_valid.ensures c.note_valid-2.ensures c.note_valid-3.ensures c.note_valid-4.ensures
    same
    (elim c.if-self-other.branch [
      | then-self-other w ↦ failed_second same_clock same_gx same_af same ((Decides-eqb ours.clock theirs.clock).1 w.if-self-other.true) (sym w.same_facts.ensures ∙ sym w.value-is ∙ c.if-same_facts.false) c.if-same_facts.false
      | else-self-other w ↦ failed_first same_clock same_gx same_af same (sym w.value-is ∙ c.if-same_facts.false) c.if-same_facts.false
    ])
