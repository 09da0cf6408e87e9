use Rattle.std.proofs.Common.{◌≡◌, ℕ, Ok, Err, OnOk, subst}
use Rattle.lattice_core.proofs.Hashed.{slot_joined, slot_refused, slot_keeps, still_absent, fresh_put}
use Rattle.lattice_core.proofs.tree.JoinTree.join_under.Goals as goal

pub invariant_of-self : goal.invariant_of-self
invariant_of-self g c = slot_keeps g.K.Ord.cmp g.K.PartialEq.eq g.met.K.Ord.total g.met.K.Ranked.same g.met.K.Ord.matches_eq _ _ _ _ _ _ c.self.invariant.0 c.in-Some.ensures.value (c.get_mut.follows.holds c.join_in.new.self) g.V.Join.joined c.args.value g.V.Join.valid g.met.V.Join.closed _ c.note_valid.ensures c.self.invariant.1 c.join_in.ensures.joins c.join_in.ensures.unchanged

pub returns-in-Err-clause-unchanged : goal.returns-in-Err-clause-unchanged
returns-in-Err-clause-unchanged g c = slot_refused g.K.Ord.cmp g.K.PartialEq.eq g.met.K.Ord.total g.met.K.Ranked.same g.met.K.Ord.matches_eq _ _ _ _ _ _ c.self.invariant.0 c.in-Some.ensures.value (c.get_mut.follows.holds c.join_in.new.self) g.V.Join.joined c.args.value {A = ℕ} {B = ℕ} _ c.self.view_is (Err 0) c.in-Err.ensures.unchanged

pub invariant_of-self-in-Some : goal.invariant_of-self-in-Some
invariant_of-self-in-Some g c = slot_keeps g.K.Ord.cmp g.K.PartialEq.eq g.met.K.Ord.total g.met.K.Ranked.same g.met.K.Ord.matches_eq _ _ _ _ _ _ c.self.invariant.0 c.in-Some.ensures.value (c.get_mut.follows.holds c.join_in.new.self) g.V.Join.joined c.args.value g.V.Join.valid g.met.V.Join.closed _ c.note_valid.ensures c.self.invariant.1 c.join_in.ensures.joins c.join_in.ensures.unchanged

pub returns-in-Some-clause-joins : goal.returns-in-Some-clause-joins
returns-in-Some-clause-joins g c = slot_joined g.K.Ord.cmp g.K.PartialEq.eq g.met.K.Ord.total g.met.K.Ranked.same g.met.K.Ord.matches_eq _ _ _ _ _ _ c.self.invariant.0 c.in-Some.ensures.value (c.get_mut.follows.holds c.join_in.new.self) g.V.Join.joined c.args.value {A = ℕ} {B = ℕ} _ c.self.view_is (Ok 0) c.in_default-join_in.ensures.joins

pub insert_copied-requires : goal.insert_copied-requires
insert_copied-requires g c = record { absent = still_absent g.K.Ord.cmp g.K.PartialEq.eq g.met.K.Ord.total g.met.K.Ranked.same g.met.K.Ord.matches_eq _ _ _ _ _ c.self.invariant.0 c.in_default.ensures.value c.get_mut.follows.holds-at-none c.self.view_is }

pub returns-clause-joins : goal.returns-clause-joins
returns-clause-joins g c = subst (λ m. OnOk c.insert_copied.result (c.insert_copied.new.self ≡ m)) (fresh_put g.K.Ord.cmp g.K.PartialEq.eq g.met.K.Ord.total g.met.K.Ranked.same g.met.K.Ord.matches_eq _ _ _ _ _ c.self.invariant.0 c.in_default.ensures.value c.get_mut.follows.holds-at-none c.self.view_is g.V.Join.joined c.args.value) c.insert_copied.ensures.inserted
