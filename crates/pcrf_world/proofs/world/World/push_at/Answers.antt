use Rattle.std.proofs.Common.{rules, ◌≡◌, List, Some, Ok, Err, true, false, length, refl, slice_get, slice_set, ap, sym, ◌∙◌, option_map, subst}
use Rattle.std.proofs.lemmas.Option.{slice_get_read, slice_get_within}
use Rattle.std.specs.Option.{option_copied}
use Rattle.pcrf_model.specs.Pushing.{lacks_counter}
use Rattle.pcrf_model.specs.Replies.{Pushed}
use Rattle.pcrf_model.specs.Worlds.{PushAt, PushedOut, ClockFull, Gives}
use Rattle.pcrf_model.specs.Seen.{world_view_after}
use Rattle.pcrf_model.specs.ReplyViews.{push_view}
use Rattle.site_machine.specs.Sites.{SiteValue, push_outcome_at, with_made}
use Rattle.pcrf_world.specs.Members.{IsMember, seen_of, with_site}
use Rattle.pcrf_world.specs.Values.{WorldValue, setting}
use Rattle.pcrf_world.specs.declared.site.Member.{Member}
use Rattle.pcrf_world.proofs.Events.{pushed_at, pushed_gives, full_gives}
use Rattle.pcrf_world.proofs.Members.{as_many, made_member, members_at, sites_set, seen_at, set_back, world_of}
use Rattle.pcrf_world.proofs.world.World.push_at.Goals as goal
use Rattle.pcrf_world.proofs.world.World.push_at.Goals.{in-Ok, in-Err-ClockFull, in-Err-NoMemory}

pub invariant_of-self : goal.invariant_of-self
invariant_of-self c =
    let ms = c.self.inside.sites.items in
    let m = c.index_mut-member.result.now in
    let name = option_copied c.map-name.result in
    let at : slice_get ms c.args.i ≡ Some m = slice_get_read ms (length ms) c.args.i m refl (search rules) c.index_mut-member.ensures.value in
    let is = members_at c.self.inside.tables ms c.args.i m c.self.invariant.members at in
    elim c.match-push.branch [
      | in-Ok b ↦ (
          let made : c.push.new.self ≡ with_made m.site (push_outcome_at m.site name).added = search rules in
          sites_set c.self.inside.tables ms c.args.i (with_site m c.push.new.self) c.self.invariant
          (subst (λ (x : SiteValue). IsMember c.self.inside.tables (with_site m x)) (sym made) (made_member c.self.inside.tables m is (push_outcome_at m.site name).added)))
      | in-Err-ClockFull b ↦ (
          let same : c.push.new.self ≡ m.site = search rules in
          sites_set c.self.inside.tables ms c.args.i (with_site m c.push.new.self) c.self.invariant (subst (λ (x : SiteValue). IsMember c.self.inside.tables (with_site m x)) (sym same) is))
      | in-Err-NoMemory b ↦ (
          let same : c.push.new.self ≡ m.site = search rules in
          sites_set c.self.inside.tables ms c.args.i (with_site m c.push.new.self) c.self.invariant (subst (λ (x : SiteValue). IsMember c.self.inside.tables (with_site m x)) (sym same) is))
    ]

pub returns : goal.returns
returns c =
    let ms = c.self.inside.sites.items in
    let ls = c.self.inside.letters.items in
    let m = c.index_mut-member.result.now in
    let name = option_copied c.map-name.result in
    let named : name ≡ c.args.host.now = search rules in
    let at : slice_get ms c.args.i ≡ Some m = slice_get_read ms (length ms) c.args.i m refl (search rules) c.index_mut-member.ensures.value in
    let is = ap (λ (x : SiteValue). x.tables) (members_at c.self.inside.tables ms c.args.i m c.self.invariant.members at).site in
    let there = ap (λ (x : WorldValue). slice_get x.seen.sites c.args.i) (sym c.self.view_is) ∙ seen_at ms c.args.i m at in
    let before = ap (λ (x : WorldValue). x.seen) c.self.view_is in
    elim c.match-push.branch [
      | in-Ok b ↦ (
          let p = option_map push_view b.in-Ok.push in
          let so : Pushed p ≡ (push_outcome_at m.site name).reply = search rules in
          let room : lacks_counter m.site.tables m.site.number m.site.state.holding name ≡ false = search rules in
          let made : c.push.new.self ≡ with_made m.site (push_outcome_at m.site name).added = search rules in
          rw (b.result-is, ← named) (record {
            answer = subst (λ (x : WorldValue). Gives (setting x.tables) x.seen (PushAt c.args.i name) (Ok (PushedOut p))) c.self.view_is
                (pushed_gives c.self.inside.tables ms ls c.args.i m at is name p so room);
            seen = ap (λ (x : SiteValue). world_of (slice_set ms c.args.i (with_site m x)) ls) made
                ∙ pushed_at c.self.inside.tables ms ls c.args.i m at is name p
                ∙ ap (λ (x : WorldValue). world_view_after (setting x.tables) x.seen (PushAt c.args.i name) (Ok (PushedOut p))) c.self.view_is;
            tables = search rules;
            sites = as_many ms c.args.i (with_site m c.push.new.self) c.args.self.now.seen.sites (ap (λ (x : WorldValue). x.seen.sites) c.self.view_is);
          }))
      | in-Err-ClockFull b ↦ (
          let full : lacks_counter m.site.tables m.site.number m.site.state.holding name ≡ true = search rules in
          let same : c.push.new.self ≡ m.site = search rules in
          rw (b.result-is, ← named) (record {
            answer = subst (λ (x : WorldValue). Gives (setting x.tables) x.seen (PushAt c.args.i name) (Err ClockFull)) c.self.view_is
                (full_gives c.self.inside.tables ms ls c.args.i m at is name full);
            seen = ap (λ (x : SiteValue). world_of (slice_set ms c.args.i (with_site m x)) ls) same ∙ ap (λ (l : List Member). world_of l ls) (set_back ms c.args.i m at) ∙ before;
            tables = search rules;
            sites = as_many ms c.args.i (with_site m c.push.new.self) c.args.self.now.seen.sites (ap (λ (x : WorldValue). x.seen.sites) c.self.view_is);
          }))
      | in-Err-NoMemory b ↦ (
          let same : c.push.new.self ≡ m.site = search rules in
          rw b.result-is (record {
            answer = (slice_get_within c.args.self.now.seen.sites c.args.i (seen_of m) there, refl);
            seen = ap (λ (x : SiteValue). world_of (slice_set ms c.args.i (with_site m x)) ls) same ∙ ap (λ (l : List Member). world_of l ls) (set_back ms c.args.i m at) ∙ before;
            tables = search rules;
            sites = as_many ms c.args.i (with_site m c.push.new.self) c.args.self.now.seen.sites (ap (λ (x : WorldValue). x.seen.sites) c.self.view_is);
          }))
    ]
