use Rattle.std.proofs.Common.{rules, ◌≡◌, List, Some, Ok, length, refl, slice_get, slice_set, ap, sym, ◌∙◌, subst}
use Rattle.std.proofs.lemmas.Option.{slice_get_read}
use Rattle.pcrf_world.specs.Members.{IsMember, seen_of, started_again}
use Rattle.pcrf_model.specs.Worlds.{Restart, Restarted}
use Rattle.pcrf_model.specs.Seen.{world_view_after}
use Rattle.pcrf_world.specs.Values.{WorldValue, setting}
use Rattle.pcrf_world.specs.declared.site.Member.{Member}
use Rattle.pcrf_world.proofs.Events.{restarted_at}
use Rattle.pcrf_world.proofs.Members.{as_many, again_member, members_at, sites_set, seen_at, set_back, world_of}
use Rattle.pcrf_world.proofs.world.World.restart.Goals as goal

pub invariant_of-self-2 : goal.invariant_of-self-2
invariant_of-self-2 c =
    let t = c.self.inside.tables in
    let ms = c.self.inside.sites.items in
    let m = c.index_mut-member.result.now in
    let at : slice_get ms c.args.i ≡ Some m = slice_get_read ms (length ms) c.args.i m refl (search rules) c.index_mut-member.ensures.value in
    let is = members_at t ms c.args.i m c.self.invariant.members at in
    let again : c.restart.new.self ≡ started_again m = search rules in
    sites_set t ms c.args.i c.restart.new.self c.self.invariant (subst (IsMember t) (sym again) (again_member t m is))

pub returns : goal.returns
returns c =
    let ms = c.self.inside.sites.items in
    let ls = c.self.inside.letters.items in
    let m = c.index_mut-member.result.now in
    let at : slice_get ms c.args.i ≡ Some m = slice_get_read ms (length ms) c.args.i m refl (search rules) c.index_mut-member.ensures.value in
    let there : slice_get c.args.self.now.seen.sites c.args.i ≡ Some (seen_of m) = ap (λ (x : WorldValue). slice_get x.seen.sites c.args.i) (sym c.self.view_is) ∙ seen_at ms c.args.i m at in
    let again : c.restart.new.self ≡ started_again m = search rules in
    record {
      answer = rw there (search rules);
      seen = ap (λ (x : Member). world_of (slice_set ms c.args.i x) ls) again
          ∙ restarted_at c.self.inside.tables ms ls c.args.i m at c.in-Some.epoch
          ∙ ap (λ (x : WorldValue). world_view_after (setting x.tables) x.seen (Restart c.args.i) (Ok (Restarted c.in-Some.epoch))) c.self.view_is;
      tables = search rules;
      sites = as_many ms c.args.i c.restart.new.self c.args.self.now.seen.sites (ap (λ (x : WorldValue). x.seen.sites) c.self.view_is);
    }

pub returns-in_default : goal.returns-in_default
returns-in_default c =
    let ms = c.self.inside.sites.items in
    let ls = c.self.inside.letters.items in
    let m = c.index_mut-member.result.now in
    let at : slice_get ms c.args.i ≡ Some m = slice_get_read ms (length ms) c.args.i m refl (search rules) c.index_mut-member.ensures.value in
    let there : slice_get c.args.self.now.seen.sites c.args.i ≡ Some (seen_of m) = ap (λ (x : WorldValue). slice_get x.seen.sites c.args.i) (sym c.self.view_is) ∙ seen_at ms c.args.i m at in
    let same : c.restart.new.self ≡ m = search rules in
    record {
      answer = rw there (search rules);
      seen = ap (λ (x : Member). world_of (slice_set ms c.args.i x) ls) same ∙ ap (λ (l : List Member). world_of l ls) (set_back ms c.args.i m at) ∙ ap (λ (x : WorldValue). x.seen) c.self.view_is;
      tables = search rules;
      sites = as_many ms c.args.i c.restart.new.self c.args.self.now.seen.sites (ap (λ (x : WorldValue). x.seen.sites) c.self.view_is);
    }
