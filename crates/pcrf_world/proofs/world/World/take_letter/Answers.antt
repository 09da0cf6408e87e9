use Rattle.std.proofs.Common.{rules, ◌≡◌, Some, Ok, Err, length, refl, slice_get, ap, sym, ◌∙◌}
use Rattle.std.proofs.lemmas.Option.{slice_get_read, slice_get_within}
use Rattle.pcrf_world.specs.Members.{seen_of}
use Rattle.pcrf_model.specs.Worlds.{Merge, Merged, NoMemory}
use Rattle.pcrf_model.specs.Seen.{world_view_after}
use Rattle.pcrf_world.specs.Values.{WorldValue, setting}
use Rattle.pcrf_world.proofs.Events.{merged_at, merged_in_part_at}
use Rattle.pcrf_world.proofs.Members.{as_many, members_at, seen_at, sites_set}
use Rattle.pcrf_world.proofs.world.World.take_letter.Goals as goal
use Rattle.pcrf_world.proofs.world.World.take_letter.Goals.{in-Ok, in-Err}

pub invariant_of-self : goal.invariant_of-self
invariant_of-self c =
    let t = c.self.inside.tables in
    let ms = c.self.inside.sites.items in
    let m = c.index_mut-member.result.now in
    let at : slice_get ms c.args.j ≡ Some m = slice_get_read ms (length ms) c.args.j m refl (search rules) c.index_mut-member.ensures.value in
    sites_set t ms c.args.j c.take.new.self c.self.invariant (c.take.ensures.stays t (members_at t ms c.args.j m c.self.invariant.members at))

pub returns : goal.returns
returns c =
    let ms = c.self.inside.sites.items in
    let ls = c.self.inside.letters.items in
    let m = c.index_mut-member.result.now in
    let l = c.index-letter.result.now in
    let at : slice_get ms c.args.j ≡ Some m = slice_get_read ms (length ms) c.args.j m refl (search rules) c.index_mut-member.ensures.value in
    let there : slice_get ls c.args.k ≡ Some l = slice_get_read ls (length ls) c.args.k l refl (search rules) c.index-letter.ensures in
    let site = ap (λ (x : WorldValue). slice_get x.seen.sites c.args.j) (sym c.self.view_is) ∙ seen_at ms c.args.j m at in
    let letter = ap (λ (x : WorldValue). slice_get x.seen.letters c.args.k) (sym c.self.view_is) ∙ there in
    let as_before = as_many ms c.args.j c.take.new.self c.args.self.now.seen.sites (ap (λ (x : WorldValue). x.seen.sites) c.self.view_is) in
    elim c.match-take.branch [
      | in-Ok b ↦ rw b.result-is (record {
        answer = rw (site, letter) refl;
        seen = merged_at c.self.inside.tables ms ls c.args.j m at c.args.k l there c.take.new.self (search rules)
            ∙ ap (λ (x : WorldValue). world_view_after (setting x.tables) x.seen (Merge c.args.j c.args.k) (Ok Merged)) c.self.view_is;
        tables = search rules;
        sites = as_before;
      })
      | in-Err b ↦ (
          let n = b.in-Err.taken in
          rw b.result-is (record {
            answer = (slice_get_within c.args.self.now.seen.sites c.args.j (seen_of m) site, l, letter, search rules);
            seen = merged_in_part_at c.self.inside.tables ms ls c.args.j m at c.args.k l there c.take.new.self n (search rules)
                ∙ ap (λ (x : WorldValue). world_view_after (setting x.tables) x.seen (Merge c.args.j c.args.k) (Err (NoMemory n))) c.self.view_is;
            tables = search rules;
            sites = as_before;
          }))
    ]
