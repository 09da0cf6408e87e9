use Rattle.std.proofs.Common.{rules, ◌≡◌, ◌<◌, ℕ, ◌++◌, [], ◌∷◌, Some, Ok, length, refl, slice_get, ap, sym, ◌∙◌}
use Rattle.std.proofs.lemmas.Option.{slice_get_read, slice_get_within}
use Rattle.pcrf_model.specs.Letters.{LetterValue}
use Rattle.pcrf_model.specs.Worlds.{Ack, Lettered}
use Rattle.pcrf_model.specs.Seen.{world_view_after}
use Rattle.site_machine.specs.Sites.{SiteValue}
use Rattle.pcrf_world.specs.Members.{seen_of}
use Rattle.pcrf_world.specs.Values.{WorldValue, setting}
use Rattle.pcrf_world.proofs.Events.{acknowledged_at}
use Rattle.pcrf_world.proofs.Members.{members_at, seen_at, stands_within, world_of}
use Rattle.pcrf_world.proofs.world.World.acknowledge.Goals as goal
use Rattle.pcrf_world.proofs.world.World.acknowledge.Goals.{in-Ok, in-Err}

pub returns : goal.returns
returns c =
    let ms = c.self.inside.sites.items in
    let ls = c.self.inside.letters.items in
    let m = c.index.result.now in
    let at : slice_get ms c.args.j ≡ Some m = slice_get_read ms (length ms) c.args.j m refl (search rules) c.index.ensures in
    let is = members_at c.self.inside.tables ms c.args.j m c.self.invariant.members at in
    let low : c.args.i < length ms = search rules in
    let maker = stands_within ms c.args.i low in
    let there = ap (λ (x : WorldValue). slice_get x.seen.sites c.args.j) (sym c.self.view_is) ∙ seen_at ms c.args.j m at in
    let there_maker = ap (λ (x : WorldValue). slice_get x.seen.sites c.args.i) (sym c.self.view_is) ∙ seen_at ms c.args.i maker.0 maker.1 in
    let count : c.len-k.result ≡ length c.args.self.now.seen.letters = search rules in
    elim c.match-push.branch [
      | in-Ok b ↦ (
          let pushed : c.push.new.self.items ≡ ls ++ c.acknowledge-letter.result ∷ [] = search rules in
          let letters = pushed ∙ ap (λ (l : LetterValue). ls ++ l ∷ []) c.acknowledge-letter.ensures in
          rw b.result-is (record {
            answer = rw (there, there_maker) (ap (λ (n : ℕ). Ok (Lettered n)) count);
            seen = ap (world_of ms) letters
                ∙ acknowledged_at c.self.inside.tables ms ls c.args.j m at (ap (λ (x : SiteValue). x.tables) is.site) c.args.i c.len-k.result
                ∙ ap (λ (x : WorldValue). world_view_after (setting x.tables) x.seen (Ack c.args.j c.args.i) (Ok (Lettered c.len-k.result))) c.self.view_is;
            tables = search rules;
            sites = search rules;
          }))
      | in-Err b ↦ rw b.result-is (record { answer = (slice_get_within c.args.self.now.seen.sites c.args.j (seen_of m) there, slice_get_within c.args.self.now.seen.sites c.args.i (seen_of maker.0) there_maker, refl); seen = search rules; tables = search rules; sites = search rules })
    ]
