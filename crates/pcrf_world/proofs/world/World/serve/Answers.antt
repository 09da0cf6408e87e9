use Rattle.std.proofs.Common.{rules, ◌≡◌, Some, Ok, length, refl, slice_get, slice_set, ap, sym, ◌∙◌, subst}
use Rattle.std.proofs.lemmas.Option.{slice_get_read}
use Rattle.pcrf_model.specs.Worlds.{ServeAt, Replied, Gives}
use Rattle.pcrf_model.specs.Seen.{world_view_after}
use Rattle.site_machine.specs.Sites.{SiteValue, serve_outcome, with_made}
use Rattle.site_machine.specs.Values.{request_value, reply_value}
use Rattle.pcrf_world.specs.Members.{IsMember, with_site}
use Rattle.pcrf_world.specs.Values.{WorldValue, setting}
use Rattle.pcrf_world.proofs.Events.{served_at, served_gives}
use Rattle.pcrf_world.proofs.Members.{as_many, made_member, members_at, sites_set, world_of}
use Rattle.pcrf_world.proofs.world.World.serve.Goals as goal

pub invariant_of-self-2 : goal.invariant_of-self-2
invariant_of-self-2 c =
    let ms = c.self.inside.sites.items in
    let m = c.index_mut-member.result.now in
    let q = request_value c.args.request.now in
    let at : slice_get ms c.args.i ≡ Some m = slice_get_read ms (length ms) c.args.i m refl (search rules) c.index_mut-member.ensures.value in
    let is = members_at c.self.inside.tables ms c.args.i m c.self.invariant.members at in
    let made : c.serve.new.self ≡ with_made m.site (serve_outcome m.site q).added = search rules in
    sites_set c.self.inside.tables ms c.args.i (with_site m c.serve.new.self) c.self.invariant
    (subst (λ (x : SiteValue). IsMember c.self.inside.tables (with_site m x)) (sym made) (made_member c.self.inside.tables m is (serve_outcome m.site q).added))

pub returns : goal.returns
returns c =
    let ms = c.self.inside.sites.items in
    let ls = c.self.inside.letters.items in
    let m = c.index_mut-member.result.now in
    let q = request_value c.args.request.now in
    let r = reply_value c.in-Ok.reply in
    let at : slice_get ms c.args.i ≡ Some m = slice_get_read ms (length ms) c.args.i m refl (search rules) c.index_mut-member.ensures.value in
    let is = ap (λ (x : SiteValue). x.tables) (members_at c.self.inside.tables ms c.args.i m c.self.invariant.members at).site in
    let so : r ≡ (serve_outcome m.site q).reply = search rules in
    let made : c.serve.new.self ≡ with_made m.site (serve_outcome m.site q).added = search rules in
    record {
      answer = subst (λ (x : WorldValue). Gives (setting x.tables) x.seen (ServeAt c.args.i q) (Ok (Replied r))) c.self.view_is
          (served_gives c.self.inside.tables ms ls c.args.i m at is q r so);
      seen = ap (λ (x : SiteValue). world_of (slice_set ms c.args.i (with_site m x)) ls) made
          ∙ served_at c.self.inside.tables ms ls c.args.i m at is q r
          ∙ ap (λ (x : WorldValue). world_view_after (setting x.tables) x.seen (ServeAt c.args.i q) (Ok (Replied r))) c.self.view_is;
      tables = search rules;
      sites = as_many ms c.args.i (with_site m c.serve.new.self) c.args.self.now.seen.sites (ap (λ (x : WorldValue). x.seen.sites) c.self.view_is);
    }
