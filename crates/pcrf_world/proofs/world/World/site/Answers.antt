use Rattle.std.proofs.Common.{rules, ◌≡◌, List, Some, None, length, refl, slice_get, ap, ◌∙◌, option_map, subst}
use Rattle.std.proofs.lemmas.Option.{slice_get_read, slice_get_past}
use Rattle.pcrf_world.specs.Members.{site_seen}
use Rattle.pcrf_world.specs.Values.{WorldValue}
use Rattle.pcrf_world.specs.declared.site.Member.{Member}
use Rattle.pcrf_world.proofs.Members.{no_site_at, site_at}
use Rattle.pcrf_world.proofs.world.World.site.Goals as goal

pub returns-in-Some : goal.returns-in-Some
returns-in-Some c =
    let ms = c.self.inside.sites.items in
    let m = c.in-Some.member.now in
    let read = c.deref.result.now in
    let at : slice_get ms c.args.i ≡ Some m = subst (λ (xs : List Member). slice_get xs c.args.i ≡ Some m) c.deref.ensures.value (slice_get_read read (length read) c.args.i m refl (search rules) (search rules)) in
    site_at c.self.inside.tables ms c.args.i m c.self.invariant.members at
    ∙ ap (λ (x : WorldValue). option_map (site_seen x.tables) (slice_get x.seen.sites c.args.i)) c.self.view_is

pub returns-in-None : goal.returns-in-None
returns-in-None c =
    let ms = c.self.inside.sites.items in
    let read = c.deref.result.now in
    let none : slice_get ms c.args.i ≡ None = subst (λ (xs : List Member). slice_get xs c.args.i ≡ None) c.deref.ensures.value (slice_get_past read c.args.i (search rules)) in
    no_site_at c.self.inside.tables ms c.args.i none
    ∙ ap (λ (x : WorldValue). option_map (site_seen x.tables) (slice_get x.seen.sites c.args.i)) c.self.view_is
