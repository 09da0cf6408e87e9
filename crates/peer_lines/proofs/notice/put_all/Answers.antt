use Rattle.std.proofs.Common.{◌≡◌, List, ℕ, [], ◌∷◌, ◌++◌, ap, sym, ◌∙◌}
use Rattle.std.proofs.lemmas.Map.Iter.{rest_all}
use Rattle.std.specs.Map.Iter.{deref}
use Rattle.peer_lines.proofs.Notices.{all_written, last_written, one_told, written_from}
use Rattle.peer_lines.proofs.notice.put_all.Goals as goal

pub loop-host-preserved : goal.loop-host-preserved
loop-host-preserved c =
    let bytes = c.loop-host.bytes.items in
    let told = c.loop-host.told in
    let step : c.loop-host.host-iterator ≡ c.in-Some.host.now ∷ c.next.new.self = c.in-Some.ensures.steps in
    record {
      written = one_told bytes told.hosts.items told.count c.in-Some.host.now c.next.new.self c.add.new.bytes.items c.add.new.self.hosts.items c.add.new.self.count
          c.in_ok-add.ensures.bytes c.in_ok-add.ensures.count c.in_ok-add.ensures.hosts
          ∙ ap (λ (l : List (List ℕ)). bytes ++ written_from told.count told.hosts.items l) (sym step) ∙ c.loop-host.invariant.written;
      fits = c.in_ok-add.ensures.fits;
      counted = c.in_ok-add.ensures.counted;
    }

pub returns : goal.returns
returns c =
    let bytes = c.loop-host.bytes.items in
    let told = c.loop-host.told in
    let ends : c.loop-host.host-iterator ≡ [] = rest_all deref _ _ _ c.in-None.is c.next.ensures.steps in
    c.in_ok-put.ensures ∙ ap (λ (l : List ℕ). bytes ++ l) (sym (last_written told.count told.hosts.items))
    ∙ ap (λ (l : List (List ℕ)). bytes ++ written_from told.count told.hosts.items l) (sym ends) ∙ c.loop-host.invariant.written
    ∙ ap (λ (l : List ℕ). c.args.bytes.now.items ++ l) (all_written c.args.hosts.now.keys)
