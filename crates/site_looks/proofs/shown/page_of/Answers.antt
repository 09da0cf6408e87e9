use Rattle.std.proofs.Common.{◌-◌, min, length, take, drop, ap, ◌∙◌}
use Rattle.std.proofs.lemmas.List.{take_rest, take_min, drop_min}
use Rattle.site_looks.specs.Looks.{before_page, page_entries}
use Rattle.site_looks.proofs.shown.page_of.Goals as goal

pub returns : goal.returns
returns g c =
    let all = c.args.all.now in
    let from = c.min.result in
    let behind = take (length all - from) (drop from all) in
    let start = c.min.ensures ∙ ap (λ n. min n (length all)) c.before-2.ensures in
    ap (λ n. take n behind) c.min-2.ensures
    ∙ take_min page_entries behind
    ∙ ap (take page_entries) (take_rest all from ∙ ap (λ n. drop n all) start ∙ drop_min (before_page c.args.page) all)
