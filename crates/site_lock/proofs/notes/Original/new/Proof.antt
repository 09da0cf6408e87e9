-- `new` makes a name, and hands out its two halves.
use Rattle.std.proofs.Common.{List, [], ◌∷◌, ◌++◌, refl}
use mir.Syntax.{a_type, named}
use mir.Val.{Val, vptr, vstruct, vcons, vnil, of_list}
use mir.MapTy.{inst_fn}
use base.Logic.{SProp}
use base.Fml.{fsep, feq}
use types.Kit.{‵, raw, ◌⊛◌, ◌$◌, ◌∵◌, !, qed, move, keep, split, join, fjoin, fjoin3, fpack, suffices, frame, use0, feq_i}
use types.Tokens.{name_new}
use types.Run.{no_more, and_then, returns, enter}
use types.ByLocal.{alloc_all, pass_all, free_all, look_at, get, sets}
use types.Part.{agg}
use contract.Running.{tables}
use denote.Exit.{yes}
use denote.RattleType.{RattleType, Valss, owns}
use denote.Signature.{types_at, plain}
use denote.Builtin.{RefOf}
use denote.Ref.{shr_vals, shr_Tells}
use denote.Steps.{nothing}
use denote.Param.{param, layouts}
use denote.Triple.Entry.{alive}
use denote.Triple.Walked.{Stays, stay_dropped, walk_of, ends_at, Goes-dropped}
use Rattle.std.proofs.raw_atomic.Walks.{proved}
use Rattle.site_lock.proofs.Tokens.{token, Mark, made, tells, tells_last}
use Rattle.site_lock.specs.contracts.notes.Original as Original
use Rattle.site_lock.specs.contracts.notes.Duplicate as Duplicate
use Rattle.site_lock.specs.contracts.notes.Original.new.{ended, clauses}
use Rattle.site_lock.specs.contracts.notes.Original.new.Key.{name as #self}
use Rattle.site_lock.proofs.notes.Original.new.Statement.{statement}
use Rattle.site_lock.proofs.notes.Original.new.Code as code

pub new_spec : {M : Type 1} → statement M
new_spec 𝓤 𝓛 𝓜 𝓡 wired Y laws =
    let H = 𝓛.H in let 𝓣 = tables 𝓤 H 𝓜 𝓡 𝓡.env in let R : RattleType = param 0 Y in let En = ended Y in
    let inst = layouts (a_type ∷ []) (Y, tt) in let fn = inst_fn inst code.function in let c = clauses Y 𝓛 𝓜.mem 𝓡.returns in
    let A : RattleType = Original.the_row R in let B : RattleType = Duplicate.the_row R in
    let hs : Stays En.signature.params En.kept = (stay_dropped (RefOf (0 ∷ []) tt (plain (λ _. R)) (λ _. tt)) yes, tt) in
    proved 𝓛 En hs c 𝓜 𝓡 (Goes-dropped 𝓛 2 (RefOf (0 ∷ []) tt (plain (λ _. R)) (λ _. tt)) yes (λ κs x f. refl), tt) (#self inst) fn (code.unfolded 𝓤 H 𝓜 𝓡 wired (Y, tt))
    (λ κs. (shr_vals, tt)) (λ κs. (shr_Tells (named 0) κs.0 R, tt)) (λ κs qs bounds a gh are.
    let first = a.0.now in let y : (walk_of 𝓛 En hs c).Ghost = ((κs, qs, bounds, a, (shr_vals a.0, tt)), gh) in
    let Post : Val → SProp 𝓤 = (walk_of 𝓛 En hs c).post y in let toks : SProp 𝓤 = alive 𝓛 En.signature κs qs in
    let v : Val = vstruct (vcons token (vcons token vnil)) in
    qed 𝓛 ((raw toks ⊛ ‵ (owns (types_at En.signature.params κs) a y.0.4)) ∷ raw ((c κs a).requires gh) ∷ []) ∵ split ! $ keep ! (0 ∷ []) $
    enter ! 𝓣.C 𝓣.Λ fn (vptr a.0.ref_ptr.0 a.0.ref_ptr.1 ∷ []) Post $ alloc_all ! (λ l. pass_all ! refl ((tt, tt), tt) $
    name_new ! tt (R.coded.code first) (λ γ. let one : A.Denot = record { marker = record {}; name = γ; note = first } in let two : B.Denot = record { marker = record {}; name = γ; note = first } in
    sets ! (agg ! (no_more !)) refl (tt, tt) $ sets ! (agg ! (and_then ! (get ! refl) (no_more !))) refl (tt, (tt, tt)) $
    sets ! (agg ! (no_more !)) refl (tt, tt) $ sets ! (agg ! (and_then ! (get ! refl) (no_more !))) refl (tt, (tt, tt)) $
    sets ! (agg ! (and_then ! (get ! refl) (and_then ! (get ! refl) (no_more !)))) refl (tt, ((tt, tt), ((tt, tt), tt))) $
    returns ! (look_at ! 0 refl) $ free_all ! refl $ suffices ! _ (ends_at 𝓛 En hs c y v (one, two) (tt, tt) (tt, tt)) $
    use0 𝓛 (‵ ((Mark (Duplicate.the_type R).name (R ∷ []) R).own_val (tt, tt) (token ∷ []))) (made (Duplicate.the_type R).name (R ∷ []) R 𝓛) $ fjoin ! $ move ! (1 ∷ []) $
    use0 𝓛 (‵ ((Mark (Original.the_type R).name (R ∷ []) R).own_val (tt, tt) (token ∷ []))) (made (Original.the_type R).name (R ∷ []) R 𝓛) $ fjoin ! $
    nothing ! $ move ! (1 ∷ 2 ∷ 0 ∷ []) $ fjoin3 ! $ feq_i ! (List Val) (v ∷ []) (v ∷ []) refl $ fjoin ! $
    fpack ! (Valss (A ∷ B ∷ [])) (λ vss. fsep (feq (List Val) (v ∷ []) (vstruct (of_list (vss.0 ++ (vss.1.0 ++ []))) ∷ [])) (owns (A ∷ B ∷ []) (one, (two, tt)) vss)) (token ∷ [], (token ∷ [], tt)) $
    nothing ! $ nothing ! $ fjoin ! $ join ! $ move ! (1 ∷ 0 ∷ []) $ join ! $ frame ! $ tells ! refl $ tells ! refl $ tells_last ! refl)))
