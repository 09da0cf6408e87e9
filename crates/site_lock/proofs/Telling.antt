-- Which replies tell how many operations the site made itself, and what they tell.
use Rattle.std.proofs.Common.{◌≡◌, ℕ, ◌<◌, leb, Bool, true, false, cond, not, ◌&&◌, List, length, Option, Some, None, option_map, unwrap_or, Result, Ok, Err, IfOk, refl, sym, subst}
use Rattle.std.proofs.lemmas.Bool.{leb-false}
use Rattle.pcrf_values.specs.declared.refusal.Refusal.{Refusal}
use Rattle.pcrf_values.specs.declared.numbers.RequestKind.{RequestKind}
use Rattle.pcrf_values.specs.declared.numbers.RequestKind.TheVariants.{Initial, Update, Termination}
use Rattle.pcrf_values.specs.Limits.{delta_limit}
use Rattle.pcrf_model.specs.Tables.{Tables}
use Rattle.pcrf_model.specs.Holdings.{Holding}
use Rattle.pcrf_model.specs.Sessions.{Session, gx}
use Rattle.pcrf_model.specs.Views.{View, view}
use Rattle.pcrf_model.specs.Requests.{CcrValue, AarValue, StrValue, RequestValue, Ccr, Aar, Str, Base}
use Rattle.pcrf_model.specs.Replies.{ReplyValue, OnGx, Rejected, Refused, Outcome}
use Rattle.pcrf_model.specs.Refusals.{ccr_refusal, aar_refusal, str_refusal}
use Rattle.pcrf_model.specs.Serving.{serve, serve_ccr, serve_aar, serve_str, accepted_ccr, description_outcome, session_end_outcome, provision_outcome, refusal_or}
use Rattle.pcrf_model.specs.Pushing.{push, due_session, push_outcome, nothing_pushed}
use Rattle.pcrf_model.specs.Aborting.{abort, abandoned_session, abort_outcome, nothing_aborted}
use Rattle.pcrf_model.specs.Retelling.{retell, was_told, retell_outcome, nothing_retold}
use Rattle.pcrf_model.specs.Steps.{SiteState, SiteEvent, MayReply, Serve, Push, Ops, Whole, AskOwn, AskWhole, Abort, Retell}
use Rattle.site_machine.specs.declared.event.Reply.{Reply}
use Rattle.site_machine.specs.declared.fault.StepFault.{StepFault}
use Rattle.site_machine.specs.Values.{reply_value}
use Rattle.site_machine.specs.Sites.{SiteMayReply}
use Rattle.site_book.specs.Books.{BookValue, is_full, is_short}
use Rattle.site_lock.specs.Calls.{TellsPast}

-- refused or accepted
refused_tells : (past : ℕ) (as_reply : Refusal → ReplyValue) (refusal : Option Refusal) (accepted : Outcome) → ((r : Refusal) → TellsPast past (as_reply r))
    → TellsPast past accepted.reply → TellsPast past (refusal_or as_reply refusal accepted).reply
refused_tells past as_reply None accepted refused a = a
refused_tells past as_reply (Some r) accepted refused a = refused r

module _ (past most : ℕ) (t : Tables) (i : ℕ) (h : Holding) where
  provisioned_tells : (q : CcrValue) → TellsPast past (provision_outcome most t i h q).reply
  unfolding provision_outcome
  provisioned_tells q = tt

  accepted_tells : (q : CcrValue) (kind : RequestKind) → TellsPast past (accepted_ccr most t i h q kind).reply
  accepted_tells q Initial = provisioned_tells q
  accepted_tells q Update = provisioned_tells q
  accepted_tells q Termination = tt

  ccr_tells : (q : CcrValue) → TellsPast past (serve_ccr most t i h q).reply
  unfolding serve_ccr
  ccr_tells q = refused_tells past (λ r. OnGx (Rejected r)) (ccr_refusal t h q) (accepted_ccr most t i h q q.kind) (λ r. tt) (accepted_tells q q.kind)

  aar_tells : (q : AarValue) → TellsPast past (serve_aar t i h q).reply
  unfolding serve_aar
  aar_tells q = refused_tells past Refused (aar_refusal t i h q) (description_outcome i h q) (λ r. tt) tt

  str_tells : (q : StrValue) → TellsPast past (serve_str i h q).reply
  unfolding serve_str
  str_tells q = refused_tells past Refused (str_refusal h q) (session_end_outcome i h q) (λ r. tt) tt

  serve_tells : (q : RequestValue) → TellsPast past (serve most t i h q).reply
  serve_tells (Ccr q) = ccr_tells q
  serve_tells (Aar q) = aar_tells q
  serve_tells (Str q) = str_tells q
  serve_tells (Base q) = tt

  one_told : (v : View) (s : Option Session) → TellsPast past (unwrap_or (option_map (push_outcome most t i h v) s) nothing_pushed).reply
  one_told v None = tt
  one_told v (Some s) = tt

  push_tells : (name : Option (List ℕ)) → TellsPast past (push most t i h name).reply
  unfolding push
  push_tells name = one_told (view h.facts) (due_session t i (view h.facts) name)

  one_abort_told : (v : View) (s : Option Session) → TellsPast past (unwrap_or (option_map (abort_outcome i h v) s) nothing_aborted).reply
  one_abort_told v None = tt
  one_abort_told v (Some s) = tt

  abort_tells : (name : Option (List ℕ)) → TellsPast past (abort i h name).reply
  unfolding abort
  abort_tells name = one_abort_told (view h.facts) (abandoned_session i (view h.facts) name)

  retold_or_not : (v : View) (s : Session) (told : Bool) → TellsPast past (cond told (retell_outcome i h v s) nothing_retold).reply
  retold_or_not v s true = tt
  retold_or_not v s false = tt

  retell_tells : (id : List ℕ) → TellsPast past (retell i h id).reply
  unfolding retell
  retell_tells id = retold_or_not (view h.facts) (gx id) (was_told (view h.facts) (gx id))

-- A reply to a request, a push, an abort or a retelling tells nothing of it, and one to whoever asks tells how many there are.
pub told_past : (past most : ℕ) (t : Tables) (i : ℕ) (s : SiteState) (e : SiteEvent) (r : ReplyValue) → past < length s.log → MayReply most t i s e r → TellsPast past r
told_past past most t i s (Serve q) r lt may = subst (TellsPast past) (sym may) (serve_tells past most t i s.holding q)
told_past past most t i s (Push name) r lt may = subst (TellsPast past) (sym may.1) (push_tells past most t i s.holding name)
told_past past most t i s (Ops operations) r lt may = subst (TellsPast past) (sym may.2) tt
told_past past most t i s (Whole holding) r lt may = subst (TellsPast past) (sym may) tt
told_past past most t i s (AskOwn from) r lt may = subst (TellsPast past) (sym may) lt
told_past past most t i s AskWhole r lt may = subst (TellsPast past) (sym may) lt
told_past past most t i s (Abort name) r lt may = subst (TellsPast past) (sym may.1) (abort_tells past most t i s.holding name)
told_past past most t i s (Retell id) r lt may = subst (TellsPast past) (sym may.1) (retell_tells past most t i s.holding id)

-- who waits doesn't have to wait longer though an entry can be added, so there are more
grown : (full fits : Bool) → (full ≡ true → ⊥) → not full && fits ≡ false → fits ≡ false
grown true fits room short = absurd (room refl)
grown false fits room short = short

-- a book in which nobody has to wait longer tells more, where it isn't full
pub told_grown : (past : ℕ) (b : BookValue) (e : SiteEvent) (answer : Result Reply StepFault) (fault : StepFault) → is_short b past ≡ false
    → (is_full b ≡ true → answer ≡ Err fault) → IfOk answer (λ r. SiteMayReply b.site e (reply_value r)) → IfOk answer (λ r. TellsPast past (reply_value r))
told_grown past b e (Err f) fault short full may = tt
told_grown past b e (Ok r) fault short full may =
    let fits : leb (length b.site.state.log) past ≡ false = grown (is_full b) (leb (length b.site.state.log) past) (λ f. ok_is_no_fault (full f)) short in
    told_past past delta_limit b.site.tables b.site.number b.site.state e (reply_value r) (leb-false (length b.site.state.log) past fits) may
  where
    ok_is_no_fault : Ok r ≡ Err fault → ⊥
    ok_is_no_fault same = cc
