use Rattle.std.proofs.Common.{◌≡◌, Option, List, ℕ, IfSome, Some, None}
use Rattle.std.specs.Io.KnownBytes.{Appends}
use Rattle.site_machine.specs.Sites.{SiteValue}
use Rattle.site_core.specs.declared.ended.Ended.{Ended}
use Rattle.site_core.specs.Conversations.{IsEnd, conversation_of, ServesSome}
use Rattle.site_core.specs.Conversing.{Conversed}
use Rattle.site_core.proofs.Wholes.{conversed_whole}
use Rattle.site_core.proofs.Somes.{conversed_some}
use Rattle.site_core.proofs.conversing.converse.Goals as goal

-- where the input is known
module _ (old : SiteValue) (from : Option (List ℕ)) (end : Ended) (new : SiteValue) (to : Option (List ℕ)) where
  ended : (source : Option (List ℕ)) → IfSome source (λ input. Conversed old input from end new to) → IfSome source (λ input. IsEnd end → end ≡ (conversation_of old input).ended)
  ended None h = tt
  ended (Some input) h = λ i. (conversed_whole old input from end new to i h).ended

  written : (source : Option (List ℕ)) → IfSome source (λ input. Conversed old input from end new to) → IfSome source (λ input. IsEnd end → Appends from to (conversation_of old input).bytes)
  written None h = tt
  written (Some input) h = λ i. (conversed_whole old input from end new to i h).written

  site : (source : Option (List ℕ)) → IfSome source (λ input. Conversed old input from end new to) → IfSome source (λ input. IsEnd end → new ≡ (conversation_of old input).site)
  site None h = tt
  site (Some input) h = λ i. (conversed_whole old input from end new to i h).site

  served : (source : Option (List ℕ)) → IfSome source (λ input. Conversed old input from end new to) → IfSome source (λ input. ServesSome old input new from to)
  served None h = tt
  served (Some input) h = conversed_some old input from end new to h

pub returns-clause-ended : goal.returns-clause-ended
returns-clause-ended g c = ended _ _ _ _ _ _ c.answer_all.ensures.conversed

pub returns-clause-written : goal.returns-clause-written
returns-clause-written g c = written _ _ _ _ _ _ c.answer_all.ensures.conversed

pub returns-clause-site : goal.returns-clause-site
returns-clause-site g c = site _ _ _ _ _ _ c.answer_all.ensures.conversed

pub returns-clause-served : goal.returns-clause-served
returns-clause-served g c = served _ _ _ _ _ _ c.answer_all.ensures.conversed
