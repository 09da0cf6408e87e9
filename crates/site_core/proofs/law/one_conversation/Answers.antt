use Rattle.std.proofs.Common.{◌≡◌, ℕ, List, ap}
use Rattle.dia_codec.specs.Stream.{CutsInto}
use Rattle.dia_codec.specs.declared.stream.StreamEnd.{StreamEnd}
use Rattle.site_machine.specs.Sites.{SiteValue}
use Rattle.site_core.specs.Cuts.{Cuts}
use Rattle.site_core.specs.Conversations.{conversation, conversation_of}
use Rattle.site_core.proofs.Cutting.{cut_of_is, cut_of_only}
use Rattle.site_core.proofs.law.one_conversation.Goals as goal

-- the frames of any cut
only : (site : SiteValue) (stream : List ℕ) (frames : List (List ℕ)) (end : StreamEnd) → CutsInto stream frames end → conversation_of site stream ≡ conversation site frames end
unfolding conversation_of
only site stream frames end c = ap (λ (x : Cuts). conversation site x.frames x.end) (cut_of_only stream frames end c)

pub returns : goal.returns
returns c = record { cut = cut_of_is; only = only }
