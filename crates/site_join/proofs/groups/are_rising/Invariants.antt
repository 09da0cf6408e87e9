use Rattle.std.proofs.Common.{◌≡◌, length, map}
use Rattle.pcrf_model.specs.Sessions.{session_cmp}
use Rattle.pcrf_model.specs.Forms.{is_rising}
use Rattle.site_join.specs.Groups.{Group, group_of}
use Rattle.site_join.proofs.groups.are_rising.Given as goal

-- all rise just where those that are left do
abbrev pub invariant-loop-first : goal.invariant-loop-first
invariant-loop-first l = is_rising session_cmp (map (λ (g : Group). g.0) (map group_of l.groups)) ≡ is_rising session_cmp (map (λ (g : Group). g.0) (map group_of l.left))

abbrev pub decreases-loop-first : goal.decreases-loop-first
decreases-loop-first l = length l.left
