-- What a state holds, session by session.
use Rattle.std.specs.Prelude.{ℕ, Bool, ◌&&◌, nat_le, List, [], ◌∷◌, map, Option, Some, None, if◌then◌else◌}
use Rattle.std.specs.Ordering.{is_eq}
use Rattle.std.specs.List.{flat_map, list_all}
use Rattle.pcrf_values.specs.Facts.{Fact}
use Rattle.pcrf_values.specs.Limits.{last_counter}
use Rattle.pcrf_model.specs.Sessions.{Session, session_cmp}
use Rattle.pcrf_model.specs.Holdings.{SessionFact, under, Holding}
use Rattle.pcrf_model.specs.Forms.{fits, is_counted, is_rising, is_session, stand_together}
use Rattle.site_join.specs.declared.operation.SessionFacts.{SessionFacts}
use Rattle.site_join.specs.States.{session_of, facts_in}

-- a session with facts on it
abbrev pub Group : Type 0
Group = Session × List Fact

-- as the definitions have it
abbrev pub group_of : SessionFacts → Group
group_of g = (session_of g, facts_in g)

-- the facts of groups, each with its session
abbrev pub facts_of_groups : List Group → List SessionFact
facts_of_groups = flat_map (λ g. under g.0 g.1)

-- under that clock
abbrev pub held_in : ℕ → List Group → Holding
held_in clock gs = record { facts = facts_of_groups gs; clock = clock }

-- What a state with that clock may hold of a session: facts as one operation's stand together, each with the tag of some operation up to the clock.
abbrev pub is_group : ℕ → Group → Bool
is_group clock g = is_session g.0 && stand_together g.1 && list_all (λ f. fits g.0.kind f && is_counted g.0.kind clock f) g.1

-- What a state with that clock may hold: of each session what it may, and the sessions strictly ascending.
abbrev pub are_groups : ℕ → List Group → Bool
are_groups clock gs = nat_le clock last_counter && is_rising session_cmp (map (λ g. g.0) gs) && list_all (is_group clock) gs

-- a fact before groups: in the first of them, if that is of its session
abbrev pub with_first : SessionFact → List Group → List Group
with_first x [] = (x.0, x.1 ∷ []) ∷ []
with_first x (g ∷ gs) = if is_eq (session_cmp x.0 g.0) then (g.0, x.1 ∷ g.1) ∷ gs else (x.0, x.1 ∷ []) ∷ g ∷ gs

-- facts that stand by session, as groups
abbrev pub groups_of_facts : List SessionFact → List Group
groups_of_facts [] = []
groups_of_facts (x ∷ xs) = with_first x (groups_of_facts xs)

-- the facts of a record by its Session-Id, if it has any
abbrev pub group_at : (List ℕ → Session) → List ℕ × List Fact → Option Group
group_at kind (id, []) = None
group_at kind (id, f ∷ fs) = Some (kind id, f ∷ fs)
