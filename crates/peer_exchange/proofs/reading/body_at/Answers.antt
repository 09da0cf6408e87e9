use Rattle.std.proofs.Common.{◌≡◌, ℕ, List, ◌∷◌, ◌++◌, IfOk, sym, ap, ◌∙◌, subst, rules}
use Rattle.peer_exchange.specs.Spelling.{body_bytes}
use Rattle.peer_exchange.specs.Values.{body_value}
use Rattle.peer_exchange.proofs.reading.body_at.Goals as goal

pub returns-in-1-clause-spelled : goal.returns-in-1-clause-spelled
returns-in-1-clause-spelled c =
    let kind : c.in_ok-kind.kind ≡ 1 = search rules in
    subst (λ (b : List ℕ). IfOk c.range_at.result (λ x. b ≡ body_bytes (body_value x.0) ++ x.1.now)) (sym (c.in_ok-kind.ensures.spelled ∙ ap (λ (k : ℕ). k ∷ c.in_ok-kind.rest.now) kind)) c.range_at.ensures.spelled

pub returns-in-2-clause-spelled : goal.returns-in-2-clause-spelled
returns-in-2-clause-spelled c =
    let kind : c.in_ok-kind.kind ≡ 2 = search rules in
    subst (λ (b : List ℕ). IfOk c.snapshot_at.result (λ x. b ≡ body_bytes (body_value x.0) ++ x.1.now)) (sym (c.in_ok-kind.ensures.spelled ∙ ap (λ (k : ℕ). k ∷ c.in_ok-kind.rest.now) kind)) c.snapshot_at.ensures.spelled

pub returns-in-3-clause-spelled : goal.returns-in-3-clause-spelled
returns-in-3-clause-spelled c =
    let kind : c.in_ok-kind.kind ≡ 3 = search rules in
    subst (λ (b : List ℕ). IfOk c.acknowledgement_at.result (λ x. b ≡ body_bytes (body_value x.0) ++ x.1.now)) (sym (c.in_ok-kind.ensures.spelled ∙ ap (λ (k : ℕ). k ∷ c.in_ok-kind.rest.now) kind)) c.acknowledgement_at.ensures.spelled
