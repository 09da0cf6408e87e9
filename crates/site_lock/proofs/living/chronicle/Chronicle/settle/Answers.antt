use Rattle.std.proofs.Common.{rules, arith, ◌≡◌, [], ◌∷◌, subst}
use Rattle.std.specs.Prelude.{All}
use Rattle.std.proofs.lemmas.Grind.{common_steps}
use Rattle.std.proofs.lemmas.List.Elements.{All-append}
use Rattle.site_book.specs.Books.{SeatValue}
use Rattle.site_lock.proofs.Opening.{all_one}
use Rattle.site_lock.specs.Deeds.{ChronicleValue, IsAccountOf, OfSeats, calls}
use Rattle.site_lock.proofs.Settling.{accounts_settle}
use Rattle.site_lock.proofs.living.chronicle.Chronicle.settle.Goals as goal

pub loop-seat-preserved : goal.loop-seat-preserved
loop-seat-preserved g c =
    let P : SeatValue → Type 0 = IsAccountOf g.L.Roll.seats c.args.self.history in
    let one : P c.in-Some.seat = subst (λ (x : ChronicleValue). IsAccountOf g.L.Roll.seats x.history c.in-Some.seat) c.loop-seat.invariant.same c.audit.ensures.accounts in
    record {
      order = grind (arith, common_steps);
      same = search rules;
      accounts = All-append P c.loop-seat.yielded (c.in-Some.seat ∷ []) c.loop-seat.invariant.accounts (all_one P c.in-Some.seat one);
    }

pub returns-clause-settles : goal.returns-clause-settles
returns-clause-settles g c = λ count once. (
    let history = c.args.self.history in
    let n = g.L.Roll.seats in
    let of : OfSeats n (calls history) = search rules in
    let done : c.loop-seat.yielded ≡ c.args.seats.items = grind (arith, common_steps) in
    let all : All (IsAccountOf n history) c.args.seats.items = subst (All (IsAccountOf n history)) done c.loop-seat.invariant.accounts in
    accounts_settle n g.L.Roll.opening c.args.self c.args.seats.items of all count once)

pub returns-clause-accounts : goal.returns-clause-accounts
returns-clause-accounts g c =
    let done : c.loop-seat.yielded ≡ c.args.seats.items = grind (arith, common_steps) in
    subst (All (IsAccountOf g.L.Roll.seats c.args.self.history)) done c.loop-seat.invariant.accounts
