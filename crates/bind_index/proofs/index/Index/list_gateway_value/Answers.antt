use Rattle.std.proofs.Common.{[], ◌∷◌, sym, subst}
use Rattle.std.proofs.lemmas.Result.{on_ok_weaker}
use Rattle.lattice_core.specs.SessionFacts.{session_fact}
use Rattle.pcrf_model.specs.Sessions.{gx}
use Rattle.bind_index.specs.Index.{ListedUnder, ListsFacts}
use Rattle.bind_index.proofs.Covering.{address_fact, prefix_fact, subscribers_fact}
use Rattle.bind_index.proofs.index.Index.list_gateway_value.Goals as goal

pub returns-in-Address-clause-lists : goal.returns-in-Address-clause-lists
returns-in-Address-clause-lists c =
    on_ok_weaker c.add_gateway.result
    (λ added t. subst (λ v. ListsFacts c.add_gateway.new.self (gx c.args.id.now) (session_fact t v ∷ [])) (sym c.in-Address.is)
    (address_fact c.add_gateway.new.self (gx c.args.id.now) t c.in-Address.address added))
    c.add_gateway.ensures.lists

pub returns-in-Prefix-clause-lists : goal.returns-in-Prefix-clause-lists
returns-in-Prefix-clause-lists c =
    on_ok_weaker c.add_prefixed_gateway.result
    (λ added t. subst (λ v. ListsFacts c.add_prefixed_gateway.new.self (gx c.args.id.now) (session_fact t v ∷ [])) (sym c.in-Prefix.is)
    (prefix_fact c.add_prefixed_gateway.new.self (gx c.args.id.now) t c.in-Prefix.prefix added))
    c.add_prefixed_gateway.ensures.lists

pub returns-in-Subscribers-clause-lists : goal.returns-in-Subscribers-clause-lists
returns-in-Subscribers-clause-lists c =
    on_ok_weaker c.add_subscribed.result
    (λ listed t. subst (λ v. ListsFacts c.add_subscribed.new.self (gx c.args.id.now) (session_fact t v ∷ [])) (sym c.in-Subscribers.is)
    (subscribers_fact c.add_subscribed.new.self c.args.id.now t _ (subst (λ xs. ListedUnder c.add_subscribed.new.self.subscribed c.args.id.now xs) c.as_slice.ensures.members listed)))
    c.add_subscribed.ensures.lists
