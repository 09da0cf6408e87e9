use Rattle.std.proofs.Common.{[], ◌∷◌, sym, subst}
use Rattle.std.proofs.lemmas.Result.{on_ok_weaker}
use Rattle.lattice_core.specs.SessionFacts.{session_fact}
use Rattle.pcrf_model.specs.Sessions.{af}
use Rattle.bind_index.specs.Index.{ListsFacts}
use Rattle.bind_index.proofs.Covering.{address_fact, prefix_fact}
use Rattle.bind_index.proofs.index.Index.list_call_value.Goals as goal

pub returns-in-Address-clause-lists : goal.returns-in-Address-clause-lists
returns-in-Address-clause-lists c =
    on_ok_weaker c.add_call.result
    (λ added t. subst (λ v. ListsFacts c.add_call.new.self (af c.args.id.now) (session_fact t v ∷ [])) (sym c.in-Address.is)
    (address_fact c.add_call.new.self (af c.args.id.now) t c.in-Address.address added))
    c.add_call.ensures.lists

pub returns-in-Prefix-clause-lists : goal.returns-in-Prefix-clause-lists
returns-in-Prefix-clause-lists c =
    on_ok_weaker c.add_prefixed_call.result
    (λ added t. subst (λ v. ListsFacts c.add_prefixed_call.new.self (af c.args.id.now) (session_fact t v ∷ [])) (sym c.in-Prefix.is)
    (prefix_fact c.add_prefixed_call.new.self (af c.args.id.now) t c.in-Prefix.prefix added))
    c.add_prefixed_call.ensures.lists
