use Rattle.site_lock.proofs.living.locked.LivingSite.settle.Goals as goal

pub returns-clause-accounts : goal.returns-clause-accounts
returns-clause-accounts g c = rw c.settle.ensures.same c.settle.ensures.accounts
