-- The facts that an accepted AA request makes at a site, under a counter (TS 29.214, 4.4.1 and 4.4.2).
use Rattle.std.specs.Prelude.{ℕ, List}
use Rattle.pcrf_values.specs.declared.tag.Tag.{Tag}
use Rattle.pcrf_values.specs.Facts.{Fact}
use Rattle.pcrf_model.specs.Requests.{AarValue}
use Rattle.pcrf_model.specs.Making.{request_says, said_facts, aar_facts}

-- what it describes; an AA request has no number
abbrev pub call_facts : ℕ → ℕ → AarValue → List Fact
call_facts site counter q = aar_facts q (record { number = 0; counter = counter; site = site })

-- of that the fields of the session; what stands for the type of its request is 0
abbrev pub call_fields : AarValue → Tag → List Fact
call_fields q t = said_facts t (request_says q.user q.host q.realm 0)
