-- The facts that an accepted credit control request makes, by its type (TS 29.212, 4.5.1 and 4.5.7).
use Rattle.std.specs.Prelude.{ℕ, List, [], ◌∷◌}
use Rattle.pcrf_values.specs.declared.tag.Tag.{Tag}
use Rattle.pcrf_values.specs.declared.numbers.RequestKind.{RequestKind}
use Rattle.pcrf_values.specs.declared.numbers.RequestKind.TheVariants.{Initial, Update, Termination}
use Rattle.pcrf_values.specs.Facts.{Fact, End}
use Rattle.pcrf_model.specs.Requests.{CcrValue}
use Rattle.pcrf_model.specs.Making.{request_says, said_facts, ccr_fields}

-- the fields that a request sets, with that as the type of the last request
abbrev pub fields_set : CcrValue → Tag → ℕ → List Fact
fields_set q t last = said_facts t (request_says q.user q.host q.realm last)

-- fields, or the end
abbrev pub made_facts : CcrValue → RequestKind → Tag → List Fact
made_facts q Initial t = ccr_fields q t
made_facts q Update t = ccr_fields q t
made_facts q Termination t = End ∷ []
