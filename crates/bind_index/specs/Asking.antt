-- What is held, were this the record of a session that asks for a binding.
use Rattle.std.specs.Prelude.{List}
use Rattle.pcrf_values.specs.Facts.{Fact}
use Rattle.pcrf_model.specs.Holdings.{Holding, with_facts_of}
use Rattle.pcrf_model.specs.Sessions.{Session}

-- with the facts of this record in place of those that the session had
abbrev pub with_record : Holding → Session → List Fact → Holding
with_record h s facts = with_facts_of h s facts h.clock
