-- Operations of given parts, as far as they have the form that the model's have.
use Rattle.std.specs.Prelude.{ℕ, Option, Some, None, if◌then◌else◌}
use Rattle.pcrf_model.specs.Operations.{Operation}
use Rattle.pcrf_model.specs.Forms.{is_operation}
use Rattle.site_join.specs.declared.operation.SessionFacts.{SessionFacts}
use Rattle.site_join.specs.States.{session_of, facts_in}

-- the operation of these parts
abbrev pub operation_of : ℕ → ℕ → ℕ → SessionFacts → Operation
operation_of counter site number facts = record {
  counter = counter;
  site = site;
  number = number;
  session = session_of facts;
  facts = facts_in facts;
}

-- the operation, where it has the form
abbrev pub if_formed : Operation → Option Operation
if_formed o = if is_operation o then Some o else None
