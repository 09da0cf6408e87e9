-- The operations that a site makes.
use Rattle.std.specs.Prelude.{ℕ, Bool, true, false, List, ◌++◌}
use Rattle.pcrf_values.specs.declared.numbers.RequestKind.{RequestKind}
use Rattle.pcrf_values.specs.declared.numbers.RequestKind.TheVariants.{Initial, Update, Termination}
use Rattle.pcrf_values.specs.RuleValues.{DeltaValue}
use Rattle.pcrf_values.specs.Facts.{Fact}
use Rattle.pcrf_model.specs.Sessions.{gx, af}
use Rattle.pcrf_model.specs.Operations.{Operation}
use Rattle.pcrf_model.specs.Requests.{CcrValue}
use Rattle.site_machine.specs.Gateway.{made_facts}
use Rattle.site_machine.specs.Told.{facts_told}

-- the request leaves its session open
abbrev pub opens : RequestKind → Bool
opens Initial = true
opens Update = true
opens Termination = false

-- the facts that it makes at a site, under a counter
abbrev pub fields_of : ℕ → ℕ → CcrValue → RequestKind → List Fact
fields_of site counter q k = made_facts q k (record { number = q.number; counter = counter; site = site })

-- the operation of these
abbrev pub operation_made : ℕ → ℕ → CcrValue → RequestKind → Operation
operation_made site counter q k = record {
  counter = counter;
  site = site;
  number = q.number;
  session = gx q.session;
  facts = fields_of site counter q k;
}

-- ---- what a gateway is told

-- the operation of a credit control request at a site, under a counter: with these facts
abbrev pub operation_with : ℕ → ℕ → CcrValue → List Fact → Operation
operation_with site counter q facts = record {
  counter = counter;
  site = site;
  number = q.number;
  session = gx q.session;
  facts = facts;
}

-- the operation of an initial request or an update: its fields, and what its gateway is told
abbrev pub operation_told : ℕ → ℕ → CcrValue → RequestKind → DeltaValue → Operation
operation_told site counter q k d = operation_with site counter q (fields_of site counter q k ++ facts_told site counter d)

-- the operation of a push of a session at a site, or of its retelling, under a counter
abbrev pub operation_pushed : ℕ → ℕ → List ℕ → DeltaValue → Operation
operation_pushed site counter session d = record {
  counter = counter;
  site = site;
  number = 0;
  session = gx session;
  facts = facts_told site counter d;
}

-- ---- application functions

-- the operation of a request on a session of an application function at a site, under a counter: with these facts
abbrev pub operation_on_call : ℕ → ℕ → List ℕ → List Fact → Operation
operation_on_call site counter session facts = record {
  counter = counter;
  site = site;
  number = 0;
  session = af session;
  facts = facts;
}
