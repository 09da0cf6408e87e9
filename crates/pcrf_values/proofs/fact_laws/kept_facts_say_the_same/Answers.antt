use Rattle.pcrf_values.proofs.WordLaws.{gx_is_live-held, af_is_live-held, home-held, flows-held, flow_status-held, given_rate-held, told_entries-held}
use Rattle.pcrf_values.proofs.fact_laws.kept_facts_say_the_same.Goals as goal

pub returns : goal.returns
returns c = record {
  gx_live = gx_is_live-held;
  af_live = af_is_live-held;
  homes = home-held;
  flow_numbers = flows-held;
  statuses = flow_status-held;
  rates = given_rate-held;
  told_names = told_entries-held;
}
