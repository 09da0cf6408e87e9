use Rattle.pcrf_model.proofs.ReadingLaws.{serve-kept_of, push-kept_of, lacks_counter-kept_of, abort-kept_of, lacks_counter_to_abort-kept_of, retell-kept_of, lacks_counter_to_retell-kept_of}
use Rattle.pcrf_model.proofs.StepLaws.{steps-kept}
use Rattle.pcrf_model.proofs.laws.kept_facts_serve_the_same.Goals as goal

pub returns : goal.returns
returns c = record {
  requests = serve-kept_of;
  pushes = λ most t i h name. (push-kept_of most t i h name, lacks_counter-kept_of t i h name);
  aborts = λ i h name. (abort-kept_of i h name, lacks_counter_to_abort-kept_of i h name);
  retellings = λ i h id. (retell-kept_of i h id, lacks_counter_to_retell-kept_of h id);
  steps = steps-kept;
}
