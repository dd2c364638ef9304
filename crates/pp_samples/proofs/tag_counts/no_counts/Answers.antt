use Rattle.pp_samples.proofs.CountLemmas.{none_known}
use Rattle.pp_samples.proofs.tag_counts.no_counts.Goals as goal

-- nothing is remembered
pub returns-clause-sound : goal.returns-clause-sound
returns-clause-sound c p = record {
  even = c.in_ok-no_keys.ensures.even;
  known = λ label place held. absurd (none_known label place c.in_ok-new.field-0.slots.items c.in_ok-new.ensures held);
}
