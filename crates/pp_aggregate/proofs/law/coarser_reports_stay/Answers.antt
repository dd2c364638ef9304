use Rattle.pp_aggregate.proofs.ReportLemmas.{keys_are_same, frames_are_left, samples_are_same, sums_are_same}
use Rattle.pp_aggregate.proofs.law.coarser_reports_stay.Goals as goal

pub returns-clause-keys : goal.returns-clause-keys
returns-clause-keys c = keys_are_same

pub returns-clause-frames : goal.returns-clause-frames
returns-clause-frames c = frames_are_left

pub returns-clause-samples : goal.returns-clause-samples
returns-clause-samples c = samples_are_same

pub returns-clause-sums : goal.returns-clause-sums
returns-clause-sums c = sums_are_same
