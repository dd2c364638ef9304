use Rattle.std.proofs.Common.{◌≡◌, [], ◌∷◌, length}
use Rattle.pp_merge.specs.Scale.{labelled_sample}
use Rattle.pp_share.proofs.ChangeLemmas.{changed_front}
use Rattle.pp_merge.proofs.subtracting.label_samples.Given as goal

-- the samples so far are labelled
abbrev pub invariant-loop-place : goal.invariant-loop-place
invariant-loop-place l = record {
  so_far : l.samples ≡ changed_front (labelled_sample (l.label ∷ [])) l.initial.samples l.place;
  as_long : length l.samples ≡ length l.initial.samples;
}
