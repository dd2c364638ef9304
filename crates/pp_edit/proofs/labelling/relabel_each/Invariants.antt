use Rattle.std.proofs.Common.{◌≡◌, length}
use Rattle.pp_share.proofs.ChangeLemmas.{changed_front}
use Rattle.pp_edit.specs.Keys.{names_key}
use Rattle.pp_edit.specs.Labels.{relabelled_sample}
use Rattle.pp_edit.proofs.labelling.relabel_each.Given as goal

-- the samples so far have their labels
abbrev pub invariant-loop-place : goal.invariant-loop-place
invariant-loop-place l = record {
  so_far : l.samples ≡ changed_front (relabelled_sample (names_key l.key) l.labels) l.initial.samples l.place;
  as_long : length l.samples ≡ length l.initial.samples;
}
