use Rattle.std.proofs.Common.{All}
use Rattle.pp_model.specs.Finders.{Finder}
use Rattle.pp_grain.specs.Keys.{IsKeyOf}
use Rattle.pp_stack.specs.Filters.{AreVerdicts}
use Rattle.pp_tree.proofs.Marking.{AddedTo}
use Rattle.pp_tree.proofs.own.add_stack.Given as goal

-- the keys of the frames so far are added
abbrev pub invariant-loop-place : goal.invariant-loop-place
invariant-loop-place l = record {
  of_profile : All (IsKeyOf l.asked.l.now.profile) l.initial.keys.keys → All (IsKeyOf l.asked.l.now.profile) l.keys.keys;
  found : (find : Finder) → AreVerdicts l.asked.l.now.profile l.asked.own.now find → AddedTo l.asked.l.now.profile l.asked.config.now.grouping find l.stack l.initial.keys.keys l.place l.keys.keys;
}
