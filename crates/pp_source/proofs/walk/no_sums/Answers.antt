use Rattle.std.proofs.Common.{[], length, refl, arith}
use Rattle.std.proofs.lemmas.List.Elements.{All-nil}
use Rattle.pp_count.specs.Parts.{HasBelow}
use Rattle.pp_source.proofs.Walking.{none_added}
use Rattle.pp_source.proofs.walk.no_sums.Goals as goal

pub returns : goal.returns
returns c = record {
  seen = [];
  are = record { below = All-nil (HasBelow (length c.args.walk.now.scope.table.now.names)); within = omega arith; are = λ f holds. refl };
  lines = none_added c.args.walk.now.lines.now c.in_ok-lines.lines c.in_ok-lines.ensures;
  routines = none_added c.args.walk.now.routines.now c.in_ok-routines.routines c.in_ok-routines.ensures;
}
