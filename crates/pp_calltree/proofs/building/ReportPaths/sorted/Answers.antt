use Rattle.pp_calltree.proofs.Built.{moved_paths}
use Rattle.pp_calltree.proofs.Sorting.{rises_sorted}
use Rattle.pp_calltree.proofs.building.ReportPaths.sorted.Goals as goal

pub returns-clause-rises : goal.returns-clause-rises
returns-clause-rises c = rises_sorted c.sort_paths.new.paths.items c.in_ok-sort_paths.ensures.sorted

pub returns-clause-same : goal.returns-clause-same
returns-clause-same c =
    moved_paths _ c.in_ok-paths.paths.items c.sort_paths.new.paths.items (rw (c.deref.ensures.value, c.deref-2.ensures.value) at c.in_ok-paths.ensures) c.in_ok-sort_paths.ensures.same
