use Rattle.pp_calltree.proofs.Built.{gathered_room, sums_are}
use Rattle.pp_calltree.proofs.building.ReportPaths.sums.Goals as goal

pub list_paths-requires-clause-room : goal.list_paths-requires-clause-room
list_paths-requires-clause-room c =
    rw c.deref.ensures.value (gathered_room c.args.self.now c.in_ok-sorted.sorted.items c.in_ok-sorted.ensures.same)

pub list_paths-requires-clause-rises : goal.list_paths-requires-clause-rises
list_paths-requires-clause-rises c = rw c.deref.ensures.value c.in_ok-sorted.ensures.rises

pub returns : goal.returns
returns c =
    sums_are c.args.self.now c.in_ok-sorted.sorted.items c.in_ok-sorted.ensures.same c.in_ok-paths.paths.items
    (rw (c.get.ensures.same, c.deref.ensures.value) at c.in_ok-paths.ensures.are) (rw c.get.ensures.same at c.in_ok-paths.ensures.keys)
