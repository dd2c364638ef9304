use Rattle.std.proofs.Common.{subst, arith}
use Rattle.pp_model.specs.Words.{IsCompact}
use Rattle.pp_model.proofs.FrameLemmas.{one_le_read, within_read}
use Rattle.pp_count.proofs.part.frames_on.Goals as goal

-- no id is 0
pub overflow_sub-id : goal.overflow_sub-id
overflow_sub-id c =
    let compact : IsCompact c.args.scope.now.l.now.profile = subst IsCompact c.get-compact.ensures.same c.get-compact.ensures.compact in
    one_le_read c.args.scope.now.l.now.profile _ _ _ c.as_slice-id-items.ensures compact.locations c.requires.refers c.loop-id-test.true

-- each id is that of a location
pub row-row-requires : goal.row-row-requires
row-row-requires c =
    let compact : IsCompact c.args.scope.now.l.now.profile = subst IsCompact c.get-compact.ensures.same c.get-compact.ensures.compact in
    omega (
      arith,
      within_read c.args.scope.now.l.now.profile _ _ _ c.as_slice-id-items.ensures compact.locations c.requires.refers c.loop-id-test.true,
      c.requires.table.count,
    )
