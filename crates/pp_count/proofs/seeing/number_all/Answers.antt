use Rattle.std.proofs.Common.{refl, ap, ◌∙◌, subst, arith}
use Rattle.pp_model.specs.Rules.{IsCompact}
use Rattle.pp_model.specs.Frames.{frames_from}
use Rattle.pp_model.proofs.FrameLemmas.{one_le_read, within_read}
use Rattle.pp_count.specs.Seeing.{keys_of_stack}
use Rattle.pp_count.proofs.Located.{located_none, located_more, located_all}
use Rattle.pp_count.proofs.seeing.number_all.Goals as goal

pub loop-id-init : goal.loop-id-init
loop-id-init c = located_none c.args.scope.now.l.now.profile c.args.scope.now.grouping c.args.scope.now.table.now c.as_slice-id-items.result.now c.args.keys.now.items c.requires.none

pub overflow_sub-id : goal.overflow_sub-id
overflow_sub-id c =
    let compact : IsCompact c.args.scope.now.l.now.profile = subst IsCompact c.get-compact.ensures.same c.get-compact.ensures.compact in
    one_le_read c.args.scope.now.l.now.profile _ _ _ c.as_slice-id-items.ensures compact.locations c.requires.refers c.loop-id-test.true

pub add_to-requires : goal.add_to-requires
add_to-requires c =
    let compact : IsCompact c.args.scope.now.l.now.profile = subst IsCompact c.get-compact.ensures.same c.get-compact.ensures.compact in
    omega (
      arith,
      within_read c.args.scope.now.l.now.profile _ _ _ c.as_slice-id-items.ensures compact.locations c.requires.refers c.loop-id-test.true,
      c.requires.table.count,
    )

pub loop-id-preserved : goal.loop-id-preserved
loop-id-preserved c =
    let p = c.args.scope.now.l.now.profile in
    let compact : IsCompact p = subst IsCompact c.get-compact.ensures.same c.get-compact.ensures.compact in
    rw c.in_ok-add_to.ensures
    (located_more p c.args.scope.now.grouping c.args.scope.now.table.now c.as_slice-id-items.result.now c.loop-id.id-index c.loop-id.keys.items
    _ c.requires.table c.loop-id-test.true
    (omega (
      arith,
      within_read p _ _ _ c.as_slice-id-items.ensures compact.locations c.requires.refers c.loop-id-test.true,
      c.requires.table.count,
    ))
    refl c.loop-id.invariant)

pub returns-clause-named : goal.returns-clause-named
returns-clause-named c =
    let p = c.args.scope.now.l.now.profile in
    let grouping = c.args.scope.now.grouping in
    located_all p grouping c.args.scope.now.table.now c.as_slice-id-items.result.now c.loop-id.id-index c.loop-id.keys.items c.requires.all c.loop-id-test.false c.loop-id.invariant
    ∙ ap (λ ids. keys_of_stack p grouping (frames_from p 0 ids)) c.as_slice-id-items.ensures
