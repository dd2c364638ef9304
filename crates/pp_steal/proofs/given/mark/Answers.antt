use Rattle.std.proofs.Common.{ap, arith, ◌<◌, length, get_or, ◌∙◌}
use Rattle.pp_steal.proofs.Marking.{list_is, list_once, all_more}
use Rattle.pp_steal.proofs.given.mark.Goals as goal

pub mark_list-requires : goal.mark_list-requires
mark_list-requires c = let lt : c.loop-list.list-index < length c.args.taken.now.items = omega arith in
    list_once (length c.args.marks.now.items) (length c.loop-list.marks.items) c.args.taken.now.items c.loop-list.list-index c.as_slice.result.now c.requires.once c.loop-list.invariant.0 lt (c.as_slice.ensures ∙ list_is c.args.taken.now.items c.loop-list.list-index c.list-item.result lt (c.list-item.is ∙ ap (λ l. get_or l c.loop-list.list-index c.list-item.result) c.deref-list-items.ensures.value))

pub loop-list-preserved : goal.loop-list-preserved
loop-list-preserved c = let lt : c.loop-list.list-index < length c.args.taken.now.items = omega arith in (
  c.mark_list.ensures.count ∙ c.loop-list.invariant.0,
  all_more c.args.marks.now.items c.loop-list.marks.items c.mark_list.new.marks.items c.args.taken.now.items c.loop-list.list-index c.as_slice.result.now c.loop-list.invariant.0 lt (c.as_slice.ensures ∙ list_is c.args.taken.now.items c.loop-list.list-index c.list-item.result lt (c.list-item.is ∙ ap (λ l. get_or l c.loop-list.list-index c.list-item.result) c.deref-list-items.ensures.value)) c.loop-list.invariant.1 c.mark_list.ensures.marks,
)
