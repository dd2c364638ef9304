use Rattle.std.proofs.Common.{List, length, subst}
use Rattle.pp_share.specs.declared.repeats.Placed.{Placed}
use Rattle.pp_share.specs.Repeats.{FindsRepeats}
use Rattle.pp_share.specs.StackOrder.{kind_cmp}
use Rattle.pp_share.proofs.RepeatLemmas.{found_moved}
use Rattle.pp_share.proofs.repeats.sort_out.Goals as goal

-- the repeats are found, and then only moved
pub returns-clause-found : goal.returns-clause-found
returns-clause-found c =
    let order = kind_cmp c.args.kind.now in
    let placed : List Placed = c.sort_placed.new.placed.items in
    found_moved order placed (length placed) c.in_ok-repeats.repeats.items c.sort_repeats.new.repeats.items c.sort_repeats.ensures
    (subst (λ (l : List Placed). FindsRepeats order l (length l) c.in_ok-repeats.repeats.items) c.as_slice.ensures.value c.in_ok-repeats.ensures)
