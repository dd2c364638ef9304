use Rattle.std.proofs.Common.{◌++◌, map, refl, sym, ap, ◌∙◌}
use Rattle.pp_units.specs.Words.{shown}
use Rattle.pp_tree.specs.Nodes.{near_text}
use Rattle.pp_tree.specs.Tree.{near_of}
use Rattle.pp_tree.specs.Ends.{neighbour_of}
use Rattle.pp_tree.specs.declared.near.Near.{Near as CodeNear}
use Rattle.pp_tree.proofs.Walking.{each_more, each_all, flat_map-mapped}
use Rattle.pp_tree.proofs.near.put_nears.Goals as goal

pub loop-near-preserved : goal.loop-near-preserved
loop-near-preserved c =
    each_more (λ (x : CodeNear). near_text (shown c.args.head.now.unit) c.args.whole (near_of (neighbour_of x))) c.args.nears.now c.args.out.now c.loop-near.near-index c.loop-near.out c.put_near.new.out
    _ _ c.loop-near-test.true refl c.loop-near.invariant c.in_ok-put_near.ensures

pub returns : goal.returns
returns c =
    each_all (λ (x : CodeNear). near_text (shown c.args.head.now.unit) c.args.whole (near_of (neighbour_of x))) c.args.nears.now c.args.out.now c.loop-near.near-index c.loop-near.out
    c.loop-near-test.false c.loop-near.invariant
    ∙ ap (λ t. c.args.out.now ++ t)
    (sym (flat_map-mapped (near_text (shown c.args.head.now.unit) c.args.whole) near_of (map neighbour_of c.args.nears.now)
    ∙ flat_map-mapped (λ n. near_text (shown c.args.head.now.unit) c.args.whole (near_of n)) neighbour_of c.args.nears.now))
