use Rattle.std.proofs.Common.{◌∙◌, ◌∷◌, [], ap, sym, w64, FitsSigned, rules, arith}
use Rattle.std.proofs.lemmas.Int.{to_z-of_z}
use Rattle.std.proofs.lemmas.List.{length-map, map-append}
use Rattle.pp_calltree.specs.Links.{node_by, nodes_by}
use Rattle.pp_calltree.proofs.Pruning.{read_cut, read_more, read_light, shown_none, shown_all}
use Rattle.pp_calltree.proofs.Read.{found_mapped}
use Rattle.pp_calltree.proofs.shown.pick_shown.Goals.{then-is_heavy+in_ok-push, else-is_heavy}
use Rattle.pp_calltree.proofs.shown.pick_shown.Goals as goal

pub loop-n-init : goal.loop-n-init
loop-n-init c names =
    shown_none c.args.total c.args.least.billionths (nodes_by names c.args.nodes.now) (nodes_by names c.new-shown.result) (ap (nodes_by names) c.new-shown.ensures)

pub loop-n-preserved-then-is_cut : goal.loop-n-preserved-then-is_cut
loop-n-preserved-then-is_cut c names =
    let x = node_by names c.node_at-node.result in
    read_cut c.args.total c.args.least.billionths (nodes_by names c.args.nodes.now) c.loop-n.n x (found_mapped (node_by names) c.args.nodes.now c.loop-n.n c.node_at-node.result c.node_at-node.ensures)
    c.loop-n.cut (nodes_by names c.loop-n.shown) (c.loop-n.invariant names) (sym c.is_cut.ensures ∙ c.if-is_cut.true)

pub loop-n-preserved : goal.loop-n-preserved
loop-n-preserved c names =
    let node = c.node_at-node.result in
    let x = node_by names node in
    let nodes = nodes_by names c.args.nodes.now in
    let shown = nodes_by names c.loop-n.shown in
    let found = found_mapped (node_by names) c.args.nodes.now c.loop-n.n c.node_at-node.result c.node_at-node.ensures in
    let cum : FitsSigned w64 node.cum = search rules in
    let heavy = rw (to_z-of_z w64 node.cum cum) at c.is_heavy.ensures in
    elim c.if-is_heavy.branch [
      | then-is_heavy+in_ok-push w ↦
          rw (w.shown-is, w.cut-is)
          (read_more c.args.total c.args.least.billionths nodes c.loop-n.n x found c.loop-n.cut shown (c.loop-n.invariant names)
          (nodes_by names w.push.new.self) (sym c.is_cut.ensures ∙ c.if-is_cut.false) (sym heavy ∙ w.if-is_heavy.true)
          (ap (nodes_by names) w.in_ok-push.ensures.ok ∙ map-append (node_by names) c.loop-n.shown (node ∷ [])))
      | else-is_heavy w ↦
          rw (w.shown-is, w.cut-is)
          (read_light c.args.total c.args.least.billionths nodes c.loop-n.n x found c.loop-n.cut shown (c.loop-n.invariant names)
          (sym c.is_cut.ensures ∙ c.if-is_cut.false) (sym heavy ∙ w.if-is_heavy.false))
    ]

pub returns : goal.returns
returns c names =
    shown_all c.args.total c.args.least.billionths c.loop-n.n c.loop-n.cut (nodes_by names c.args.nodes.now) (nodes_by names c.loop-n.shown)
    (omega (arith, c.loop-n-test.false, length-map c.args.nodes.now (node_by names))) (c.loop-n.invariant names)
