use Rattle.std.proofs.Common.{◌∙◌, sym}
use Rattle.pp_source.proofs.Parts.{parts_more, parts_same}
use Rattle.pp_source.proofs.found.names_found.Goals.{then-is_own+in_ok-insert, else-is_own}
use Rattle.pp_source.proofs.found.names_found.Goals as goal

pub loop-number-preserved : goal.loop-number-preserved
loop-number-preserved c = elim c.if-is_own.branch [
  | then-is_own+in_ok-insert w ↦
      rw w.names-is
      (parts_more c.args.v.now.own c.args.part c.args.keys.now c.loop-number.number c.key-key.result c.loop-number.names.keys c.key-key.ensures w.insert.new.self.keys w.part_key.result
      (sym c.is_own.ensures ∙ w.if-is_own.true) c.loop-number.invariant w.part_key.ensures w.in_ok-insert.ensures.keys)
  | else-is_own w ↦
      rw w.names-is
      (parts_same c.args.v.now.own c.args.part c.args.keys.now c.loop-number.number c.key-key.result c.loop-number.names.keys c.key-key.ensures (sym c.is_own.ensures ∙ w.if-is_own.false) c.loop-number.invariant)
]
