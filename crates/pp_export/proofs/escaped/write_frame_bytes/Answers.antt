use Rattle.std.proofs.Common.{◌++◌, get_or, map, set, ap, ◌∙◌, arith}
use Rattle.std.proofs.lemmas.List.{append-nil, drop_all, get_or_default, take_all}
use Rattle.std.proofs.lemmas.List.Edits.{map_over_more}
use Rattle.pp_export.specs.Escaped.{frame_byte}
use Rattle.pp_export.proofs.escaped.write_frame_bytes.Goals as goal

pub loop-byte-preserved : goal.loop-byte-preserved
loop-byte-preserved c =
    ap (set c.loop-byte.name c.loop-byte.byte-index) c.frame_byte.ensures
    ∙ map_over_more frame_byte c.args.name.now c.loop-byte.name c.loop-byte.byte-index (get_or c.loop-byte.name c.loop-byte.byte-index 0) c.loop-byte-test.true c.loop-byte.invariant
    (get_or_default c.loop-byte.name c.loop-byte.byte-index 0 (get_or c.loop-byte.name c.loop-byte.byte-index 0) (omega (arith, c.loop-byte-test.true, c.loop-byte.auto.name)))

pub returns : goal.returns
returns c =
    c.loop-byte.invariant
    ∙ (λ i. map frame_byte (take_all c.loop-byte.byte-index c.args.name.now c.loop-byte-test.false i) ++ drop_all c.loop-byte.byte-index c.args.name.now c.loop-byte-test.false i)
    ∙ append-nil (map frame_byte c.args.name.now)
