use Rattle.std.proofs.Common.{◌++◌, List, ap, ◌∙◌, arith}
use Rattle.std.specs.List.{flat_map}
use Rattle.std.proofs.lemmas.List.{get_or_default, take_all}
use Rattle.std.proofs.lemmas.List.Elements.{All-get_or}
use Rattle.pp_units.specs.Shown.{shown}
use Rattle.pp_samples.specs.declared.tag_lines.TagLine.{TagLine}
use Rattle.pp_samples.specs.TagLines.{key_lines}
use Rattle.pp_samples.specs.Ranked.{IsKeyLine, line_key}
use Rattle.pp_samples.proofs.Ranking.{lines_more}
use Rattle.pp_samples.proofs.tag_lines.put_each_key.Goals as goal

pub loop-line-preserved : goal.loop-line-preserved
loop-line-preserved c samples all =
    let lines = c.args.lines.now in
    let i = c.loop-line.line-index in
    lines_more (λ (line : TagLine). key_lines (shown c.args.unit.now) samples (line_key line)) c.args.out.now c.loop-line.out c.put_key.new.out lines i _ c.loop-line-test.true
    (get_or_default lines i _ _ c.loop-line-test.true) (c.loop-line.invariant samples all)
    (c.in_ok-put_key.ensures samples (All-get_or (IsKeyLine samples c.args.tables.now) lines i _ c.loop-line-test.true all))

pub returns : goal.returns
returns c samples all =
    c.loop-line.invariant samples all
    ∙ ap (λ (lines : List TagLine). c.args.out.now ++ flat_map (λ line. key_lines (shown c.args.unit.now) samples (line_key line)) lines)
    (take_all c.loop-line.line-index c.args.lines.now (omega (arith, c.loop-line-test.false)))
