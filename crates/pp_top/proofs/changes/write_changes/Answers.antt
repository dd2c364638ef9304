use Rattle.std.proofs.Common.{◌∙◌}
use Rattle.pp_base.proofs.TextLemmas.{appended}
use Rattle.pp_top.proofs.ComparedRanking.{changes_are}
use Rattle.pp_top.proofs.changes.write_changes.Goals as goal

pub returns-clause-ok : goal.returns-clause-ok
returns-clause-ok c = λ limit f ranked holds base.
    let s = c.args.survey.now in
    appended c.append.result c.append.new.self c.args.out.now c.put_lines.new.out _
    (rw (c.as_slice.ensures, c.in_ok-put_heading.ensures, c.new-text.ensures) at c.in_ok-put_lines.ensures
    ∙ changes_are s.l.now s.v.now s.config.now s.column limit f s.counted.now c.args.base.now c.args.t.now c.args.unit.now s.can s.counts ranked holds base)
    c.append.ensures.ok
