use Rattle.std.proofs.Common.{◌++◌, w64, pos, codes, ap, ◌∙◌}
use Rattle.std.proofs.lemmas.Int.{to_z-of_z}
use Rattle.pp_units.specs.Shown.{shown}
use Rattle.pp_units.specs.Numbers.{value_text, percent_text}
use Rattle.pp_base.proofs.TextLemmas.{joined}
use Rattle.pp_units.proofs.head.Head.put_showing.Goals as goal

pub returns : goal.returns
returns c =
    joined c.put_total.result c.args.out.now c.put_framed.new.out c.extend.new.self c.put_total.new.out
    (codes "Showing nodes accounting for " ++ value_text c.args.sum (shown c.args.self.now.unit) ++ codes ", ") (percent_text c.args.sum c.args.self.now.total)
    (codes " of " ++ value_text (pos c.args.self.now.total) (shown c.args.self.now.unit) ++ codes " total\n")
    (rw (to_z-of_z w64 c.args.sum c.ranges.sum) at c.in_ok-put_framed.ensures)
    (c.in_ok-extend.ensures.ok ∙ ap (λ b. c.put_framed.new.out ++ b) (c.bytes.ensures ∙ (rw (to_z-of_z w64 c.args.sum c.ranges.sum) at c.write_percent.ensures)))
    c.put_total.ensures
