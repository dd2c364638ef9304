use Rattle.std.proofs.Common.{◌||◌, sym, ap, ◌∙◌}
use Rattle.pp_tree.specs.Found.{holds_key}
use Rattle.pp_tree.proofs.Marking.{has_more, own_here}
use Rattle.pp_tree.proofs.own.add_frame.Goals as goal

pub returns-clause-found : goal.returns-clause-found
returns-clause-found c = λ find verdicts k.
    has_more c.args.asked.now.l.now.profile c.args.keys.now.keys c.insert.new.self.keys c.key_of-key.result k c.in_ok-insert.ensures.keys
    ∙ ap (λ t. holds_key c.args.asked.now.l.now.profile c.args.keys.now.keys k || t)
    (own_here c.args.asked.now.l.now.profile c.args.asked.now.config.now.grouping find c.args.stack.now c.as_slice.result.now c.args.place _ c.key_of-key.result k c.as_slice.ensures c.requires.place
    (sym c.counted.ensures ∙ c.if-not-counted.false) (sym (c.is_own.ensures find verdicts) ∙ c.if-not-is_own.false) c.key_of-key.ensures.texts)
