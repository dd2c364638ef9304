use Rattle.std.proofs.Common.{ℕ, arith, sym, subst, ◌∙◌}
use Rattle.pp_steal.specs.Lanes.{AreDealt, IsNewMake}
use Rattle.pp_steal.proofs.Making.{new_make}
use Rattle.pp_steal.proofs.Whole.{new_whole}
use Rattle.pp_steal.proofs.make.Lanes.make.Goals as goal

pub deal_out-requires-clause-unused : goal.deal_out-requires-clause-unused
deal_out-requires-clause-unused c = let d = c.in_ok-deques.ensures in
    subst (λ (n : ℕ). AreDealt c.args.deal n c.args.pieces 0 c.in_ok-deques.field-0.items) (sym d.count) (d.unused c.args.deal)

made : (c : goal.After-from_vec) → IsNewMake c.args.deal c.args.pieces c.args.n c.from_vec.result
made c =
    let d = c.deal_out.ensures in
    let r = c.in_ok-rows.ensures.same in
    let l = c.in_ok-lanes.ensures in
    rw c.from_vec.ensures (new_make c.deal_out.new.self.workers.items c.rows.new.self.workers.items c.args.deal _ c.args.pieces _ c.args.n _ (d.count ∙ c.in_ok-deques.ensures.count) r.homes l.count (r.deal ∙ d.deal) (r.pieces ∙ d.pieces) l.new)

pub returns-clause-make : goal.returns-clause-make
returns-clause-make c = made c

pub returns-clause-whole : goal.returns-clause-whole
returns-clause-whole c = let some = c.requires.some in new_whole c.args.deal c.args.pieces c.args.n c.from_vec.result (omega arith) (made c)
