use Rattle.std.proofs.Common.{◌++◌, refl, ap, ◌∙◌, arith}
use Rattle.pp_share.proofs.HashLemmas.{both_hashed}
use Rattle.pp_share.proofs.hashes.Hashes.append.Goals as goal

-- the hashes of both
pub returns : goal.returns
returns c = λ hash front back a b.
    both_hashed hash front back c.args.self c.args.more _ a b
    (c.in_ok-extend_from_slice.ensures.items ∙ ap (λ l. c.args.self.list.items ++ l) c.deref.ensures.value)
    refl
    (omega arith)
