use Rattle.std.proofs.Common.{◌∷◌, length, sym}
use Rattle.std.proofs.lemmas.Bool.{OnTrue_at}
use Rattle.pp_merge.proofs.TogetherLemmas.{none_large}
use Rattle.pp_merge.proofs.merging.large_column.Goals as goal

-- all values are small together
pub returns-then-are_small-clause-least : goal.returns-then-are_small-clause-least
returns-then-are_small-clause-least c =
    sym (none_large (length c.args.first.now.sample_type) (c.args.first.now ∷ c.args.others.now) (OnTrue_at c.if-are_small.true c.requires))
