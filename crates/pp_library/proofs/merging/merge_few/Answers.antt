use Rattle.std.proofs.Common.{subst}
use Rattle.std.specs.List.{AllByRecursion}
use Rattle.pp_model.specs.Words.{NoRuleFails}
use Rattle.pp_library.proofs.MergeLemmas.{few_are, merged_countable}
use Rattle.pp_library.proofs.merging.merge_few.Goals as goal

-- the profiles are few enough
pub merge-requires-clause-few : goal.merge-requires-clause-few
merge-requires-clause-few c = (few_are c.args.profiles c.requires.few).long

pub merge-requires-clause-columns : goal.merge-requires-clause-columns
merge-requires-clause-columns c = (few_are c.args.profiles c.requires.few).columns

pub merge-requires-clause-samples : goal.merge-requires-clause-samples
merge-requires-clause-samples c = (few_are c.args.profiles c.requires.few).samples

-- what was merged can be counted
pub returns-clause-countable : goal.returns-clause-countable
returns-clause-countable c =
    merged_countable c.args.profiles c.merge.result c.requires.some c.requires.few (subst (AllByRecursion NoRuleFails) c.as_slice.ensures c.all_valid.ensures) c.merge.ensures
