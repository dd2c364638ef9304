use Rattle.std.proofs.Common.{◌∙◌, ap, rules}
use Rattle.std.specs.List.{filter}
use Rattle.std.proofs.lemmas.Fn.{filter_same}
use Rattle.pp_share.specs.SampleKeys.{has_values}
use Rattle.pp_share.proofs.HashLemmas.{all_kept}
use Rattle.pp_share.proofs.samples.counting.Goals as goal

-- all samples
pub returns-then-have_values : goal.returns-then-have_values
returns-then-have_values c = all_kept c.args.samples (c.requires c.if-have_values.true)

-- the samples that the closure keeps
pub returns : goal.returns
returns c =
    c.from_vec.ensures
    ∙ filter_same _ has_values _ (λ x b f' k. search rules) _ _ c.retain.ensures.filtered
    ∙ ap (filter has_values) c.into_vec-kept.ensures
