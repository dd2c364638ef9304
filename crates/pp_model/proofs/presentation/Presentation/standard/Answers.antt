use Rattle.std.proofs.Common.{refl}
use Rattle.pp_model.proofs.ConfigLemmas.{same_presentation, same_fraction}
use Rattle.pp_model.proofs.presentation.Presentation.standard.Goals as goal

-- each variable is the default
pub returns : goal.returns
returns c =
    same_presentation _ _ record {
      sort = refl;
      path_tree = refl;
      nodecount = refl;
      nodefraction = same_fraction _ _ refl;
      edgefraction = same_fraction _ _ refl;
      sample_index = c.new.ensures;
      unit = c.new-2.ensures;
      relative_percentages = refl;
      divide_by = refl;
      tagroot = c.new-3.ensures;
      tagleaf = c.new-4.ensures;
    }
