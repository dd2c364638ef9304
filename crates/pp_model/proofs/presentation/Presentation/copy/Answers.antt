use Rattle.std.proofs.Common.{refl, ◌∙◌, rules, w32, FitsSigned}
use Rattle.std.proofs.lemmas.Int.{to_z-of_z}
use Rattle.pp_model.proofs.ConfigLemmas.{same_presentation}
use Rattle.pp_model.proofs.presentation.Presentation.copy.Goals as goal

-- each variable is the one that was copied
pub returns : goal.returns
returns c =
    let fits : FitsSigned w32 c.args.self.now.nodecount = search rules in
    same_presentation _ c.args.self.now record {
      sort = refl;
      path_tree = refl;
      nodecount = to_z-of_z w32 _ fits;
      nodefraction = refl;
      edgefraction = refl;
      sample_index = c.in_ok-sample_index.ensures ∙ c.as_slice.ensures;
      unit = c.in_ok-unit.ensures ∙ c.as_slice-2.ensures;
      relative_percentages = refl;
      divide_by = refl;
      tagroot = c.in_ok-tagroot.ensures ∙ c.as_slice-3.ensures;
      tagleaf = c.in_ok-tagleaf.ensures ∙ c.as_slice-4.ensures;
    }
