use Rattle.std.proofs.Common.{refl, ◌∙◌}
use Rattle.pp_model.proofs.ConfigLemmas.{same_environment}
use Rattle.pp_model.proofs.environment.Environment.copy.Goals as goal

-- each variable is the one that was copied
pub returns : goal.returns
returns c =
    same_environment _ c.args.self.now record {
      source_path = c.in_ok-source_path.ensures ∙ c.as_slice.ensures;
      trim_path = c.in_ok-trim_path.ensures ∙ c.as_slice-2.ensures;
      workers = refl;
    }
