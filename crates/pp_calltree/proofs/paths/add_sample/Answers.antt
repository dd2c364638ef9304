use Rattle.std.proofs.Common.{ℤ, ◌++◌, IfOk, subst, ◌∙◌, w64, rules}
use Rattle.std.proofs.lemmas.Int.{to_z-of_z}
use Rattle.pp_calltree.specs.Paths.{rooted_if, AreKeptAs}
use Rattle.pp_calltree.proofs.paths.add_sample.Goals as goal

pub returns : goal.returns
returns c = λ samples kept.
    subst (λ (z : ℤ). IfOk c.add_path.result (λ _. AreKeptAs c.add_path.new.paths (samples ++ rooted_if z c.args.keys.now)))
    (to_z-of_z w64 c.selected-value.result (search rules) ∙ c.selected-value.ensures) (c.add_path.ensures samples kept)
