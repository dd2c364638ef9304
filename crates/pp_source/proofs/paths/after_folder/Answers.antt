use Rattle.std.proofs.Common.{◌∷◌, [], None, Some, sym, ap, ◌∙◌}
use Rattle.std.specs.Option.{option_and_then}
use Rattle.std.proofs.lemmas.Bool.Decides.{Decides-eqb}
use Rattle.std.proofs.lemmas.Slice.Eq.{strip_prefix_is}
use Rattle.pp_source.specs.Paths.{after_front}
use Rattle.pp_source.proofs.PathLemmas.{after_both, after_none, after_some, stripped}
use Rattle.pp_source.proofs.paths.after_folder.Goals as goal

pub returns-in-None : goal.returns-in-None
returns-in-None c =
    sym (after_both c.args.folder.now (47 ∷ []) c.args.file.now
    ∙ ap (option_and_then (after_front (47 ∷ []))) (after_none c.args.folder.now c.args.file.now (strip_prefix_is Decides-eqb c.args.file.now c.args.folder.now None c.in-None.ensures.cases)))

pub returns-in-Some : goal.returns-in-Some
returns-in-Some c =
    sym (after_both c.args.folder.now (47 ∷ []) c.args.file.now
    ∙ ap (option_and_then (after_front (47 ∷ []))) (after_some c.args.folder.now c.args.file.now c.in-Some.rest.now (strip_prefix_is Decides-eqb c.args.file.now c.args.folder.now (Some c.in-Some.rest) c.in-Some.ensures.cases))
    ∙ ap (λ f. after_front f c.in-Some.rest.now) (sym c.as_slice.ensures)
    ∙ stripped c.as_slice.result.now c.in-Some.rest.now c.strip_prefix-in-Some.result
    (strip_prefix_is Decides-eqb c.in-Some.rest.now c.as_slice.result.now c.strip_prefix-in-Some.result c.strip_prefix-in-Some.ensures.cases))
