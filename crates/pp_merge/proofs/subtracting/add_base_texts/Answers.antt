use Rattle.std.proofs.Common.{[], ◌∷◌, ◌++◌, codes, ◌∙◌}
use Rattle.std.proofs.lemmas.List.{append_assoc}
use Rattle.pp_merge.proofs.subtracting.add_base_texts.Goals as goal

-- one text behind the other
pub returns-clause-texts : goal.returns-clause-texts
returns-clause-texts c =
    c.in_ok-push-2.ensures.ok ∙ (λ j. c.in_ok-push.ensures.ok j ++ c.in_ok-from_slice-2.ensures j ∷ [])
    ∙ (λ j. (c.args.texts.now ++ c.in_ok-from_slice.ensures j ∷ []) ++ codes "true" ∷ [])
    ∙ append_assoc c.args.texts.now (codes "pprof::base" ∷ []) (codes "true" ∷ [])
