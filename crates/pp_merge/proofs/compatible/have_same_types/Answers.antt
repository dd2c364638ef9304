use Rattle.std.proofs.Common.{◌∙◌}
use Rattle.std.specs.Cmp.Lexicographic.{pointwise}
use Rattle.pp_share.specs.Header.{type_text}
use Rattle.pp_merge.specs.Merge.{same_type}
use Rattle.pp_merge.proofs.PointwiseLemmas.{pointwise-maps}
use Rattle.pp_merge.proofs.compatible.have_same_types.Goals as goal

-- the types are compared as they are described
pub returns-then-types-others : goal.returns-then-types-others
returns-then-types-others c =
    c.are_same_types.ensures
    ∙ (λ j. pointwise (λ a b. same_type (type_text c.args.p.now a) (type_text c.args.q.now b)) (c.as_slice-types.ensures j) (c.as_slice-others.ensures j))
    ∙ pointwise-maps same_type (type_text c.args.p.now) (type_text c.args.q.now) c.args.p.now.sample_type c.args.q.now.sample_type
