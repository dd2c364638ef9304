use Rattle.std.proofs.Common.{◌++◌, List, ℕ, refl, sym, subst, ◌∙◌}
use Rattle.pp_model.specs.Words.{IsCountable}
use Rattle.pp_model.proofs.LoadedLemmas.{same_loaded}
use Rattle.pp_pseudo.specs.Framed.{IsTagged}
use Rattle.pp_pseudo.specs.TagSums.{KeepsTagSums}
use Rattle.pp_pseudo.specs.WithTags.{tagged}
use Rattle.pp_pseudo.proofs.TagSumsLemmas.{keeps_tag_sums}
use Rattle.pp_pseudo.proofs.WithTagsLemmas.{tagged_merged, tagged_fits, tagged_countable, tagged_settled}
use Rattle.pp_pseudo.proofs.tagging.with_tags.Goals as goal

-- what is merged alone has the values of the profile
pub merge_alone-requires : goal.merge_alone-requires
merge_alone-requires c =
    tagged_fits c.args.l.now c.as_slice-root_keys.result.now c.as_slice-leaf_keys.result.now c.in_ok-p.p c.in_ok-p.ensures c.requires

-- the profile is the one with the frames of the keys
pub returns-clause-tagged : goal.returns-clause-tagged
returns-clause-tagged c =
    let l = c.args.l.now in
    let roots = c.args.roots.now in
    let leaves = c.args.leaves.now in
    let is : IsTagged l roots leaves c.in_ok-p.p =
    subst (λ (keys : List (List ℕ)). IsTagged l keys leaves c.in_ok-p.p) c.as_slice-root_keys.ensures
    (subst (λ (keys : List (List ℕ)). IsTagged l c.as_slice-root_keys.result.now keys c.in_ok-p.p) c.as_slice-leaf_keys.ensures c.in_ok-p.ensures) in
    same_loaded _ (tagged l roots leaves) (c.in_ok-profile.ensures ∙ tagged_merged l roots leaves c.in_ok-p.p is) refl refl

pub returns-clause-countable : goal.returns-clause-countable
returns-clause-countable c =
    subst IsCountable (sym c.in_ok-profile.ensures)
    (tagged_countable c.args.l.now c.as_slice-root_keys.result.now c.as_slice-leaf_keys.result.now c.in_ok-p.p c.in_ok-p.ensures c.requires)

-- and its sums are those of the labels
pub returns-clause-sums : goal.returns-clause-sums
returns-clause-sums c =
    let l = c.args.l.now in
    let roots = c.args.roots.now in
    let leaves = c.args.leaves.now in
    let is : IsTagged l roots leaves c.in_ok-p.p =
    subst (λ (keys : List (List ℕ)). IsTagged l keys leaves c.in_ok-p.p) c.as_slice-root_keys.ensures
    (subst (λ (keys : List (List ℕ)). IsTagged l c.as_slice-root_keys.result.now keys c.in_ok-p.p) c.as_slice-leaf_keys.ensures c.in_ok-p.ensures) in
    subst (KeepsTagSums l (roots ++ leaves)) (sym (c.in_ok-profile.ensures ∙ tagged_merged l roots leaves c.in_ok-p.p is))
    (keeps_tag_sums l roots leaves (tagged_settled l roots leaves c.in_ok-p.p is) is.valid)
