use Rattle.std.proofs.Common.{sym, ap, subst, ◌∙◌}
use Rattle.std.specs.List.{AllByRecursion}
use Rattle.std.proofs.lemmas.Iterator.Adapters.{YieldsList-from_vec}
use Rattle.std.proofs.lemmas.Iterator.Consumers.{YieldsList-end}
use Rattle.pp_base.proofs.Lists.{all_push}
use Rattle.pp_model.specs.Words.{NoRuleFails}
use Rattle.pp_share.proofs.Prefix.{map_same}
use Rattle.pp_merge.specs.Joined.{moved_behind, no_sizes, sizes_of, chained}
use Rattle.pp_merge.proofs.JoinedAll.{join_from-append}
use Rattle.pp_merge.proofs.join.join.Goals as goal

pub loop-valid-init : goal.loop-valid-init
loop-valid-init c = record {
  same = c.in_ok-joined.ensures ∙ ap (moved_behind no_sizes) c.into_profile-start.ensures.same;
  start = subst NoRuleFails c.into_profile-start.ensures.same c.into_profile-start.ensures.valid;
  valid = tt;
}

-- one profile more behind the others
pub loop-valid-preserved : goal.loop-valid-preserved
loop-valid-preserved c =
    let so_far = c.loop-valid.invariant in
    record {
      same =
          c.in_ok-next.ensures
          ∙ (λ j. chained (so_far.same j) (moved_behind (sizes_of (so_far.same j)) (c.into_profile-p.ensures.same j)))
          ∙ sym (join_from-append (moved_behind no_sizes c.args.first) c.loop-valid.yielded c.in-Some.valid);
      start = so_far.start;
      valid = all_push NoRuleFails c.loop-valid.yielded c.in-Some.valid so_far.valid (subst NoRuleFails c.into_profile-p.ensures.same c.into_profile-p.ensures.valid);
    }

-- all others were gone through
pub returns-clause-others : goal.returns-clause-others
returns-clause-others c =
    let gives = c.into_iter-valid-iterator.ensures.into_iter_gives in
    let road = YieldsList-from_vec {s = c.into_iter-valid-iterator.result} c.args.others.items gives.0 (gives.1 ∙ c.args.others.ok.0) in
    let end = YieldsList-end road c.loop-valid.yielded c.loop-valid.valid-iterator c.loop-valid.yielded_by c.next.result c.next.new.self c.in-None.is c.next.ensures.steps in
    subst (AllByRecursion NoRuleFails) (sym (map_same c.loop-valid.yielded) ∙ end.0) c.loop-valid.invariant.valid
