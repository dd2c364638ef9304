use Rattle.std.proofs.Common.{◌∙◌, ◌+◌, ◌-◌, ap, sym, take, drop, option_map, arith}
use Rattle.std.proofs.lemmas.List.Elements.{All-take, All-drop}
use Rattle.pp_model.specs.Conditions.{IsSampleOf, RefersTo}
use Rattle.pp_count.specs.Matches.{matches_among}
use Rattle.pp_count.proofs.Chosen.{all_samples}
use Rattle.pp_count.proofs.Pieces.{all_members, all_refer}
use Rattle.pp_count.proofs.matched.range_matches.Goals as goal

pub matches-requires-clause-members : goal.matches-requires-clause-members
matches-requires-clause-members c =
    let p = c.args.scope.now.l.now.profile in
    rw c.as_slice-samples.ensures
    (All-take (IsSampleOf p) (c.args.first + c.args.count - c.args.first) (drop c.args.first c.get.result.now.sample)
    (All-drop (IsSampleOf p) c.args.first c.get.result.now.sample (all_members p c.get.result.now c.get.ensures.same)))

pub matches-requires-clause-refers : goal.matches-requires-clause-refers
matches-requires-clause-refers c =
    let p = c.args.scope.now.l.now.profile in
    rw c.as_slice-samples.ensures
    (All-take (RefersTo p) (c.args.first + c.args.count - c.args.first) (drop c.args.first c.get.result.now.sample)
    (All-drop (RefersTo p) c.args.first c.get.result.now.sample (all_refer p c.get.result.now c.get.ensures.same c.get.ensures.valid)))

-- none are chosen, so the range is of the profile's samples
pub returns-in_ok-found-in-None : goal.returns-in_ok-found-in-None
returns-in_ok-found-in-None c = λ none f holds.
    let p = c.args.scope.now.l.now.profile in
    c.in_ok-found-in-None.ensures f holds
    ∙ ap (λ n. matches_among p f c.args.scope.now.config.now.filtering (take n (drop c.args.first c.as_slice-samples.result.now))) (omega arith)
    ∙ ap (λ samples. matches_among p f c.args.scope.now.config.now.filtering (take c.args.count (drop c.args.first samples)))
    (c.as_slice-samples.ensures ∙ ap (λ q. q.sample) c.get.ensures.same
    ∙ sym (all_samples c.args.scope.now (λ i. option_map (λ numbers. numbers.now) (none i))))
