use Rattle.std.proofs.Common.{◌≡◌, ◌<◌, length, get_or, map, take, sym, ap, ◌∙◌, subst, arith, rules}
use Rattle.std.proofs.lemmas.List.{take_all}
use Rattle.std.proofs.lemmas.Option.{get_or_from_slice_get}
use Rattle.pp_stack.specs.Runs.{kept_if}
use Rattle.pp_count.specs.Scope.{samples_in_scope}
use Rattle.pp_count.proofs.Chosen.{chosen_length}
use Rattle.pp_count.proofs.Ranges.{name_of}
use Rattle.pp_source.specs.Ledgers.{HasWalkedTo}
use Rattle.pp_source.proofs.Walking.{lines_ready, routines_ready, walked_more, walked_same}
use Rattle.pp_source.proofs.walk.add_kept.Goals.{then-branch+in_ok-add_seen, else-branch}
use Rattle.pp_source.proofs.walk.add_kept.Goals as goal

pub sample_at-sample-requires-clause-within : goal.sample_at-sample-requires-clause-within
sample_at-sample-requires-clause-within c = omega (arith, c.loop-place-test.true, chosen_length c.args.walk.now.scope c.args.kept.now c.requires.chosen c.requires.sound.scope)

pub add_seen-requires-clause-lines_ready : goal.add_seen-requires-clause-lines_ready
add_seen-requires-clause-lines_ready c =
    lines_ready c.args.walk.now c.loop-place.place c.sample_at-sample.result.now c.see.new.keys.items c.loop-place.sums
    (omega (arith, c.loop-place-test.true, chosen_length c.args.walk.now.scope c.args.kept.now c.requires.chosen c.requires.sound.scope))
    (sym (get_or_from_slice_get (samples_in_scope c.args.walk.now.scope) c.loop-place.place c.sample_at-sample.result.now c.sample_at-sample.result.now c.sample_at-sample.ensures.is))
    c.loop-place.invariant c.requires.sound.countable.fits

pub add_seen-requires-clause-routines_ready : goal.add_seen-requires-clause-routines_ready
add_seen-requires-clause-routines_ready c =
    routines_ready c.args.walk.now c.loop-place.place c.sample_at-sample.result.now c.see.new.keys.items c.loop-place.sums
    (omega (arith, c.loop-place-test.true, chosen_length c.args.walk.now.scope c.args.kept.now c.requires.chosen c.requires.sound.scope))
    (sym (get_or_from_slice_get (samples_in_scope c.args.walk.now.scope) c.loop-place.place c.sample_at-sample.result.now c.sample_at-sample.result.now c.sample_at-sample.ensures.is))
    c.loop-place.invariant c.requires.sound.countable.fits

pub loop-place-preserved : goal.loop-place-preserved
loop-place-preserved c =
    let here : c.loop-place.place < length (samples_in_scope c.args.walk.now.scope) =
    omega (arith, c.loop-place-test.true, chosen_length c.args.walk.now.scope c.args.kept.now c.requires.chosen c.requires.sound.scope) in
    let is : c.sample_at-sample.result.now ≡ get_or (samples_in_scope c.args.walk.now.scope) c.loop-place.place c.sample_at-sample.result.now =
    sym (get_or_from_slice_get (samples_in_scope c.args.walk.now.scope) c.loop-place.place c.sample_at-sample.result.now c.sample_at-sample.result.now c.sample_at-sample.ensures.is) in
    elim c.if-branch.branch [
      | then-branch+in_ok-add_seen w ↦
          rw w.sums-is
          (walked_more c.args.walk.now c.loop-place.place c.sample_at-sample.result.now c.see.new.keys.items c.loop-place.sums here is c.loop-place.invariant w.add_seen.new.sums
          (λ f holds. c.in_ok-see.ensures.seen f holds ∙ ap (λ b. kept_if b (map (name_of c.args.walk.now.scope) c.see.new.keys.items)) w.if-branch.true)
          c.in_ok-see.ensures.below (rw w.deref.ensures.value at w.in_ok-add_seen.ensures.lines) (rw w.deref.ensures.value at w.in_ok-add_seen.ensures.routines))
      | else-branch w ↦
          rw w.sums-is
          (walked_same c.args.walk.now c.loop-place.place c.sample_at-sample.result.now c.see.new.keys.items c.loop-place.sums here is c.loop-place.invariant
          (λ f holds. c.in_ok-see.ensures.seen f holds ∙ ap (λ b. kept_if b (map (name_of c.args.walk.now.scope) c.see.new.keys.items)) w.if-branch.false))
    ]

pub returns : goal.returns
returns c =
    let long : length (samples_in_scope c.args.walk.now.scope) ≡ length c.args.kept.now = chosen_length c.args.walk.now.scope c.args.kept.now c.requires.chosen c.requires.sound.scope in
    let past : c.loop-place.place ≡ length c.args.kept.now = search (rules, arith, c.loop-place-test.false) in
    subst (λ ss. HasWalkedTo c.args.walk.now (length c.args.kept.now) ss c.loop-place.sums) (take_all (length c.args.kept.now) (samples_in_scope c.args.walk.now.scope) (omega (arith, long)))
    (subst (λ n. HasWalkedTo c.args.walk.now n (take n (samples_in_scope c.args.walk.now.scope)) c.loop-place.sums) past c.loop-place.invariant)
