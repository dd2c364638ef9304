use Rattle.std.proofs.Common.{◌≡◌, ◌<◌, length, get_or, Some, None, option_map, ap, ◌∙◌, arith}
use Rattle.std.specs.List.{slice_get}
use Rattle.pp_count.specs.Scope.{chosen_of}
use Rattle.pp_count.proofs.Chosen.{all_samples, chosen_length, chosen_below, chosen_at, is_read}
use Rattle.pp_count.proofs.scope.sample_at.Goals as goal

pub offset_bounds-numbers-place : goal.offset_bounds-numbers-place
offset_bounds-numbers-place c = omega (arith, c.requires.within, c.requires.few)

pub bounds-numbers-place : goal.bounds-numbers-place
bounds-numbers-place c =
    let is : chosen_of c.args.scope.now ≡ Some c.in-Some.numbers.now = λ i. option_map (λ numbers. numbers.now) (c.in-Some.is i) in
    omega (arith, c.requires.within, chosen_length c.args.scope.now c.in-Some.numbers.now is c.requires.sound)

pub bounds-samples-numbers : goal.bounds-samples-numbers
bounds-samples-numbers c =
    let is : chosen_of c.args.scope.now ≡ Some c.in-Some.numbers.now = λ i. option_map (λ numbers. numbers.now) (c.in-Some.is i) in
    omega (arith, chosen_below c.args.scope.now c.in-Some.numbers.now is c.requires.sound c.args.place c.requires.within, ap length c.as_slice-samples.ensures, ap (λ p. length p.sample) c.get.ensures.same)

pub returns-in-None-clause-is : goal.returns-in-None-clause-is
returns-in-None-clause-is c =
    let none : chosen_of c.args.scope.now ≡ None = λ i. option_map (λ numbers. numbers.now) (c.in-None.is i) in
    let here : c.args.place < length c.as_slice-samples.result.now =
    omega (arith, c.requires.within, ap length (all_samples c.args.scope.now none), ap length c.as_slice-samples.ensures, ap (λ p. length p.sample) c.get.ensures.same) in
    ap (λ xs. slice_get xs c.args.place) (all_samples c.args.scope.now none)
    ∙ (is_read c.args.scope.now.l.now.profile c.get.result.now c.as_slice-samples.result.now c.args.place c.index-samples-place.result c.as_slice-samples.ensures c.get.ensures.same c.get.ensures.valid here c.index-samples-place.is).found

pub returns-in-None-clause-refers : goal.returns-in-None-clause-refers
returns-in-None-clause-refers c =
    let none : chosen_of c.args.scope.now ≡ None = λ i. option_map (λ numbers. numbers.now) (c.in-None.is i) in
    let here : c.args.place < length c.as_slice-samples.result.now =
    omega (arith, c.requires.within, ap length (all_samples c.args.scope.now none), ap length c.as_slice-samples.ensures, ap (λ p. length p.sample) c.get.ensures.same) in
    (is_read c.args.scope.now.l.now.profile c.get.result.now c.as_slice-samples.result.now c.args.place c.index-samples-place.result c.as_slice-samples.ensures c.get.ensures.same c.get.ensures.valid here c.index-samples-place.is).refers

pub returns-in-Some-clause-is : goal.returns-in-Some-clause-is
returns-in-Some-clause-is c =
    let is : chosen_of c.args.scope.now ≡ Some c.in-Some.numbers.now = λ i. option_map (λ numbers. numbers.now) (c.in-Some.is i) in
    let here : get_or c.in-Some.numbers.now c.args.place 0 < length c.as_slice-samples.result.now =
    omega (arith, chosen_below c.args.scope.now c.in-Some.numbers.now is c.requires.sound c.args.place c.requires.within, ap length c.as_slice-samples.ensures, ap (λ p. length p.sample) c.get.ensures.same) in
    chosen_at c.args.scope.now c.in-Some.numbers.now is c.requires.sound c.args.place c.index-samples-numbers.result c.requires.within
    (is_read c.args.scope.now.l.now.profile c.get.result.now c.as_slice-samples.result.now _ c.index-samples-numbers.result c.as_slice-samples.ensures c.get.ensures.same c.get.ensures.valid here c.index-samples-numbers.is).found

pub returns-in-Some-clause-member : goal.returns-in-Some-clause-member
returns-in-Some-clause-member c =
    let is : chosen_of c.args.scope.now ≡ Some c.in-Some.numbers.now = λ i. option_map (λ numbers. numbers.now) (c.in-Some.is i) in
    let here : get_or c.in-Some.numbers.now c.args.place 0 < length c.as_slice-samples.result.now =
    omega (arith, chosen_below c.args.scope.now c.in-Some.numbers.now is c.requires.sound c.args.place c.requires.within, ap length c.as_slice-samples.ensures, ap (λ p. length p.sample) c.get.ensures.same) in
    (is_read c.args.scope.now.l.now.profile c.get.result.now c.as_slice-samples.result.now _ c.index-samples-numbers.result c.as_slice-samples.ensures c.get.ensures.same c.get.ensures.valid here c.index-samples-numbers.is).member

pub returns-in-Some-clause-refers : goal.returns-in-Some-clause-refers
returns-in-Some-clause-refers c =
    let is : chosen_of c.args.scope.now ≡ Some c.in-Some.numbers.now = λ i. option_map (λ numbers. numbers.now) (c.in-Some.is i) in
    let here : get_or c.in-Some.numbers.now c.args.place 0 < length c.as_slice-samples.result.now =
    omega (arith, chosen_below c.args.scope.now c.in-Some.numbers.now is c.requires.sound c.args.place c.requires.within, ap length c.as_slice-samples.ensures, ap (λ p. length p.sample) c.get.ensures.same) in
    (is_read c.args.scope.now.l.now.profile c.get.result.now c.as_slice-samples.result.now _ c.index-samples-numbers.result c.as_slice-samples.ensures c.get.ensures.same c.get.ensures.valid here c.index-samples-numbers.is).refers
