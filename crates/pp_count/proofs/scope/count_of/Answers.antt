use Rattle.std.proofs.Common.{◌≡◌, Some, option_map, sym}
use Rattle.pp_count.specs.Scope.{chosen_of}
use Rattle.pp_count.proofs.Chosen.{chosen_length}
use Rattle.pp_count.proofs.scope.count_of.Goals as goal

pub returns-in-Some : goal.returns-in-Some
returns-in-Some c =
    let is : chosen_of c.args.scope.now ≡ Some c.in-Some.numbers.now = λ i. option_map (λ numbers. numbers.now) (c.in-Some.is i) in
    sym (chosen_length c.args.scope.now c.in-Some.numbers.now is c.requires)
