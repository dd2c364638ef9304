use Rattle.std.proofs.Common.{w64, FitsSigned, ◌+◌, ◌%◌, ◌^◌, rules}
use Rattle.std.proofs.lemmas.Int.{wrapping_add_is}
use Rattle.pp_account.proofs.portion.Portion.plus.Goals as goal

pub returns : goal.returns
returns c =
    let before : FitsSigned w64 c.args.self.value = search rules in
    λ i. record {
      count = (c.args.self.count + 1) % 2 ^ 64;
      value = wrapping_add_is w64 c.args.self.value c.args.value before c.ranges.value i;
    }
