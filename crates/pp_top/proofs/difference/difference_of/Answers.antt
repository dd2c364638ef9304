use Rattle.std.proofs.Common.{neg_ℤ, ap, ◌∙◌, w64, to_z, of_z, ◌≡◌, ℤ}
use Rattle.std.specs.Int.{int_wrap, int_wrapping_neg}
use Rattle.std.proofs.lemmas.Int.{to_z-of_z, wrapping_neg_is, wrapping_sub_is, SFits-int_wrap}
use Rattle.pp_top.proofs.difference.difference_of.Goals as goal

-- a wrapped number is one of its type
wrapped_bits : (z r : ℤ) → r ≡ int_wrap w64 z → to_z w64 (of_z w64 r) ≡ int_wrap w64 z
wrapped_bits z r is = ap (λ x. to_z w64 (of_z w64 x)) is ∙ to_z-of_z w64 (int_wrap w64 z) (SFits-int_wrap w64 z)

pub returns : goal.returns
returns c = λ i. record {
  before = wrapped_bits (neg_ℤ c.args.base) c.wrapping_neg.result
      (c.wrapping_neg.ensures ∙ ap (int_wrapping_neg w64) (to_z-of_z w64 c.args.base c.ranges.base) ∙ wrapping_neg_is w64 c.args.base c.ranges.base) i;
  after = wrapping_sub_is w64 c.args.change c.args.base c.ranges.change c.ranges.base i;
  change = to_z-of_z w64 c.args.change c.ranges.change i;
}
