use Rattle.std.proofs.Common.{◌≡◌, ◌+◌, ◌<◌, ◌^◌, ◌∙◌, ℤ, ◌+ℤ◌, nat_abs, w64, to_z, of_z, arith}
use Rattle.std.proofs.lemmas.Int.{fits_signed_from_abs, to_z-of_z}
use Rattle.pp_base.proofs.Sums.{triangle}
use Rattle.pp_count.proofs.tally.Tally.join.Goals as goal

-- the machine's sum of two that fit together
added : (a b : ℤ) → nat_abs a + nat_abs b < 2 ^ 63 → to_z w64 (of_z w64 (to_z w64 (of_z w64 a) +ℤ to_z w64 (of_z w64 b))) ≡ a +ℤ b
added a b fits =
    (λ i. to_z w64 (of_z w64 (to_z-of_z w64 a (fits_signed_from_abs w64 a (omega (arith, fits))) i +ℤ to_z-of_z w64 b (fits_signed_from_abs w64 b (omega (arith, fits))) i)))
    ∙ to_z-of_z w64 (a +ℤ b) (fits_signed_from_abs w64 (a +ℤ b) (omega (arith, fits, triangle a b)))

pub returns : goal.returns
returns c = λ i. record {
  flat = added c.args.self.now.flat c.args.sum.now.flat c.requires.flat_fits i;
  cum = added c.args.self.now.cum c.args.sum.now.cum c.requires.cum_fits i;
  last = 1;
}
