use Rattle.std.proofs.Common.{ap, ◌≡◌, ◌≢◌, ℕ, ◌+◌, ◌<◌, ◌≤◌, List, length, get_or, set, sym, ◌∙◌, arith, below_more, get_or-set_other, get_or-set_same}
use Rattle.std.proofs.lemmas.Grind.{same_number_lists}
use Rattle.std.proofs.lemmas.List.{length-set}
use Rattle.std.proofs.lemmas.List.FromFn.{get_or-map-range_with_len}
use Rattle.std.specs.Str.Parse.{digits_value}
use Rattle.pp_grain.specs.Naming.{digit_at, hex16}
use Rattle.pp_grain.proofs.HexLemmas.{hex16_value}
use Rattle.pp_grain.proofs.naming.hex16.Goals as goal

-- one digit more
more :
    (n k digit : ℕ) (digits : List ℕ) → length digits ≡ 16 → ((j : ℕ) → j < k → get_or digits j 0 ≡ digit_at n j) → k < 16 →
    digit ≡ digit_at n k → (length (set digits k digit) ≡ 16) × ((j : ℕ) → j < k + 1 → get_or (set digits k digit) j 0 ≡ digit_at n j)
more n k digit digits long so_far within is = (
  length-set digits k digit ∙ long,
  below_more _ _
      (λ j below. let other : j ≢ k = omega arith in rw get_or-set_other (so_far j below))
      (let inside : k < length digits = omega (arith, long) in rw get_or-set_same is),
)

-- all sixteen
all : (n k : ℕ) (digits : List ℕ) → length digits ≡ 16 → ((j : ℕ) → j < k → get_or digits j 0 ≡ digit_at n j) → 16 ≤ k → digits ≡ hex16 n
all n k digits long so_far past =
    same_number_lists digits (hex16 n) long
    (λ j below. so_far j (omega (arith, below, long, past)) ∙ sym (get_or-map-range_with_len (digit_at n) 0 16 j j 0 (omega (arith, below, long)) (omega arith)))

pub loop-k-preserved : goal.loop-k-preserved
loop-k-preserved c = more _ _ _ _ c.loop-k.invariant.0 c.loop-k.invariant.1 c.loop-k-test.true c.hex_digit.ensures

pub returns-clause-digits : goal.returns-clause-digits
returns-clause-digits c = all _ _ _ c.loop-k.invariant.0 c.loop-k.invariant.1 c.loop-k-test.false

pub returns-clause-value : goal.returns-clause-value
returns-clause-value c =
    ap (digits_value 16) (all _ _ _ c.loop-k.invariant.0 c.loop-k.invariant.1 c.loop-k-test.false) ∙ hex16_value c.args.n c.ranges.n.fits
