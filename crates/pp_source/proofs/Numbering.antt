-- The numbers of lines, one after the other.
use Rattle.std.proofs.Common.{◌≡◌, ◌<ℤ◌, ℕ, zero, suc, ◌+◌, ◌<◌, ◌^◌, ℤ, pos, negsuc, List, [], ◌∷◌, ◌++◌, length, take, get_or, Some, None, FitsSigned, w64, of_z, refl, sym, ◌∙◌, arith}
use Rattle.std.specs.List.{cons_option}
use Rattle.std.proofs.lemmas.Int.{ints}
use Rattle.std.proofs.lemmas.List.{append-nil}
use Rattle.pp_source.specs.declared.lines.FoundLine.{FoundLine}
use Rattle.pp_source.specs.Ledgers.{lines_texts}
use Rattle.pp_source.specs.SourceText.{number_above, numbers_of}
use Rattle.pp_source.proofs.RowLemmas.{numbers_next}

-- a number above 0 is kept as it is
pub above : (z : ℤ) → pos 0 <ℤ z → FitsSigned w64 z → (number_above z ≡ Some (of_z w64 z)) × (of_z w64 z < 2 ^ 63)
above (pos zero) some fits = absurd (omega (arith, ints, some))
above (pos (suc n)) some fits = (refl, fits.sfits)
above (negsuc n) some fits = absurd (omega (arith, ints, some))

-- no other is
pub not_above : (z : ℤ) → (pos 0 <ℤ z → ⊥) → number_above z ≡ None
not_above (pos zero) none = refl
not_above (pos (suc n)) none = absurd (none (omega (arith, ints)))
not_above (negsuc n) none = refl

-- one more number, above 0
pub pushed_above : (z : ℤ) (ns : List ℕ) → pos 0 <ℤ z → FitsSigned w64 z → ns ++ of_z w64 z ∷ [] ≡ ns ++ cons_option (number_above z) []
pushed_above z ns some fits = λ i. ns ++ cons_option (sym (above z some fits).0 i) []

-- one more number, which isn't
pub pushed_none : (z : ℤ) (ns : List ℕ) → (pos 0 <ℤ z → ⊥) → ns ≡ ns ++ cons_option (number_above z) []
pushed_none z ns none = sym (append-nil ns) ∙ (λ i. ns ++ cons_option (sym (not_above z none) i) [])

-- the numbers of one more line
pub numbers_more : (lines : List FoundLine) (i : ℕ) (d : FoundLine) (ns new : List ℕ) → i < length lines → ns ≡ numbers_of (lines_texts (take i lines))
    → new ≡ ns ++ cons_option (number_above (get_or lines i d).texts.line) [] → new ≡ numbers_of (lines_texts (take (i + 1) lines))
numbers_more lines i d ns new within so_far is = is ∙ (λ j. so_far j ++ cons_option (number_above (get_or lines i d).texts.line) []) ∙ sym (numbers_next lines i d within)
