-- What the rows of several reports say of a key: its two sums and its name.
use Rattle.std.specs.Prelude.{ℕ, ◌<◌, ◌^◌, ℤ, pos, nat_abs, ◌+ℤ◌, List, [], ◌∷◌, ◌++◌, length, map, slice_index_or, All}
use Rattle.std.specs.List.{sum_by}
use Rattle.pp_model.specs.declared.profile.Profile.{Profile}
use Rattle.pp_model.specs.FrameTexts.{Written}
use Rattle.pp_grain.specs.Keys.{IsKeyOf}
use Rattle.pp_grain.specs.Naming.{name_text}
use Rattle.pp_count.specs.declared.sums.Sums.{Sums}
use Rattle.pp_count.specs.Counted.{FitSums}
use Rattle.pp_count.specs.Table.{written_key}
use Rattle.pp_graph.specs.Figures.{Figures}
use Rattle.pp_graph.specs.Trimmed.{int_sum}

-- What a row says: the two sums of a key, and its name.
pub record KeyRow : Type 0 where
  -- the sum over the samples whose leaf has the key
  pub flat : ℤ
  -- the sum over the samples that have the key
  pub cum : ℤ
  -- how the key is printed
  pub name : List ℕ

-- The texts of items in turn. Each is told what the flats up to it add up to, where those before the first have the sum
-- `before`.
abbrev pub running_text : {A : Type 0} → (A → ℤ) → (ℤ → A → List ℕ) → ℤ → List A → List ℕ
running_text flat text before [] = []
running_text flat text before (x ∷ xs) =
    text (before +ℤ flat x) x ++ running_text flat text (before +ℤ flat x) xs

-- the row of a key
abbrev pub key_row : Figures → Written → KeyRow
key_row g k = record { flat = g.flat_of k; cum = g.cum_of k; name = name_text k }

-- the row of the name with this number, by the sums that were counted
abbrev pub row_at : Profile → Sums → ℕ → KeyRow
row_at p sums n = record {
  flat = slice_index_or sums.flat n (pos 0);
  cum = slice_index_or sums.cum n (pos 0);
  name = name_text (written_key p sums.names n);
}

-- The numbers are those of names, whose keys are keys of the profile, and their flats can be added up.
pub record CanShow (p : Profile) (sums : Sums) (order : List ℕ) : Type 0 where
  pub keys : All (IsKeyOf p) sums.names
  pub fits : FitSums sums
  pub below : All (λ n. n < length sums.names) order
  pub small : sum_by (λ n. nat_abs (slice_index_or sums.flat n (pos 0))) order < 2 ^ 63

-- what the flats of keys add up to
abbrev pub flat_sum : Figures → List Written → ℤ
flat_sum g keys = int_sum (map g.flat_of keys)
