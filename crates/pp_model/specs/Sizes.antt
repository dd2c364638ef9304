-- How large a profile may be, so that its sums fit their types.
use Rattle.std.specs.Prelude.{ℕ, ◌<◌, ◌≤◌, ◌^◌, ◌-◌, ℤ, pos, nat_abs, length, slice_index_or}
use Rattle.std.specs.List.{sum_by}
use Rattle.pp_model.specs.declared.profile.Sample.{Sample}
use Rattle.pp_model.specs.declared.profile.Profile.{Profile}

-- the sample's value of the column, and 0 where it has none
abbrev pub value_in : Sample → ℕ → ℤ
value_in s column = slice_index_or s.value column (pos 0)

-- the sum of the absolute values of the column
abbrev pub absolute_sum : Profile → ℕ → ℕ
absolute_sum p column = sum_by (λ s. nat_abs (value_in s column)) p.sample

-- Samples and columns can be counted, and the values of each column can be added up.
pub record IsCountable (p : Profile) : Type 0 where
  pub samples : length p.sample < 2 ^ 32
  pub columns : length p.sample_type < 2 ^ 32
  pub sums : (column : ℕ) → column < length p.sample_type → absolute_sum p column ≤ 2 ^ 63 - 1

-- no table has more entries than that
pub record HasAtMost (n : ℕ) (p : Profile) : Type 0 where
  pub sample_types : length p.sample_type ≤ n
  pub samples : length p.sample ≤ n
  pub mappings : length p.mapping ≤ n
  pub locations : length p.location ≤ n
  pub functions : length p.function ≤ n
  pub texts : length p.text ≤ n
  pub comments : length p.comment ≤ n
