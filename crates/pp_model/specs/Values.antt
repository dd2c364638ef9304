-- One value of a profile.
use Rattle.std.specs.Prelude.{ℕ, ℤ, [], slice_index_or, slice_set}
use Rattle.pp_model.specs.declared.profile.Sample.{Sample}
use Rattle.pp_model.specs.declared.profile.Profile.{Profile}

-- a sample without locations, values or labels
abbrev pub no_sample : Sample
no_sample = record { location_id = []; value = []; label = [] }

-- the sample with another value in one column
abbrev pub with_column : Sample → ℕ → ℤ → Sample
with_column s column value = record s { value = slice_set s.value column value }

-- the profile with another value in one column of one sample
abbrev pub with_value : Profile → ℕ → ℕ → ℤ → Profile
with_value p sample column value =
    record p {
      sample = slice_set p.sample sample
          (with_column (slice_index_or p.sample sample no_sample) column value);
    }
