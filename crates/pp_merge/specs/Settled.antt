-- Contents that are written and read back as they are.
use Rattle.std.specs.Prelude.{◌≡◌, ◌<◌, ◌^◌, true, [], None}
use Rattle.std.specs.List.{AllByRecursion, IsDistinct}
use Rattle.std.specs.Int.{saturate_to_bits}
use Rattle.std.specs.Str.{bytes_eq}
use Rattle.pp_share.specs.Alike.{same_mapping, same_sample}
use Rattle.pp_share.specs.Sums.{keys_of, counts}
use Rattle.pp_share.specs.Written.{Contents, FitsTypes, mappings, locations}

-- Nothing is left to be merged: no two samples, mappings or comments are one, each sample counts, numbers lie in their
-- types, and where no mapping comes first there is none.
pub record IsSettled (c : Contents) : Type 0 where
  pub fits : FitsTypes c
  pub apart : IsDistinct same_sample (keys_of same_sample c.samples)
  pub counted : AllByRecursion (λ s. counts s ≡ true) c.samples
  pub comments : IsDistinct bytes_eq c.header.comments
  pub duration : saturate_to_bits 63 c.header.duration_nanos ≡ c.header.duration_nanos
  pub mapped : IsDistinct same_mapping (mappings c)
  pub starts : AllByRecursion (λ m. m.start < 2 ^ 64) (mappings c)
  pub distances : AllByRecursion (λ l. l.distance < 2 ^ 64) (locations c)
  pub unmapped : c.first_mapping ≡ None → mappings c ≡ []
