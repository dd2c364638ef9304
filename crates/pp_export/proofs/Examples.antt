-- Lines of the reports, byte by byte.
use Rattle.std.proofs.Common.{◌≡◌, pos, negsuc, [], ◌∷◌, ◌++◌, refl}
use Rattle.std.specs.Prelude.{codes}
use Rattle.std.specs.Fmt.{digits}
use Rattle.pp_export.specs.Escaped.{escaped_name}
use Rattle.pp_export.specs.Table.{exact_heading, row_line}

-- a name that other programs would cut
frame : escaped_name (codes "f;g\nh") ≡ codes "f:g h"
frame = refl

-- the unit stands behind both sums, and nothing where none is known
with_unit : exact_heading (codes "ms") ≡ codes "flat/ms" ++ 9 ∷ codes "cum/ms" ++ 9 ∷ codes "name\n"
with_unit = refl

without_unit : exact_heading [] ≡ codes "flat" ++ 9 ∷ codes "cum" ++ 9 ∷ codes "name\n"
without_unit = refl

row : row_line (record { flat = pos 4; cum = negsuc 1; name = codes "f" }) ≡ codes "4" ++ 9 ∷ codes "-2" ++ 9 ∷ codes "f\n"
unfolding digits
row = refl
