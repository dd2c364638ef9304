-- Rows of a report, byte by byte.
use Rattle.std.proofs.Common.{◌≡◌, pos, negsuc, [], ◌++◌, None, refl}
use Rattle.std.specs.Prelude.{codes}
use Rattle.std.specs.Fmt.{digits}
use Rattle.pp_model.specs.declared.presentation.Sort.TheVariants.{Cum}
use Rattle.pp_units.specs.Numbers.{number_text, value_text, percent_text}
use Rattle.pp_top.specs.Changes.{changes_heading, change_line}
use Rattle.pp_top.specs.Compare.{difference_of, compare_heading, difference_line}

-- A key that has three times as much in the source, and one that the base doesn't have.
two_rows : compare_heading Cum
    ++ difference_line (record { from = 1; to = 1; suffix = []; each = None }) (record { figures = difference_of (negsuc 1) (pos 4); name = codes "leaf" })
    ++ difference_line (record { from = 1; to = 1; suffix = []; each = None }) (record { figures = difference_of (pos 0) (pos 2); name = codes "work" })
    ≡ codes "    before      after     change  change%  cum\n         2          6          4  200.00%  leaf\n         0          2          2      new  work\n"
unfolding value_text number_text percent_text digits
two_rows = refl

-- The second key of two, whose name has a tab, lost all that it had.
two_lines : changes_heading (codes "ms")
    ++ change_line (record { figures = difference_of (negsuc 1) (pos 4); name = codes "leaf" })
    ++ change_line (record { figures = difference_of (negsuc 11) (negsuc 11); name = codes "a\tb" })
    ≡ codes "before/ms\tafter/ms\tchange/ms\tname\n2\t6\t4\tleaf\n12\t0\t-12\ta\\tb\n"
unfolding digits
two_lines = refl
