-- The order of the branches of a node as the code holds them. No public clause cites it.
use Rattle.std.specs.Prelude.{ℕ, ℤ, pos, [], nat_abs, slice_get}
use Rattle.std.specs.Option.{option_map_or}
use Rattle.std.specs.Ordering.{nat_cmp, ordering_then}
use Rattle.std.specs.declared.cmp.Ordering.{Ordering}
use Rattle.pp_model.specs.FrameTexts.{Written}
use Rattle.pp_grain.specs.Keys.{key_cmp, key_written}
use Rattle.pp_calltree.specs.declared.branch.Branch.{Branch}
use Rattle.pp_calltree.specs.declared.texts.NameTexts.{NameTexts}

-- what stands for a number that no name has
abbrev pub no_written : Written
no_written =
    record { function = []; file = []; line = pos 0; column = pos 0; address = 0; object = [] }

-- what the key of the number stands for
abbrev pub texts_at : NameTexts → ℕ → Written
texts_at texts n = option_map_or (key_written texts.p.now) (slice_get texts.names.now n) no_written

-- the greater of two absolute values first
abbrev pub size_cmp : ℤ → ℤ → Ordering
size_cmp a b = nat_cmp (nat_abs b) (nat_abs a)

-- the order of siblings
abbrev pub branch_cmp : NameTexts → Branch → Branch → Ordering
branch_cmp texts a b =
    ordering_then (ordering_then (size_cmp a.cum b.cum) (size_cmp a.flat b.flat))
    (key_cmp (texts_at texts a.key) (texts_at texts b.key))
