-- Ids in a table that goes behind others.
use Rattle.std.specs.Prelude.{ℕ, ◌+◌, ◌==◌, ◌||◌, nat_lt, if◌then◌else◌}

-- the id in a table that follows others, where it is one of this table
abbrev pub behind_id : ℕ → ℕ → ℕ → ℕ
behind_id after len id = if id == 0 || nat_lt len id then 0 else after + id
