-- How many entries a file has, and the tables of a profile.
use Rattle.std.specs.Prelude.{ℕ, ◌≤◌, List, length}
use Rattle.std.specs.List.{flat_map}
use Rattle.pp_legacy.specs.Records.{StackRecord}

-- no more entries than that, and no more addresses in all their stacks
pub record HasFew (n : ℕ) (entries : List StackRecord) : Type 0 where
  pub entries_len : length entries ≤ n
  pub addresses_len : length (flat_map (λ e. e.stack) entries) ≤ n
