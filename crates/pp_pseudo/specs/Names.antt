-- Names in the order of first sight. No public clause cites them.
use Rattle.std.specs.Prelude.{◌≡◌, ℕ, Some, List, slice_get}
use Rattle.pp_base.specs.Words.{IsFront}

-- the name has the number, and names that were there keep theirs
pub record IsNumberedName (before after : List (List ℕ)) (name : List ℕ) (number : ℕ) : Type 0 where
  pub front : IsFront before after
  pub named : slice_get after number ≡ Some name
