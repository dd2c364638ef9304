-- Parts of a path.
use Rattle.std.specs.Prelude.{ℕ, Bool, ◌==◌, List}
use Rattle.std.specs.List.{after_last}

-- a slash parts the names of a path
abbrev pub is_slash : ℕ → Bool
is_slash b = b == 47

-- what stands after the last slash of a path, which is the whole path where it has none
abbrev pub last_name : List ℕ → List ℕ
last_name path = after_last is_slash path
