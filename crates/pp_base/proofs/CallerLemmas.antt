-- For crates above: fronts.
use Rattle.std.proofs.Common.{ℕ, List, Option, take, drop, sym}
use Rattle.std.proofs.lemmas.List.{take-append-drop}
use Rattle.pp_base.specs.Front.{IsFront}
use Rattle.pp_base.specs.Writes.{PutsSome, PutsFront}

-- what is taken from the front is a front
pub take-IsFront : {A : Type 0} (n : ℕ) (whole : List A) → IsFront (take n whole) whole
take-IsFront n whole = (drop n whole, sym (take-append-drop n whole))

-- the first bytes are a front
pub some_is_front : (old new : Option (List ℕ)) (bytes : List ℕ) (sent : ℕ) → PutsSome old new bytes sent → PutsFront old new bytes
some_is_front old new bytes sent puts = (take sent bytes, take-IsFront sent bytes, puts.1)
