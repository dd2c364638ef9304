-- The ids of a table, as a set.
use Rattle.std.specs.Prelude.{◌≡◌, ℕ, Bool, List, ◌==◌, ◌&&◌, ◌||◌, nat_eq, nat_lt, nat_le}
use Rattle.std.specs.HashSet.{contains}
use Rattle.pp_model.specs.Rules.{stands_in}
use Rattle.pp_check.specs.declared.known.IdSet.{IdSet}

-- the id is one of these
abbrev pub holds : IdSet → ℕ → Bool
holds known id = (nat_lt 0 id && nat_le id known.numbered) || contains nat_eq known.others id

-- these are the ids of the list
abbrev pub Knows : IdSet → List ℕ → Type 0
Knows known ids = (id : ℕ) → holds known id ≡ stands_in ids id

-- the new ids are the old ones and this one
abbrev pub Inserts : IdSet → IdSet → ℕ → Type 0
Inserts old new added = (id : ℕ) → holds new id ≡ (holds old id || added == id)
