-- Lists that are cut into pieces, each of which is worked on for itself.
use Rattle.std.specs.Prelude.{◌≡◌, ℕ, ◌*◌, List, [], ◌∷◌, ◌++◌, take, drop}
use Rattle.pp_steal.specs.declared.piece.TheConstants.{PIECE}

-- the items of a piece
abbrev pub piece_of : {A : Type 0} → List A → ℕ → List A
piece_of items piece = take PIECE (drop (PIECE * piece) items)

-- what is right for the parts into which the items are cut, one after another
abbrev pub IsCutInto : {A T : Type 0} → (List A → T → Type 0) → List A → List T → Type 0
IsCutInto right items [] = items ≡ []
IsCutInto {A} right items (part ∷ parts) =
    (front : List A) × (rest : List A) × (items ≡ front ++ rest)
    × right front part × IsCutInto right rest parts
