-- Which lane each piece is dealt to.
use Rattle.std.specs.Prelude.{ℕ, zero, suc, ◌%◌, ◌≤◌, eqb, Bool, List, [], ◌∷◌, ◌++◌, filter}
use Rattle.pp_steal.specs.declared.deal.Deal.{Deal}
use Rattle.pp_steal.specs.declared.deal.Deal.TheVariants.{Round, First}
use Rattle.pp_steal.specs.Pool.{count_in}

-- the lane that the piece is dealt to
abbrev pub lane_of : Deal → ℕ → ℕ → ℕ
lane_of Round lanes piece = piece % lanes
lane_of First lanes piece = 0

-- the numbers below n, rising
abbrev pub upto : ℕ → List ℕ
upto zero = []
upto (suc n) = upto n ++ n ∷ []

-- whether the piece is dealt to this lane
abbrev pub is_of : Deal → ℕ → ℕ → ℕ → Bool
is_of deal lanes lane piece = eqb (lane_of deal lanes piece) lane

-- the pieces dealt to the lane, rising
abbrev pub dealt_to : Deal → ℕ → ℕ → ℕ → List ℕ
dealt_to deal lanes pieces lane = filter (is_of deal lanes lane) (upto pieces)

-- they are pieces, none of them twice
abbrev pub AreDistinctPieces : ℕ → List ℕ → Type 0
AreDistinctPieces pieces xs = (x : ℕ) → count_in x xs ≤ count_in x (upto pieces)
