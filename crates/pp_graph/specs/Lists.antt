-- Lists of edge numbers.
use Rattle.std.specs.Prelude.{ℕ, ◌==◌, Bool, not, List, filter, count_by, if◌then◌else◌}

-- once where it does, and else never
abbrev pub once_if : Bool → ℕ
once_if does = if does then 1 else 0

-- how often the number stands in the list
abbrev pub occurrences : ℕ → List ℕ → ℕ
occurrences e list = count_by (λ k. k == e) list

-- the list without the number
abbrev pub leave_out : ℕ → List ℕ → List ℕ
leave_out e list = filter (λ k. not (k == e)) list
