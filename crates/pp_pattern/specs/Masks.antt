-- Verdicts without those on empty texts. No public clause cites it.
use Rattle.std.specs.Prelude.{ℕ, Bool, not, ◌&&◌, List, [], ◌∷◌}
use Rattle.pp_base.specs.Words.{is_empty_text}

-- the verdicts, with false for each empty subject
abbrev pub masked : List (List ℕ) → List Bool → List Bool
masked [] found = found
masked (subject ∷ subjects) [] = []
masked (subject ∷ subjects) (verdict ∷ found) =
    (not (is_empty_text subject) && verdict) ∷ masked subjects found
