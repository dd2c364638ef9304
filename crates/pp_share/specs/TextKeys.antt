-- Texts as the keys of a table. No public clause cites this.
use Rattle.std.specs.Prelude.{◌≡◌, ℕ, List, [], ◌∷◌, IsTrue}
use Rattle.std.specs.Str.{bytes_eq}
use Rattle.std.proofs.Common.{ap}
use Rattle.std.proofs.lemmas.Slice.Eq.{bytes_eq-Decides}

-- texts that are the same are hashed as the same bytes
pub same_bytes : (a b : List ℕ) → IsTrue (bytes_eq a b) → a ∷ [] ≡ b ∷ []
same_bytes a b same = ap (λ bytes. bytes ∷ []) ((bytes_eq-Decides a b).0 same)
