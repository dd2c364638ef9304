use Rattle.std.proofs.Common.{◌≢◌, ℕ, List, sym, subst}
use Rattle.std.specs.Prelude.{AllPairs}
use Rattle.std.proofs.lemmas.Bool.Decides.{Decides-eqb}
use Rattle.std.proofs.lemmas.Map.Made.{AllPairs-from_IsDistinct}
use Rattle.pp_legacy.proofs.reading.profile_of.Goals as goal

pub locations_of-requires : goal.locations_of-requires
locations_of-requires c =
    subst (λ (l : List ℕ). AllPairs (λ a b. a ≢ b) l) (sym c.as_slice-2.ensures.keys)
    (AllPairs-from_IsDistinct Decides-eqb _ c.as_slice-2.ensures.unique)
