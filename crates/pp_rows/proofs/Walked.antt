-- The numbers in the lists of a node are those of live edges.
use Rattle.std.proofs.Common.{◌≡◌, ℕ, zero, suc, ◌<◌, false, cond, eqb, List, [], ◌∷◌, length, get_or, Some, None, refl, ap, subst, arith}
use Rattle.std.specs.Prelude.{IsSome}
use Rattle.std.specs.List.{slice_get}
use Rattle.std.specs.Option.{option_map_or}
use Rattle.std.proofs.lemmas.Bool.{eq-eqb}
use Rattle.std.proofs.lemmas.List.Sums.{sum_by-cons}
use Rattle.std.proofs.lemmas.Option.{get_or_from_slice_get, slice_get_within}
use Rattle.pp_count.specs.declared.edge.Edge.{Edge}
use Rattle.pp_graph.specs.Links.{EdgeLinks, numbered_edge}
use Rattle.pp_graph.specs.Lists.{occurrences, once_if}

-- a number at a place of a list stands in it
times-at : (ns : List ℕ) (k : ℕ) → k < length ns → 0 < occurrences (get_or ns k 0) ns
times-at [] k within = absurd (omega (arith, within))
times-at (n ∷ ns) zero within = omega (arith, sum_by-cons (λ x. cond (eqb x n) 1 0) n ns, ap {B = ℕ} (λ b. cond b 1 0) (eq-eqb n n refl))
times-at (n ∷ ns) (suc k) within =
    let rest : 0 < occurrences (get_or ns k 0) ns = times-at ns k (omega (arith, within)) in
    omega (arith, rest, sum_by-cons (λ x. cond (eqb x (get_or ns k 0)) 1 0) n ns)

-- an edge at a place of a list of the edges near a node is live
pub live : (g : EdgeLinks) (near : Edge → ℕ) (n : ℕ) (ns : List ℕ)
    → ((e : ℕ) → occurrences e ns ≡ once_if (option_map_or (λ edge. eqb (near edge) n) (numbered_edge g e) false))
    → (k e : ℕ) → slice_get ns k ≡ Some e → IsSome (numbered_edge g e)
live g near n ns counts k e found =
    let within : k < length ns = slice_get_within ns k e found in
    let some : 0 < occurrences e ns = subst (λ m. 0 < occurrences m ns) (get_or_from_slice_get ns k e 0 found) (times-at ns k within) in
    elim (numbered_edge g e) as (λ o. occurrences e ns ≡ once_if (option_map_or (λ edge. eqb (near edge) n) o false) → IsSome o) [
      | None ↦ λ is. absurd (omega (arith, is, some))
      | Some edge ↦ λ is. refl
    ] (counts e)
