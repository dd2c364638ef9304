-- The graph of names alone is sound.
use Rattle.std.proofs.Common.{◌≡◌, ℕ, ◌+◌, ◌<◌, List, [], ◌∷◌, ◌++◌, length, map, get_or, take, pos, Option, Some, None, refl, sym, ap, subst, ◌∙◌, arith}
use Rattle.std.specs.List.{range_with_len, slice_get, filter_map}
use Rattle.std.proofs.lemmas.Option.{none-some, same_Some, slice_get-get_or, slice_get_within, get_or_from_slice_get}
use Rattle.std.proofs.lemmas.List.{length-map, get_or-map, map-append, take_more}
use Rattle.std.proofs.lemmas.List.FromFn.{length-range_with_len, get_or-range_with_len, length-map-range_with_len, get_or-map-range_with_len}
use Rattle.pp_count.specs.declared.sums.Sums.{Sums}
use Rattle.pp_graph.specs.declared.node.Node.{Node}
use Rattle.pp_graph.specs.declared.slot.Spot.{Spot}
use Rattle.pp_graph.specs.declared.slot.Side.{Side}
use Rattle.pp_graph.specs.declared.slot.Side.TheVariants.{Out, In}
use Rattle.pp_graph.specs.Chains.{IsChain}
use Rattle.pp_graph.specs.Links.{EdgeLinks}
use Rattle.pp_graph.specs.Lists.{occurrences}
use Rattle.pp_graph.specs.Slots.{bare_spot, bare_spots, no_spot, first_at, next_at, prev_at, list_at, held_links, list_of, AreSoundSlots}
use Rattle.pp_graph.specs.Trimmed.{HasNodes, IsNodeOf}
use Rattle.pp_graph.proofs.Seeing.{list_seen}

module _ (sums : Sums) (n : ℕ) where
  length-bare : length (bare_spots sums n) ≡ n
  length-bare = length-map-range_with_len (bare_spot sums) 0 n

  length-nodes : length (map (λ (x : Spot). x.node) (bare_spots sums n)) ≡ n
  length-nodes = length-map (bare_spots sums n) (λ (x : Spot). x.node) ∙ length-bare

  node_at : (k : ℕ) (node : Node) → slice_get (map (λ (x : Spot). x.node) (bare_spots sums n)) k ≡ Some node → (k < n) × (node ≡ (bare_spot sums k).node)
  node_at k node is =
      let within : k < n = omega (arith, slice_get_within (map (λ (x : Spot). x.node) (bare_spots sums n)) k node is, length-nodes) in (
        within,
        sym (get_or_from_slice_get (map (λ (x : Spot). x.node) (bare_spots sums n)) k node no_spot.node is)
            ∙ get_or-map (λ (x : Spot). x.node) (bare_spots sums n) k no_spot no_spot.node (omega (arith, within, length-bare))
            ∙ ap (λ (x : Spot). x.node) (get_or-map-range_with_len (bare_spot sums) 0 n k k no_spot within (omega arith)),
      )

  first_none : (k : ℕ) → k < n → get_or (bare_spots sums n) k no_spot ≡ bare_spot sums k
  first_none k within = get_or-map-range_with_len (bare_spot sums) 0 n k k no_spot within (omega arith)

  pub sound_bare : AreSoundSlots (bare_spots sums n) []
  sound_bare = record {
    linked = record {
      outs = length-map (bare_spots sums n) (list_of Out []) ∙ sym (length-map (bare_spots sums n) (λ (x : Spot). x.node));
      ins = length-map (bare_spots sums n) (list_of In []) ∙ sym (length-map (bare_spots sums n) (λ (x : Spot). x.node));
      out = λ k e within. ap (occurrences e) (list_seen (bare_spots sums n) [] Out k (omega (arith, within, length-nodes, length-bare)));
      into = λ k e within. ap (occurrences e) (list_seen (bare_spots sums n) [] In k (omega (arith, within, length-nodes, length-bare)));
      ends = λ e edge is. absurd (none-some (Some edge) is);
      names = λ k node is. ap (λ (x : Node). x.name) (node_at k node is).1;
    };
    chains = λ side k within. chain side k (omega (arith, within, length-bare));
  } where
    no_first : (side : Side) (k : ℕ) → k < n → first_at side (bare_spots sums n) k ≡ None
    no_first Out k within = ap (λ (x : Spot). x.first_out) (first_none k within)
    no_first In k within = ap (λ (x : Spot). x.first_in) (first_none k within)

    chain : (side : Side) (k : ℕ) → k < n → IsChain (next_at side []) (prev_at side []) None (first_at side (bare_spots sums n) k) (list_at side (held_links (bare_spots sums n) []) k)
    chain side k within = subst (λ l. IsChain (next_at side []) (prev_at side []) None (first_at side (bare_spots sums n) k) l)
        (sym (list_seen (bare_spots sums n) [] side k (omega (arith, within, length-bare)))) (no_first side k within)

  pub nodes_bare : n ≡ length sums.names → length sums.flat ≡ length sums.names → length sums.cum ≡ length sums.names → HasNodes sums (held_links (bare_spots sums n) [])
  nodes_bare names flats cums = record {
    count = length-nodes ∙ names;
    each = λ k node is.
        let at = node_at k node is in (
          ap (λ (x : Node). x.name) at.1,
          slice_get-get_or sums.flat k (pos 0) (omega (arith, at.0, names, flats)) ∙ ap (λ (x : Node). Some x.flat) (sym at.1),
          slice_get-get_or sums.cum k (pos 0) (omega (arith, at.0, names, cums)) ∙ ap (λ (x : Node). Some x.cum) (sym at.1),
        );
  }

-- other edges leave the nodes
pub nodes_same : (sums : Sums) (old new : EdgeLinks) → new.nodes ≡ old.nodes → HasNodes sums old → HasNodes sums new
nodes_same sums old new same has = record {
  count = ap length same ∙ has.count;
  each = λ k node is. has.each k node (sym (ap (λ ns. slice_get ns k) same) ∙ is);
}

-- where no edge is cut, all of them are live
pub all_live : {X : Type 0} (xs : List X) → filter_map (λ x. x) (map Some xs) ≡ xs
all_live [] = refl
all_live (x ∷ xs) = ap (λ l. x ∷ l) (all_live xs)

-- one more item is added
pub next_edge : {X : Type 0} (xs : List X) (i : ℕ) (d : X) (old new : List (Option X)) → i < length xs → old ≡ map Some (take i xs) → new ≡ old ++ Some (get_or xs i d) ∷ [] → new ≡ map Some (take (i + 1) xs)
next_edge xs i d old new within was is =
    is ∙ ap (λ es. es ++ Some (get_or xs i d) ∷ []) was ∙ sym (map-append Some (take i xs) (get_or xs i d ∷ [])) ∙ ap (map Some) (sym (take_more xs i d within))
