-- The edges that are left once those that are too light are cut, one after the other.
use Rattle.std.proofs.Common.{◌≡◌, ℕ, zero, suc, ◌+◌, ◌<◌, ◌≤◌, Bool, true, false, cond, not, List, [], ◌∷◌, ◌++◌, length, map, take, drop, get_or, set, Option, Some, None, refl, sym, ap, subst, ◌∙◌, arith}
use Rattle.std.specs.List.{filter, filter_map}
use Rattle.std.proofs.lemmas.Bool.{false≢true}
use Rattle.std.proofs.lemmas.Option.{same_Some}
use Rattle.std.proofs.lemmas.List.{length-append, length_push, append-nil, drop_all, take_all}
use Rattle.std.proofs.lemmas.List.Elements.{filter_more}
use Rattle.std.proofs.lemmas.List.Sums.{length-filter, count_by-le-length}
use Rattle.pp_count.specs.declared.edge.Edge.{Edge}
use Rattle.pp_graph.specs.Cuts.{is_heavy_edge, is_light_edge, heavy_only, cut_to}

unswap : (b : Bool) → not b ≡ false → b ≡ true
unswap true e = refl
unswap false e = absurd (false≢true (sym e))

unswap_light : (b : Bool) → not b ≡ true → b ≡ false
unswap_light true e = absurd (false≢true e)
unswap_light false e = refl

module _ (total billionths : ℕ) where
  -- what is left of the edge at the place
  cut_at : (n : ℕ) (edges : List Edge) (d : Edge) → n < length edges → get_or (cut_to total billionths n edges) n None ≡ Some (get_or edges n d)
  cut_at zero (x ∷ edges) d within = refl
  cut_at zero [] d within = absurd (omega (arith, within))
  cut_at (suc n) [] d within = absurd (omega (arith, within))
  cut_at (suc n) (x ∷ edges) d within = cut_at n edges d (omega (arith, within))

  cut_next : (n : ℕ) (edges : List Edge) (d : Edge) → n < length edges → set (cut_to total billionths n edges) n (heavy_only total billionths (get_or edges n d)) ≡ cut_to total billionths (suc n) edges
  cut_next zero (x ∷ edges) d within = refl
  cut_next zero [] d within = absurd (omega (arith, within))
  cut_next (suc n) [] d within = absurd (omega (arith, within))
  cut_next (suc n) (x ∷ edges) d within = ap (λ l. heavy_only total billionths x ∷ l) (cut_next n edges d (omega (arith, within)))

  cut_same : (n : ℕ) (edges : List Edge) (d : Edge) → n < length edges → is_heavy_edge total billionths (get_or edges n d) ≡ true → cut_to total billionths n edges ≡ cut_to total billionths (suc n) edges
  cut_same zero (x ∷ edges) d within heavy = ap (λ o. o ∷ map Some edges) (sym (ap (λ b. cond b (Some x) None) heavy))
  cut_same zero [] d within heavy = absurd (omega (arith, within))
  cut_same (suc n) [] d within heavy = absurd (omega (arith, within))
  cut_same (suc n) (x ∷ edges) d within heavy = ap (λ l. heavy_only total billionths x ∷ l) (cut_same n edges d (omega (arith, within)) heavy)

  all_cut : (edges : List Edge) → filter_map (λ e. e) (map (heavy_only total billionths) edges) ≡ filter (is_heavy_edge total billionths) edges
  all_cut [] = refl
  all_cut (x ∷ edges) = elim (is_heavy_edge total billionths x) as (λ b. filter_map (λ e. e) (cond b (Some x) None ∷ map (heavy_only total billionths) edges) ≡ cond b (x ∷ filter (is_heavy_edge total billionths) edges) (filter (is_heavy_edge total billionths) edges)) [
    | true ↦ ap (λ l. x ∷ l) (all_cut edges)
    | false ↦ all_cut edges
  ]

  -- The first n edges have been looked at, and `cut` of them are cut.
  pub record Pruned (edges : List Edge) (n : ℕ) (left : List (Option Edge)) (cut : ℕ) : Type 0 where
    pub left_are : left ≡ cut_to total billionths n edges
    pub cut_is : cut ≡ length (filter (is_light_edge total billionths) (take n edges))

  pub pruned_none : (edges : List Edge) (left : List (Option Edge)) → left ≡ map Some edges → Pruned edges 0 left 0
  pruned_none edges left is = record { left_are = is; cut_is = refl }

  pub edge_is : (edges : List Edge) (n : ℕ) (left : List (Option Edge)) (cut : ℕ) (d : Edge) → n < length edges → Pruned edges n left cut → get_or left n None ≡ Some (get_or edges n d)
  edge_is edges n left cut d within p = ap (λ l. get_or l n None) p.left_are ∙ cut_at n edges d within

  pub pruned_heavy : (edges : List Edge) (n : ℕ) (left : List (Option Edge)) (cut : ℕ) (edge : Edge) → n < length edges → get_or left n None ≡ Some edge → is_light_edge total billionths edge ≡ false
      → Pruned edges n left cut → Pruned edges (n + 1) left cut
  pruned_heavy edges n left cut edge within at not_light p =
      let heavy : is_heavy_edge total billionths edge ≡ true = unswap (is_heavy_edge total billionths edge) not_light in
      let same : edge ≡ get_or edges n edge = same_Some edge (get_or edges n edge) (sym at ∙ edge_is edges n left cut edge within p) in
      let more : n + 1 ≡ suc n = omega arith in
      record {
        left_are = p.left_are ∙ cut_same n edges edge within (ap (is_heavy_edge total billionths) (sym same) ∙ heavy) ∙ ap (λ k. cut_to total billionths k edges) (sym more);
        cut_is = p.cut_is ∙ sym (ap length (filter_more (is_light_edge total billionths) edges n edge within
            ∙ ap (λ b. filter (is_light_edge total billionths) (take n edges) ++ cond b (get_or edges n edge ∷ []) []) (ap (is_light_edge total billionths) (sym same) ∙ ap not heavy)) ∙ length-append (filter (is_light_edge total billionths) (take n edges)) [] ∙ omega arith);
      }

  pub pruned_light : (edges : List Edge) (n : ℕ) (left : List (Option Edge)) (cut : ℕ) (edge : Edge) → n < length edges → get_or left n None ≡ Some edge → is_light_edge total billionths edge ≡ true
      → Pruned edges n left cut → Pruned edges (n + 1) (set left n None) (cut + 1)
  pruned_light edges n left cut edge within at is_light p =
      let light : is_heavy_edge total billionths edge ≡ false = unswap_light (is_heavy_edge total billionths edge) is_light in
      let same : edge ≡ get_or edges n edge = same_Some edge (get_or edges n edge) (sym at ∙ edge_is edges n left cut edge within p) in
      let more : n + 1 ≡ suc n = omega arith in
      record {
        left_are = ap (λ l. set l n None) p.left_are
            ∙ ap (λ o. set (cut_to total billionths n edges) n o) (sym (ap (λ b. cond b (Some (get_or edges n edge)) None) (ap (is_heavy_edge total billionths) (sym same) ∙ light)))
            ∙ cut_next n edges edge within ∙ ap (λ k. cut_to total billionths k edges) (sym more);
        cut_is = ap (λ k. k + 1) p.cut_is ∙ sym (ap length (filter_more (is_light_edge total billionths) edges n edge within
            ∙ ap (λ b. filter (is_light_edge total billionths) (take n edges) ++ cond b (get_or edges n edge ∷ []) []) (ap (is_light_edge total billionths) (sym same) ∙ ap not light))
            ∙ length_push (filter (is_light_edge total billionths) (take n edges)) (get_or edges n edge));
      }

  pub pruned_all : (edges : List Edge) (n : ℕ) (left : List (Option Edge)) (cut : ℕ) → length edges ≤ n → Pruned edges n left cut
      → (filter_map (λ e. e) left ≡ filter (is_heavy_edge total billionths) edges) × (cut ≡ length (filter (is_light_edge total billionths) edges))
  pruned_all edges n left cut past p = (
    ap (filter_map (λ e. e)) (p.left_are ∙ (λ i. map (heavy_only total billionths) (take_all n edges past i) ++ map Some (drop_all n edges past i)) ∙ append-nil (map (heavy_only total billionths) edges)) ∙ all_cut edges,
    p.cut_is ∙ ap (λ l. length (filter (is_light_edge total billionths) l)) (take_all n edges past),
  )

  -- no more are cut than were looked at
  pub cut_bound : (edges : List Edge) (n : ℕ) (left : List (Option Edge)) (cut : ℕ) → Pruned edges n left cut → cut ≤ n
  cut_bound edges n left cut p =
      omega (arith, p.cut_is, length-filter (is_light_edge total billionths) (take n edges), count_by-le-length (is_light_edge total billionths) (take n edges), length-take-most n edges) where
        length-take-most : (n : ℕ) (xs : List Edge) → length (take n xs) ≤ n
        length-take-most zero xs = omega arith
        length-take-most (suc n) [] = omega arith
        length-take-most (suc n) (x ∷ xs) = omega (arith, length-take-most n xs)
