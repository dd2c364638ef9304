-- Small rows of the definitions, over keys that are numbers.
use Rattle.std.proofs.Common.{◌≡◌, ℕ, true, false, pos, negsuc, List, [], ◌∷◌, refl}
use Rattle.std.specs.Ordering.{nat_cmp}
use Rattle.std.specs.declared.cmp.Ordering.TheVariants.{Less, Greater}
use Rattle.pp_model.specs.declared.presentation.Sort.TheVariants as sorts
use Rattle.pp_count.specs.Sums.{Seen, has}
use Rattle.pp_count.specs.EdgeSums.{edge_occurs}
use Rattle.pp_graph.specs.Sampled.{has_heavy_edge, is_heavy_cum, light_count, light_edge_count, report_order}
use Rattle.pp_graph.specs.Trim.{node_limit, shown_keys}

-- 2 calls 1 for 5 and 3 for 3; 1 stands alone for -1
abbrev two_callees : List (Seen ℕ)
two_callees =
    record { value = pos 5; keys = 1 ∷ 2 ∷ [] } ∷ record { value = pos 3; keys = 3 ∷ 2 ∷ [] }
    ∷ record { value = negsuc 0; keys = 1 ∷ [] } ∷ []

-- by flat: 4, 3 and 0
flat_first : report_order nat_cmp sorts.Flat two_callees 1 3 ≡ Less
flat_first = refl

flat_second : report_order nat_cmp sorts.Flat two_callees 2 3 ≡ Greater
flat_second = refl

-- by cum: 4, 8 and 3
cum_first : report_order nat_cmp sorts.Cum two_callees 2 1 ≡ Less
cum_first = refl

-- a cum of 3 is a third of 9, and less than two fifths
third : is_heavy_cum nat_cmp 9 333333333 two_callees 3 ≡ true
third = refl

fifths : is_heavy_cum nat_cmp 9 400000000 two_callees 3 ≡ false
fifths = refl

dropped : light_count nat_cmp 9 400000000 two_callees ≡ 1
dropped = refl

first_two : shown_keys {K = ℕ} 2 (1 ∷ 3 ∷ 2 ∷ []) ≡ 1 ∷ 3 ∷ []
first_two = refl

no_limit : shown_keys {K = ℕ} 0 (1 ∷ 3 ∷ 2 ∷ []) ≡ 1 ∷ 3 ∷ 2 ∷ []
no_limit = refl

own_limit : node_limit (negsuc 0) 80 ≡ 80
own_limit = refl

zero_limit : node_limit (pos 0) 80 ≡ 0
zero_limit = refl

-- of two edges the lighter one
light_edge : light_edge_count nat_cmp (1 ∷ 3 ∷ 2 ∷ []) two_callees 9 400000000 ≡ 1
light_edge = refl

-- 6 calls 5, which calls 4
abbrev chain : List (Seen ℕ)
chain = record { value = pos 7; keys = 4 ∷ 5 ∷ 6 ∷ [] } ∷ []

-- with 5 left out, 6 calls 4
recounted : has_heavy_edge nat_cmp (λ k. has nat_cmp k (4 ∷ 6 ∷ [])) chain 7 1000000000 6 4 ≡ true
recounted = refl

-- and else it does not
as_it_is : edge_occurs nat_cmp (λ _. true) chain 6 4 ≡ false
as_it_is = refl
