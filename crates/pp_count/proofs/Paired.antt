-- Pairs by places are the pairs of the keys that have them.
use Rattle.std.proofs.Common.{◌≡◌, ℕ, ◌+◌, ◌*◌, ◌/◌, ◌%◌, ◌<◌, ◌≤◌, Bool, true, false, cond, not, ◌&&◌, ◌||◌, ◌==◌, pos, ◌+ℤ◌, List, [], ◌∷◌, ◌++◌, length, drop, get_or, map, All, Option, Some, None, refl, sym, ap, ◌∙◌, arith}
use Rattle.std.specs.List.{filter, filter_map, list_any, cons_option}
use Rattle.std.specs.Option.{is_some, option_map_or, unwrap_or}
use Rattle.std.specs.Ordering.{nat_cmp, eq_by_cmp, int_eq}
use Rattle.std.specs.Cmp.{unsigned_tied, nat_cmp_total}
use Rattle.std.specs.declared.cmp.Ordering.{Ordering}
use Rattle.std.proofs.lemmas.Bool.{false≢true, eq-eqb, eqb-true, ne_eqb, and_parts}
use Rattle.std.proofs.lemmas.Cmp.{eq_by_cmp_equiv}
use Rattle.std.proofs.lemmas.List.{get_or_default, drop_more}
use Rattle.std.proofs.lemmas.List.Elements.{All-nil, All-cons, All-head, All-tail, All-append, All-filter, filter-append}
use Rattle.std.proofs.lemmas.List.Folds.{list_any-append, list_any_none}
use Rattle.std.proofs.lemmas.Map.Views.{any-filter_same, list_any-from_Contains}
use Rattle.std.proofs.lemmas.Nat.{div-mul-add, mod-mul-add}
use Rattle.std.proofs.Math.Nat.{mul-le-mul_right}
use Rattle.std.proofs.Math.Bool.{or-false}
use Rattle.pp_base.proofs.Booleans.{same_bool}
use Rattle.pp_base.proofs.Orders.{tied_with}
use Rattle.pp_count.specs.declared.pairs.Pairing.{Pairing}
use Rattle.pp_count.specs.Sums.{Seen, has, occurs, cum, weighed, renamed}
use Rattle.pp_count.specs.Column.{first_else}
use Rattle.pp_count.specs.Edges.{pair_place, is_marked, has_mark, pair_if, pair_between, pairs_over, pairs_of, paired, ArePairPlaces}
use Rattle.pp_count.specs.EdgeSums.{stands_over, has_pair, has_edge, edge_occurs, edge_sum}
use Rattle.pp_count.proofs.Renaming.{tied_is}

not_both : (w : Bool) → not w ≡ true → w ≡ false
not_both true e = cc
not_both false e = refl

and_false : (w : Bool) → false ≡ (w && false)
and_false true = refl
and_false false = refl

-- a caller and a callee tie where what they tie with does, and else they don't
ends_tied : (a b k u : ℕ) → k ≡ u → (eq_by_cmp nat_cmp a k && eq_by_cmp nat_cmp b u) ≡ true → eq_by_cmp nat_cmp a b ≡ true
ends_tied a b k u same both =
    let parts = and_parts (eq_by_cmp nat_cmp a k) (eq_by_cmp nat_cmp b u) both in
    tied_with a b (tied_is a k parts.0 ∙ same ∙ sym (tied_is b u parts.1))

ends_apart : (a b k u : ℕ) → (k ≡ u → ⊥) → (eq_by_cmp nat_cmp a k && eq_by_cmp nat_cmp b u) ≡ true → eq_by_cmp nat_cmp a b ≡ false
ends_apart a b k u other both =
    let parts = and_parts (eq_by_cmp nat_cmp a k) (eq_by_cmp nat_cmp b u) both in
    unsigned_tied a b ∙ ne_eqb a b (λ same. other (sym (tied_is a k parts.0) ∙ same ∙ tied_is b u parts.1))

-- the numbers of two pairs tie where both their parts do
pair_tied : (n a b k u : ℕ) → b < n → u < n → eq_by_cmp nat_cmp (a * n + b) (k * n + u) ≡ (eq_by_cmp nat_cmp a k && eq_by_cmp nat_cmp b u)
pair_tied n a b k u in_b in_u = same_bool _ _
    (λ tied.
    let same : a * n + b ≡ k * n + u = tied_is (a * n + b) (k * n + u) tied in
    let callers : a ≡ k = sym (div-mul-add a n b in_b) ∙ ap (λ m. m / n) same ∙ div-mul-add k n u in_u in
    let callees : b ≡ u = sym (mod-mul-add a n b in_b) ∙ ap (λ m. m % n) same ∙ mod-mul-add k n u in_u in
    λ i. tied_with a k callers i && tied_with b u callees i)
    (λ both.
    let parts = and_parts (eq_by_cmp nat_cmp a k) (eq_by_cmp nat_cmp b u) both in
    tied_with (a * n + b) (k * n + u) (λ i. tied_is a k parts.0 i * n + tied_is b u parts.1 i))

-- the pair of the key and the one under it
one_pair : (n a b k u : ℕ) → b < n → u < n
    → has nat_cmp (a * n + b) (pair_if n k u) ≡ (not (eq_by_cmp nat_cmp a b) && (eq_by_cmp nat_cmp a k && eq_by_cmp nat_cmp b u))
one_pair n a b k u in_b in_u =
    elim (k == u) as (λ w. (k == u) ≡ w → has nat_cmp (a * n + b) (cond w [] ((k * n + u) ∷ [])) ≡ (not (eq_by_cmp nat_cmp a b) && (eq_by_cmp nat_cmp a k && eq_by_cmp nat_cmp b u))) [
      | true ↦ λ same. same_bool false _ (λ never. absurd (false≢true never))
          (λ all. absurd (false≢true (sym (not_both _ (and_parts _ _ all).0) ∙ ends_tied a b k u (eqb-true k u same) (and_parts _ _ all).1)))
      | false ↦ λ other. or-false _ ∙ pair_tied n a b k u in_b in_u
          ∙ same_bool _ _
          (λ both. (λ i. not (ends_apart a b k u (λ same. false≢true (sym other ∙ eq-eqb k u same)) both i) && both i))
          (λ all. (and_parts _ _ all).1)
    ] refl

either : (w a b : Bool) → ((w && a) || (w && b)) ≡ (w && (a || b))
either true a b = refl
either false a b = refl

-- the pairs over a key
pairs_stand : (n a b u : ℕ) (ks : List ℕ) → b < n → u < n → All (λ k. k < n) ks
    → has nat_cmp (a * n + b) (pairs_over n (Some u) ks) ≡ (not (eq_by_cmp nat_cmp a b) && stands_over nat_cmp a b u ks)
pairs_stand n a b u [] in_b in_u below = and_false _
pairs_stand n a b u (k ∷ ks) in_b in_u below =
    list_any-append (eq_by_cmp nat_cmp (a * n + b)) (pair_if n k u) (pairs_over n (Some k) ks)
    ∙ (λ i. one_pair n a b k u in_b in_u i || pairs_stand n a b k ks in_b (All-head (λ j. j < n) k ks below) (All-tail (λ j. j < n) k ks below) i)
    ∙ either (not (eq_by_cmp nat_cmp a b)) (eq_by_cmp nat_cmp a k && eq_by_cmp nat_cmp b u) (stands_over nat_cmp a b k ks)

pairs_have : (n a b : ℕ) (ks : List ℕ) → b < n → All (λ k. k < n) ks
    → has nat_cmp (a * n + b) (pairs_over n None ks) ≡ (not (eq_by_cmp nat_cmp a b) && has_pair nat_cmp a b ks)
pairs_have n a b [] in_b below = and_false _
pairs_have n a b (k ∷ ks) in_b below = pairs_stand n a b k ks in_b (All-head (λ j. j < n) k ks below) (All-tail (λ j. j < n) k ks below)

module _ {K : Type 0} (order : K → K → Ordering) (f : ℕ → K) (n : ℕ) (apart : (a b : ℕ) → a < n → b < n → eq_by_cmp order (f a) (f b) ≡ eq_by_cmp nat_cmp a b) where
  stands-renamed : (a b u : ℕ) (ks : List ℕ) → a < n → b < n → u < n → All (λ k. k < n) ks
      → stands_over order (f a) (f b) (f u) (map f ks) ≡ stands_over nat_cmp a b u ks
  stands-renamed a b u [] in_a in_b in_u below = refl
  stands-renamed a b u (k ∷ ks) in_a in_b in_u below =
      let in_k : k < n = All-head (λ j. j < n) k ks below in
      λ i. (apart a k in_a in_k i && apart b u in_b in_u i) || stands-renamed a b k ks in_a in_b in_k (All-tail (λ j. j < n) k ks below) i

  pair-renamed : (a b : ℕ) (ks : List ℕ) → a < n → b < n → All (λ k. k < n) ks → has_pair order (f a) (f b) (map f ks) ≡ has_pair nat_cmp a b ks
  pair-renamed a b [] in_a in_b below = refl
  pair-renamed a b (k ∷ ks) in_a in_b below = stands-renamed a b k ks in_a in_b (All-head (λ j. j < n) k ks below) (All-tail (λ j. j < n) k ks below)

  same_any : (k : ℕ) (ms : List ℕ) → k < n → All (λ m. m < n) ms → list_any (λ m. eq_by_cmp order (f k) (f m)) ms ≡ list_any (eq_by_cmp nat_cmp k) ms
  same_any k [] in_k below = refl
  same_any k (m ∷ ms) in_k below = λ i. apart k m in_k (All-head (λ j. j < n) m ms below) i || same_any k ms in_k (All-tail (λ j. j < n) m ms below) i

-- Pairs over these keys, which have these places and marks.
module _ {K : Type 0} (order : K → K → Ordering) (f : ℕ → K) (n : ℕ) (apart : (a b : ℕ) → a < n → b < n → eq_by_cmp order (f a) (f b) ≡ eq_by_cmp nat_cmp a b)
    (keys : List ℕ) (inside : All (λ k. k < n) keys) (over : Pairing) (are : ArePairPlaces keys over.place) (fits : length over.marked ≡ length keys) where
  abbrev pub m : ℕ
  m = length over.marked

  abbrev at : ℕ → ℕ
  at q = get_or keys q 0

  -- what the key at the place stands for
  abbrev pub g : ℕ → K
  g q = f (at q)

  -- the key is that of one of them
  abbrev pub kept_by : K → Bool
  kept_by w = list_any (λ k. eq_by_cmp order w (f k)) keys

  abbrev places : List ℕ → List ℕ
  places ks = filter_map (pair_place over) ks

  at_inside : (q : ℕ) → q < m → at q < n
  at_inside q here = inside q 0 (omega (arith, here, fits))

  found : (q : ℕ) → q < m → pair_place over (at q) ≡ Some q
  found q here = are.found q (omega (arith, here, fits))

  at_apart : (a b : ℕ) → a < m → b < m → eq_by_cmp nat_cmp (at a) (at b) ≡ eq_by_cmp nat_cmp a b
  at_apart a b in_a in_b = same_bool _ _
      (λ tied. tied_with a b (ap (λ o. unwrap_or o 0) (sym (found a in_a) ∙ ap (pair_place over) (tied_is (at a) (at b) tied) ∙ found b in_b)))
      (λ tied. tied_with (at a) (at b) (ap at (tied_is a b tied)))

  g_apart : (a b : ℕ) → a < m → b < m → eq_by_cmp order (g a) (g b) ≡ eq_by_cmp nat_cmp a b
  g_apart a b in_a in_b = apart (at a) (at b) (at_inside a in_a) (at_inside b in_b) ∙ at_apart a b in_a in_b

  below : (k q : ℕ) → pair_place over k ≡ Some q → q < m
  below k q is = omega (arith, fits, (are.only k q is).0)

  places_all : (ks : List ℕ) → All (λ q. q < m) (places ks)
  places_all [] = All-nil (λ q. q < m)
  places_all (k ∷ ks) =
      elim (pair_place over k) as (λ o. pair_place over k ≡ o → All (λ q. q < m) (cons_option o (places ks))) [
        | None ↦ λ is. places_all ks
        | Some q ↦ λ is. All-cons (λ j. j < m) q (places ks) (below k q is) (places_all ks)
      ] refl

  -- a key without a place is none of them
  other_key : (k q : ℕ) → pair_place over k ≡ None → q < m → eq_by_cmp nat_cmp k (at q) ≡ false
  other_key k q none here = unsigned_tied k (at q) ∙ ne_eqb k (at q) (λ same. none_some (sym none ∙ ap (pair_place over) same ∙ found q here)) where
    none_some : None ≡ Some q → ⊥
    none_some is = false≢true (ap is_some is)

  placed : (k : ℕ) → list_any (eq_by_cmp nat_cmp k) keys ≡ is_some (pair_place over k)
  placed k =
      elim (pair_place over k) as (λ o. pair_place over k ≡ o → list_any (eq_by_cmp nat_cmp k) keys ≡ is_some o) [
        | None ↦ λ is. list_any_none (eq_by_cmp nat_cmp k) keys (λ i d here. ap (eq_by_cmp nat_cmp k) (get_or_default keys i d 0 here) ∙ other_key k i is (omega (arith, here, fits)))
        | Some q ↦ λ is. list_any-from_Contains (eq_by_cmp_equiv nat_cmp_total) k keys
            (q, (are.only k q is).0, get_or_default keys q k 0 (are.only k q is).0 ∙ (are.only k q is).1)
      ] refl

  kept_is : (k : ℕ) → k < n → kept_by (f k) ≡ is_some (pair_place over k)
  kept_is k in_k = same_any order f n apart k keys in_k inside ∙ placed k

  filtered : (ks : List ℕ) → All (λ k. k < n) ks → filter kept_by (map f ks) ≡ map g (places ks)
  filtered [] in_ks = refl
  filtered (k ∷ ks) in_ks =
      ap (λ b. cond b (f k ∷ filter kept_by (map f ks)) (filter kept_by (map f ks))) (kept_is k (All-head (λ j. j < n) k ks in_ks))
      ∙ elim (pair_place over k) as (λ o. pair_place over k ≡ o → cond (is_some o) (f k ∷ filter kept_by (map f ks)) (filter kept_by (map f ks)) ≡ map g (cons_option o (places ks))) [
        | None ↦ λ is. filtered ks (All-tail (λ j. j < n) k ks in_ks)
        | Some q ↦ λ is i. f (sym (are.only k q is).1 i) ∷ filtered ks (All-tail (λ j. j < n) k ks in_ks) i
      ] refl

  -- an edge by keys is one by places
  edge_is : (a b : ℕ) → a < m → b < m → (ks : List ℕ) → All (λ k. k < n) ks
      → has_edge order kept_by (g a) (g b) (map f ks) ≡ (not (eq_by_cmp nat_cmp a b) && has_pair nat_cmp a b (places ks))
  edge_is a b in_a in_b ks in_ks =
      (λ i. not (g_apart a b in_a in_b i) && has_pair order (g a) (g b) (filtered ks in_ks i))
      ∙ ap (λ w. not (eq_by_cmp nat_cmp a b) && w) (pair-renamed order g m g_apart a b (places ks) in_a in_b (places_all ks))

  -- the marks of the ends of a pair
  abbrev pub marks : ℕ → ℕ → Bool
  marks a b = is_marked over.marked a || is_marked over.marked b

  marks_are : (a b : ℕ) → b < m → has_mark over.marked (a * m + b) ≡ marks a b
  marks_are a b in_b = λ i. is_marked over.marked (div-mul-add a m b in_b i) || is_marked over.marked (mod-mul-add a m b in_b i)

  pair_has : (a b : ℕ) → a < m → b < m → (ks : List ℕ) → All (λ k. k < n) ks
      → has nat_cmp (a * m + b) (pairs_of over ks) ≡ (marks a b && has_edge order kept_by (g a) (g b) (map f ks))
  pair_has a b in_a in_b ks in_ks =
      any-filter_same (eq_by_cmp nat_cmp (a * m + b)) (has_mark over.marked) (has_mark over.marked (a * m + b))
      (λ x tied. ap (has_mark over.marked) (sym (tied_is (a * m + b) x tied))) (pairs_over m None (places ks))
      ∙ (λ i. marks_are a b in_b i && (pairs_have m a b (places ks) in_b (places_all ks) ∙ sym (edge_is a b in_a in_b ks in_ks)) i)

  -- whether the pair occurs, and its sum
  pub occurs-paired : (a b : ℕ) (S : List (Seen ℕ)) → a < m → b < m → All (λ s. All (λ k. k < n) s.keys) S
      → occurs nat_cmp (map (paired over) S) (a * m + b) ≡ (marks a b && edge_occurs order kept_by (map (renamed f) S) (g a) (g b))
  occurs-paired a b [] in_a in_b in_S = and_false (marks a b)
  occurs-paired a b (s ∷ S) in_a in_b in_S =
      (λ i. pair_has a b in_a in_b s.keys (All-head (λ (t : Seen ℕ). All (λ k. k < n) t.keys) s S in_S) i
      || occurs-paired a b S in_a in_b (All-tail (λ (t : Seen ℕ). All (λ k. k < n) t.keys) s S in_S) i)
      ∙ either (marks a b) (has_edge order kept_by (g a) (g b) (map f s.keys)) (edge_occurs order kept_by (map (renamed f) S) (g a) (g b))

  pub sum-paired : (a b : ℕ) (S : List (Seen ℕ)) → a < m → b < m → marks a b ≡ true → All (λ s. All (λ k. k < n) s.keys) S
      → cum nat_cmp (map (paired over) S) (a * m + b) ≡ edge_sum order kept_by (map (renamed f) S) (g a) (g b)
  sum-paired a b [] in_a in_b marked in_S = refl
  sum-paired a b (s ∷ S) in_a in_b marked in_S = λ i.
      cond ((pair_has a b in_a in_b s.keys (All-head (λ (t : Seen ℕ). All (λ k. k < n) t.keys) s S in_S) ∙ ap (λ w. w && has_edge order kept_by (g a) (g b) (map f s.keys)) marked) i) s.value (pos 0)
      +ℤ sum-paired a b S in_a in_b marked (All-tail (λ (t : Seen ℕ). All (λ k. k < n) t.keys) s S in_S) i

  -- no pair has a key without a place
  apart_from : (k q : ℕ) → k < n → pair_place over k ≡ None → q < m → eq_by_cmp order (f k) (g q) ≡ false
  apart_from k q in_k none here = apart k (at q) in_k (at_inside q here) ∙ other_key k q none here

  no_caller : (k : ℕ) (w u : K) (qs : List ℕ) → k < n → pair_place over k ≡ None → All (λ q. q < m) qs → stands_over order (f k) w u (map g qs) ≡ false
  no_caller k w u [] in_k none in_qs = refl
  no_caller k w u (q ∷ qs) in_k none in_qs = λ i.
      (apart_from k q in_k none (All-head (λ j. j < m) q qs in_qs) i && eq_by_cmp order w u) || no_caller k w (g q) qs in_k none (All-tail (λ j. j < m) q qs in_qs) i

  no_callee : (k : ℕ) (w : K) (u : ℕ) (qs : List ℕ) → k < n → pair_place over k ≡ None → u < m → All (λ q. q < m) qs → stands_over order w (f k) (g u) (map g qs) ≡ false
  no_callee k w u [] in_k none in_u in_qs = refl
  no_callee k w u (q ∷ qs) in_k none in_u in_qs =
      (λ i. (eq_by_cmp order w (g q) && apart_from k u in_k none in_u i) || no_callee k w q qs in_k none (All-head (λ j. j < m) q qs in_qs) (All-tail (λ j. j < m) q qs in_qs) i)
      ∙ ap (λ x. x || false) (sym (and_false (eq_by_cmp order w (g q))))

  no_edge : (b e : Bool) → b ≡ false → (not e && b) ≡ false
  no_edge b true none = refl
  no_edge b false none = none

  no_pair_from : (k : ℕ) (w : K) (qs : List ℕ) → k < n → pair_place over k ≡ None → All (λ q. q < m) qs → has_pair order (f k) w (map g qs) ≡ false
  no_pair_from k w [] in_k none in_qs = refl
  no_pair_from k w (q ∷ qs) in_k none in_qs = no_caller k w (g q) qs in_k none (All-tail (λ j. j < m) q qs in_qs)

  no_pair_to : (k : ℕ) (w : K) (qs : List ℕ) → k < n → pair_place over k ≡ None → All (λ q. q < m) qs → has_pair order w (f k) (map g qs) ≡ false
  no_pair_to k w [] in_k none in_qs = refl
  no_pair_to k w (q ∷ qs) in_k none in_qs = no_callee k w q qs in_k none (All-head (λ j. j < m) q qs in_qs) (All-tail (λ j. j < m) q qs in_qs)

  pub none_from : (k : ℕ) (w : K) (S : List (Seen ℕ)) → k < n → pair_place over k ≡ None → All (λ s. All (λ k. k < n) s.keys) S
      → edge_occurs order kept_by (map (renamed f) S) (f k) w ≡ false
  none_from k w [] in_k none in_S = refl
  none_from k w (s ∷ S) in_k none in_S = λ i.
      no_edge (has_pair order (f k) w (filter kept_by (map f s.keys))) (eq_by_cmp order (f k) w)
      (ap (has_pair order (f k) w) (filtered s.keys (All-head (λ (t : Seen ℕ). All (λ k. k < n) t.keys) s S in_S)) ∙ no_pair_from k w (places s.keys) in_k none (places_all s.keys)) i
      || none_from k w S in_k none (All-tail (λ (t : Seen ℕ). All (λ k. k < n) t.keys) s S in_S) i

  pub none_to : (k : ℕ) (w : K) (S : List (Seen ℕ)) → k < n → pair_place over k ≡ None → All (λ s. All (λ k. k < n) s.keys) S
      → edge_occurs order kept_by (map (renamed f) S) w (f k) ≡ false
  none_to k w [] in_k none in_S = refl
  none_to k w (s ∷ S) in_k none in_S = λ i.
      no_edge (has_pair order w (f k) (filter kept_by (map f s.keys))) (eq_by_cmp order w (f k))
      (ap (has_pair order w (f k)) (filtered s.keys (All-head (λ (t : Seen ℕ). All (λ k. k < n) t.keys) s S in_S)) ∙ no_pair_to k w (places s.keys) in_k none (places_all s.keys)) i
      || none_to k w S in_k none (All-tail (λ (t : Seen ℕ). All (λ k. k < n) t.keys) s S in_S) i

succ_mul : (k n : ℕ) → (k + 1) * n ≡ k * n + n
succ_mul k n = omega arith

-- the numbers of pairs over n names are below their square
pair_below : (n k u : ℕ) → k < n → u < n → k * n + u < n * n
pair_below n k u in_k in_u =
    let wide : (k + 1) * n ≤ n * n = mul-le-mul_right n (omega (arith, in_k)) in
    let split : (k + 1) * n ≡ k * n + n = succ_mul k n in
    omega (arith, in_u, wide, split)

pairs_below_over : (n u : ℕ) (ks : List ℕ) → u < n → All (λ k. k < n) ks → All (λ m. m < n * n) (pairs_over n (Some u) ks)
pairs_below_over n u [] in_u below = All-nil (λ m. m < n * n)
pairs_below_over n u (k ∷ ks) in_u below =
    let in_k : k < n = All-head (λ j. j < n) k ks below in
    All-append (λ m. m < n * n) (pair_if n k u) (pairs_over n (Some k) ks)
    (elim (k == u) as (λ w. All (λ m. m < n * n) (cond w [] ((k * n + u) ∷ []))) [
      | true ↦ All-nil (λ m. m < n * n)
      | false ↦ All-cons (λ m. m < n * n) (k * n + u) [] (pair_below n k u in_k in_u) (All-nil (λ m. m < n * n))
    ])
    (pairs_below_over n k ks in_k (All-tail (λ j. j < n) k ks below))

pairs_below_none : (n : ℕ) (ks : List ℕ) → All (λ k. k < n) ks → All (λ m. m < n * n) (pairs_over n None ks)
pairs_below_none n [] below = All-nil (λ m. m < n * n)
pairs_below_none n (k ∷ ks) below = pairs_below_over n k ks (All-head (λ j. j < n) k ks below) (All-tail (λ j. j < n) k ks below)

-- the numbers of a sample's pairs are below the square of the number of places
pub pairs_below : (over : Pairing) → ((k q : ℕ) → pair_place over k ≡ Some q → q < length over.marked) → (S : List (Seen ℕ))
    → All (λ s. All (λ m. m < length over.marked * length over.marked) s.keys) (map (paired over) S)
pairs_below over below [] = All-nil _
pairs_below over below (s ∷ S) =
    let n : ℕ = length over.marked in
    All-cons (λ (t : Seen ℕ). All (λ m. m < n * n) t.keys) (paired over s) (map (paired over) S)
    (All-filter (has_mark over.marked) (λ m. m < n * n) (pairs_over n None (filter_map (pair_place over) s.keys))
    (pairs_below_none n (filter_map (pair_place over) s.keys) (all_below s.keys))) (pairs_below over below S) where
      all_below : (ks : List ℕ) → All (λ q. q < length over.marked) (filter_map (pair_place over) ks)
      all_below [] = All-nil (λ q. q < length over.marked)
      all_below (k ∷ ks) =
          elim (pair_place over k) as (λ o. pair_place over k ≡ o → All (λ q. q < length over.marked) (cons_option o (filter_map (pair_place over) ks))) [
            | None ↦ λ is. all_below ks
            | Some q ↦ λ is. All-cons (λ j. j < length over.marked) q (filter_map (pair_place over) ks) (below k q is) (all_below ks)
          ] refl

-- the samples of a value other than 0, with their pairs
pub weighed-paired : (over : Pairing) (S : List (Seen ℕ)) → weighed (map (paired over) S) ≡ map (paired over) (weighed S)
weighed-paired over [] = refl
weighed-paired over (s ∷ S) =
    elim (not (int_eq s.value (pos 0))) as (λ b. cond b (paired over s ∷ weighed (map (paired over) S)) (weighed (map (paired over) S)) ≡ map (paired over) (cond b (s ∷ weighed S) (weighed S))) [
      | true ↦ ap (λ r. paired over s ∷ r) (weighed-paired over S)
      | false ↦ weighed-paired over S
    ]

-- a pair is listed where its ends are different and one of them is marked
pub pair_listed : (marked : List Bool) (a b : ℕ) → b < length marked
    → filter (has_mark marked) (pair_if (length marked) a b) ≡ cond (not (a == b) && (is_marked marked a || is_marked marked b)) ((a * length marked + b) ∷ []) []
pair_listed marked a b in_b =
    elim (a == b) as (λ w. filter (has_mark marked) (cond w [] ((a * length marked + b) ∷ [])) ≡ cond (not w && (is_marked marked a || is_marked marked b)) ((a * length marked + b) ∷ []) []) [
      | true ↦ refl
      | false ↦ λ i. cond (is_marked marked (div-mul-add a (length marked) b in_b i) || is_marked marked (mod-mul-add a (length marked) b in_b i)) ((a * length marked + b) ∷ []) []
    ]

module _ (over : Pairing) (keys : List ℕ) (i d : ℕ) (under : Option ℕ) (here : i < length keys) where
  abbrev rest : List ℕ
  rest = filter_map (pair_place over) (drop (i + 1) keys)

  abbrev listed : List ℕ → List ℕ
  listed xs = filter (has_mark over.marked) xs

  abbrev pairs_left : Option ℕ → ℕ → List ℕ
  pairs_left b j = listed (pairs_over (length over.marked) b (filter_map (pair_place over) (drop j keys)))

  next_key : (o : Option ℕ) → pair_place over (get_or keys i d) ≡ o → pairs_left under i ≡ listed (pairs_over (length over.marked) under (cons_option o rest))
  next_key o is = ap (λ ks. listed (pairs_over (length over.marked) under (filter_map (pair_place over) ks))) (drop_more keys i d here)
      ∙ ap (λ x. listed (pairs_over (length over.marked) under (cons_option x rest))) is

  over_next : (o : Option ℕ) (q : ℕ) → listed (pairs_over (length over.marked) o (q ∷ rest)) ≡ listed (option_map_or (pair_if (length over.marked) q) o []) ++ pairs_left (Some q) (i + 1)
  over_next None q = refl
  over_next (Some b) q = filter-append (has_mark over.marked) (pair_if (length over.marked) q b) (pairs_over (length over.marked) (Some q) rest)

  -- the pairs that are left, with those of the next key apart
  pub key_paired : (o : Option ℕ) → pair_place over (get_or keys i d) ≡ o → pairs_left under i ≡ listed (pair_between (length over.marked) o under) ++ pairs_left (first_else o under) (i + 1)
  key_paired None is = next_key None is
  key_paired (Some q) is = next_key (Some q) is ∙ over_next under q
