-- Which names are kept.
use Rattle.std.proofs.Common.{◌≡◌, ℕ, eqb, ◌+◌, ◌<◌, ◌≤◌, Bool, true, false, ◌||◌, ◌&&◌, List, [], ◌∷◌, ◌++◌, length, map, take, get_or, set, replicate, All, inl, inr, refl, sym, ap, ◌∙◌, arith}
use Rattle.std.specs.List.{list_any, range_with_len, filter}
use Rattle.std.specs.Ordering.{nat_cmp, eq_by_cmp}
use Rattle.std.specs.Cmp.{unsigned_tied, nat_cmp_total}
use Rattle.std.proofs.lemmas.Bool.{cases_eq, cases_lt, eq-eqb, false≢true}
use Rattle.std.proofs.lemmas.Cmp.{eq_by_cmp_equiv}
use Rattle.std.proofs.lemmas.List.{length-map, length-set, get_or-set_same, get_or-set_other, get_or-replicate, length-replicate, take_more, get_or_past}
use Rattle.std.proofs.lemmas.List.Elements.{All-head, All-tail}
use Rattle.std.proofs.lemmas.List.Folds.{list_any-append}
use Rattle.std.proofs.lemmas.List.FromFn.{fill_by_all, length-range_with_len, get_or-range_with_len, length-map-range_with_len, get_or-map-range_with_len}
use Rattle.std.proofs.lemmas.Map.Views.{any-filter_same, list_any-from_Contains}
use Rattle.std.proofs.Math.Bool.{or-false, and-true}
use Rattle.pp_count.specs.Edges.{is_kept_key}
use Rattle.pp_count.specs.EdgeSums.{kept_numbers}
use Rattle.pp_count.proofs.Renaming.{tied_is}
use Rattle.pp_graph.specs.Cuts.{kept_flags}
use Rattle.pp_graph.proofs.Chaining.{eqb-not}

-- the number is among these
abbrev pub among : ℕ → List ℕ → Bool
among n order = list_any (eq_by_cmp nat_cmp n) order

pub flags_none : (names : ℕ) (flags : List Bool) → flags ≡ replicate names false → flags ≡ kept_flags names []
flags_none names flags is = is ∙ fill_by_all (λ n. among n []) (replicate names false) names false (length-replicate names false) (λ k within. get_or-replicate names k false false within)

or-true : (b : Bool) → (b || true) ≡ true
or-true true = refl
or-true false = refl

among-push : (k x : ℕ) (order : List ℕ) → among k (order ++ x ∷ []) ≡ (among k order || eqb k x)
among-push k x order = list_any-append (eq_by_cmp nat_cmp k) order (x ∷ []) ∙ ap (λ b. among k order || b) (or-false (eq_by_cmp nat_cmp k x) ∙ unsigned_tied k x)

flags_set : (names x : ℕ) (order : List ℕ) → x < names → set (kept_flags names order) x true ≡ kept_flags names (order ++ x ∷ [])
flags_set names x order within =
    fill_by_all (λ n. among n (order ++ x ∷ [])) (set (kept_flags names order) x true) names false
    (length-set (kept_flags names order) x true ∙ length-map-range_with_len (λ n. among n order) 0 names)
    (λ k inside. elim (cases_eq k x) [
      | inl is ↦ ap (λ j. get_or (set (kept_flags names order) x true) j false) is
          ∙ get_or-set_same (kept_flags names order) x true false (omega (arith, within, length-map-range_with_len (λ n. among n order) 0 names))
          ∙ sym (among-push k x order ∙ ap (λ b. among k order || b) (eq-eqb k x is) ∙ or-true (among k order))
      | inr apart ↦ get_or-set_other (kept_flags names order) x k true false apart
          ∙ get_or-map-range_with_len (λ n. among n order) 0 names k k false inside (omega arith)
          ∙ sym (among-push k x order ∙ ap (λ b. among k order || b) (eqb-not k x apart) ∙ or-false (among k order))
    ])

pub flags_more : (names i d : ℕ) (order : List ℕ) (flags : List Bool) → i < length order → get_or order i d < names → flags ≡ kept_flags names (take i order)
    → set flags (get_or order i d) true ≡ kept_flags names (take (i + 1) order)
flags_more names i d order flags within below is =
    ap (λ fs. set fs (get_or order i d) true) is ∙ flags_set names (get_or order i d) (take i order) below ∙ ap (kept_flags names) (sym (take_more order i d within))

pub length-flags : (names : ℕ) (order : List ℕ) → length (kept_flags names order) ≡ names
length-flags names order = length-map-range_with_len (λ n. among n order) 0 names

in_range : (n m : ℕ) → m < n → among m (range_with_len 0 n) ≡ true
in_range n m below = list_any-from_Contains (eq_by_cmp_equiv nat_cmp_total) m (range_with_len 0 n)
    (m, omega (arith, below, length-range_with_len 0 n), get_or-range_with_len 0 n m m below ∙ omega arith)

not_among : (names m : ℕ) (order : List ℕ) → All (λ n. n < names) order → names ≤ m → among m order ≡ false
not_among names m [] below past = refl
not_among names m (x ∷ order) below past =
    ap (λ b. b || among m order) (unsigned_tied m x ∙ eqb-not m x (λ is. omega (arith, past, is, All-head (λ n. n < names) x order below)))
    ∙ not_among names m order (All-tail (λ n. n < names) x order below) past

-- the numbers that are kept are these
pub kept_are : (names m : ℕ) (order : List ℕ) → All (λ n. n < names) order → among m (kept_numbers (kept_flags names order) names) ≡ among m order
kept_are names m order below =
    any-filter_same (eq_by_cmp nat_cmp m) (is_kept_key (kept_flags names order)) (is_kept_key (kept_flags names order) m)
    (λ k e. ap (is_kept_key (kept_flags names order)) (sym (tied_is m k e))) (range_with_len 0 names)
    ∙ elim (cases_lt m names) [
      | inl within ↦ ap (λ b. is_kept_key (kept_flags names order) m && b) (in_range names m within) ∙ and-true (is_kept_key (kept_flags names order) m)
          ∙ get_or-map-range_with_len (λ n. among n order) 0 names m m false within (omega arith)
      | inr past ↦ ap (λ b. b && among m (range_with_len 0 names)) (get_or_past (kept_flags names order) m false (omega (arith, past, length-flags names order)))
          ∙ sym (not_among names m order below past)
    ]
