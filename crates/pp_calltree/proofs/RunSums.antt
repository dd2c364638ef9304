-- Sums over the paths of a run, one after the other.
use Rattle.std.proofs.Common.{◌≡◌, ℕ, zero, suc, ◌+◌, ◌<◌, ◌≤◌, ◌^◌, Bool, true, false, cond, ℤ, pos, ◌+ℤ◌, nat_abs, w64, to_z, of_z, List, [], ◌∷◌, length, take, drop, get_or, refl, sym, ap, ◌∙◌, arith}
use Rattle.std.specs.List.{slice_get, sum_by}
use Rattle.std.specs.Option.{option_map_or}
use Rattle.std.proofs.lemmas.Int.{fits_signed_from_abs, to_z-of_z}
use Rattle.std.proofs.lemmas.List.{map-append, take_all, take_more}
use Rattle.std.proofs.lemmas.List.Sums.{sum_by-cons, sum_by_push, sum_by-take-le}
use Rattle.pp_base.proofs.Sums.{triangle}
use Rattle.pp_count.specs.Sums.{Seen, absolute, sum_where}
use Rattle.pp_count.proofs.Adding.{sum_where_push}
use Rattle.pp_calltree.specs.declared.path.Path.{Path}
use Rattle.pp_calltree.specs.CallTree.{any_path, is_end}
use Rattle.pp_calltree.specs.Paths.{below, path_below, own_path_value}

size_if : (b : Bool) (v : ℤ) → nat_abs (cond b v (pos 0)) ≤ nat_abs v
size_if true v = omega arith
size_if false v = omega arith

-- a sum over samples is within all their values
within_all : (p : List ℕ → Bool) (S : List (Seen ℕ)) → nat_abs (sum_where p S) ≤ absolute S
within_all p [] = omega arith
within_all p (s ∷ S) =
    omega (arith, within_all p S, triangle (cond (p s.keys) s.value (pos 0)) (sum_where p S), size_if (p s.keys) s.value, sum_by-cons (λ (t : Seen ℕ). nat_abs t.value) s S)

sizes_are : (depth : ℕ) (paths : List Path) → absolute (below depth paths) ≡ sum_by (λ (x : Path). nat_abs x.value) paths
sizes_are depth [] = refl
sizes_are depth (x ∷ paths) =
    omega (arith, sizes_are depth paths, sum_by-cons (λ (t : Seen ℕ). nat_abs t.value) (path_below depth x) (below depth paths), sum_by-cons (λ (y : Path). nat_abs y.value) x paths)

own_is : (n : ℕ) (ks : List ℕ) (v : ℤ) → option_map_or (λ key. pos 0) (slice_get ks n) v ≡ cond (is_end (drop n ks)) v (pos 0)
own_is zero [] v = refl
own_is zero (k ∷ ks) v = refl
own_is (suc n) [] v = refl
own_is (suc n) (k ∷ ks) v = own_is n ks v

-- a number that fits is read as it was written
pub read_back : (z : ℤ) → nat_abs z < 2 ^ 63 → to_z w64 (of_z w64 z) ≡ z
read_back z small = to_z-of_z w64 z (fits_signed_from_abs w64 z small)

-- The sums over the first paths.
pub record SumsTo (depth : ℕ) (run : List Path) (i : ℕ) (flat cum : ℤ) : Type 0 where
  pub flat_is : flat ≡ sum_where is_end (below depth (take i run))
  pub cum_is : cum ≡ sum_where any_path (below depth (take i run))

module _ (depth : ℕ) (run : List Path) (i : ℕ) (d : Path) (here : i < length run) (fits : absolute (below depth run) < 2 ^ 63) where
  abbrev x : Path
  x = get_or run i d

  room : (p : List ℕ → Bool) → nat_abs (sum_where p (below depth (take i run))) + nat_abs x.value < 2 ^ 63
  room p = omega (
    arith,
    fits,
    within_all p (below depth (take i run)),
    sizes_are depth (take i run),
    sizes_are depth run,
    sum_by-take-le (λ (y : Path). nat_abs y.value) run (i + 1),
    ap (sum_by (λ (y : Path). nat_abs y.value)) (take_more run i d here),
    sum_by_push (λ (y : Path). nat_abs y.value) (take i run) x,
  )

  value_back : to_z w64 (of_z w64 x.value) ≡ x.value
  value_back = read_back x.value (omega (arith, room any_path))

  next_sum : (p : List ℕ → Bool) (sum v : ℤ) → sum ≡ sum_where p (below depth (take i run)) → v ≡ cond (p (drop depth x.keys.now)) x.value (pos 0)
      → sum +ℤ v ≡ sum_where p (below depth (take (i + 1) run))
  next_sum p sum v sum_is v_is =
      (λ j. sum_is j +ℤ v_is j) ∙ sym (sum_where_push p (below depth (take i run)) (path_below depth x))
      ∙ ap (sum_where p) (sym (ap (below depth) (take_more run i d here) ∙ map-append (path_below depth) (take i run) (x ∷ [])))

  small_sum : (p : List ℕ → Bool) (z : ℤ) → z ≡ sum_where p (below depth (take (i + 1) run)) → nat_abs z < 2 ^ 63
  small_sum p z is = omega (
    arith,
    fits,
    ap nat_abs is,
    within_all p (below depth (take (i + 1) run)),
    sizes_are depth (take (i + 1) run),
    sizes_are depth run,
    sum_by-take-le (λ (y : Path). nat_abs y.value) run (i + 1),
  )

  pub cum_fits : (flat cum : ℤ) → SumsTo depth run i flat cum → nat_abs cum + nat_abs (to_z w64 (of_z w64 x.value)) < 2 ^ 63
  cum_fits flat cum so_far = omega (arith, room any_path, ap nat_abs so_far.cum_is, ap nat_abs value_back)

  own_small : (own : ℤ) → own ≡ own_path_value depth x → nat_abs own ≤ nat_abs x.value
  own_small own is = omega (arith, ap nat_abs (is ∙ own_is depth x.keys.now x.value), size_if (is_end (drop depth x.keys.now)) x.value)

  own_back : (own : ℤ) → own ≡ own_path_value depth x → to_z w64 (of_z w64 own) ≡ own
  own_back own is = read_back own (omega (arith, own_small own is, room any_path))

  pub flat_fits : (flat cum own : ℤ) → own ≡ own_path_value depth x → SumsTo depth run i flat cum → nat_abs flat + nat_abs (to_z w64 (of_z w64 own)) < 2 ^ 63
  flat_fits flat cum own is so_far = omega (arith, room is_end, ap nat_abs so_far.flat_is, ap nat_abs (own_back own is), own_small own is)

  pub sums_more : (flat cum own new_flat new_cum : ℤ) → own ≡ own_path_value depth x → new_cum ≡ cum +ℤ to_z w64 (of_z w64 x.value) → new_flat ≡ flat +ℤ to_z w64 (of_z w64 own)
      → SumsTo depth run i flat cum → SumsTo depth run (i + 1) (to_z w64 (of_z w64 new_flat)) (to_z w64 (of_z w64 new_cum))
  sums_more flat cum own new_flat new_cum own_same cum_same flat_same so_far =
      let cum_is : new_cum ≡ sum_where any_path (below depth (take (i + 1) run)) = cum_same ∙ next_sum any_path cum (to_z w64 (of_z w64 x.value)) so_far.cum_is value_back in
      let flat_is : new_flat ≡ sum_where is_end (below depth (take (i + 1) run)) =
      flat_same ∙ next_sum is_end flat (to_z w64 (of_z w64 own)) so_far.flat_is (own_back own own_same ∙ own_same ∙ own_is depth x.keys.now x.value) in
      record {
        flat_is = read_back new_flat (small_sum is_end new_flat flat_is) ∙ flat_is;
        cum_is = read_back new_cum (small_sum any_path new_cum cum_is) ∙ cum_is;
      }

pub sums_all : (depth : ℕ) (run : List Path) (i : ℕ) (flat cum : ℤ) → length run ≤ i → SumsTo depth run i flat cum
    → (flat ≡ sum_where is_end (below depth run)) × (cum ≡ sum_where any_path (below depth run))
sums_all depth run i flat cum past so_far =
    (so_far.flat_is ∙ ap (λ ps. sum_where is_end (below depth ps)) (take_all i run past), so_far.cum_is ∙ ap (λ ps. sum_where any_path (below depth ps)) (take_all i run past))
