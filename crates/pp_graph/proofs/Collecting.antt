-- How the heavy and the light names are told apart, one after the other.
use Rattle.std.proofs.Common.{◌≡◌, ℕ, zero, suc, ◌+◌, ◌≤◌, Bool, true, false, cond, not, List, [], ◌∷◌, ◌++◌, length, map, All, Some, sym, ap, subst, ◌∙◌, arith, refl}
use Rattle.std.specs.List.{filter, range_with_len, slice_get}
use Rattle.std.proofs.lemmas.Option.{get_or_from_slice_get}
use Rattle.std.proofs.lemmas.List.Sums.{length-filter, count_by-le-length}
use Rattle.std.proofs.lemmas.List.FromFn.{length-range_with_len}
use Rattle.std.proofs.lemmas.List.{map-append, append-nil, length-append, length_push}
use Rattle.std.proofs.lemmas.List.Elements.{filter-append, All-push}
use Rattle.pp_model.specs.declared.presentation.Sort.{Sort}
use Rattle.pp_model.specs.declared.profile.Profile.{Profile}
use Rattle.pp_grain.specs.declared.key.Key.{Key}
use Rattle.pp_grain.specs.Keys.{key_written}
use Rattle.pp_count.specs.declared.sums.Sums.{Sums}
use Rattle.pp_count.specs.Table.{no_key, written_key}
use Rattle.pp_graph.specs.declared.heavy.RankedRow.{RankedRow}
use Rattle.pp_graph.specs.Ranks.{Collected, IsRankedRow, is_heavy_number, heavy_numbers, light_numbers}

-- what a number of a name stands for, where its key is at hand
pub written_is : (p : Profile) (names : List Key) (n : ℕ) (key : Key) → slice_get names n ≡ Some key → written_key p names n ≡ key_written p key
written_is p names n key is = ap (key_written p) (get_or_from_slice_get names n key no_key is)

-- one more number
range_push : (a n b : ℕ) → b ≡ a + n → range_with_len a (suc n) ≡ range_with_len a n ++ b ∷ []
range_push a zero b e = ap (λ k. k ∷ []) (let h : a ≡ b = omega (arith, e) in h)
range_push a (suc n) b e = ap (λ r. a ∷ r) (range_push (a + 1) n b (omega (arith, e)))

range_more : (n : ℕ) → range_with_len 0 (n + 1) ≡ range_with_len 0 n ++ n ∷ []
range_more n = let e : n + 1 ≡ suc n = omega arith in ap (range_with_len 0) e ∙ range_push 0 n n (omega arith)

picked_push : (p : ℕ → Bool) (n : ℕ) (b : Bool) → p n ≡ b → filter p (range_with_len 0 (n + 1)) ≡ filter p (range_with_len 0 n) ++ cond b (n ∷ []) []
picked_push p n b e = ap (filter p) (range_more n) ∙ filter-append p (range_with_len 0 n) (n ∷ []) ∙ ap (λ c. filter p (range_with_len 0 n) ++ cond c (n ∷ []) []) e

module _ (p : Profile) (sort : Sort) (sums : Sums) (total billionths : ℕ) where
  pub collected_heavy : (n : ℕ) (rows : List RankedRow) (row : RankedRow) (light : ℕ) → is_heavy_number total billionths sums n ≡ true → IsRankedRow p sort sums row → row.number ≡ n
      → Collected p sort sums total billionths n rows light → Collected p sort sums total billionths (n + 1) (rows ++ row ∷ []) light
  collected_heavy n rows row light heavy of number c = record {
    rows_are = All-push (IsRankedRow p sort sums) rows row c.rows_are of;
    numbers = map-append (λ (r : RankedRow). r.number) rows (row ∷ []) ∙ (λ i. c.numbers i ++ number i ∷ []) ∙ sym (picked_push (is_heavy_number total billionths sums) n true heavy);
    too_light = c.too_light ∙ sym (ap length (append-nil (light_numbers total billionths sums n)))
        ∙ ap length (sym (picked_push (λ k. not (is_heavy_number total billionths sums k)) n false (ap not heavy)));
  }

  pub collected_light : (n : ℕ) (rows : List RankedRow) (light : ℕ) → is_heavy_number total billionths sums n ≡ false
      → Collected p sort sums total billionths n rows light → Collected p sort sums total billionths (n + 1) rows (light + 1)
  collected_light n rows light heavy c = record {
    rows_are = c.rows_are;
    numbers = c.numbers ∙ sym (append-nil (heavy_numbers total billionths sums n)) ∙ sym (picked_push (is_heavy_number total billionths sums) n false heavy);
    too_light = ap (λ k. k + 1) c.too_light ∙ sym (length_push (light_numbers total billionths sums n) n)
        ∙ ap length (sym (picked_push (λ k. not (is_heavy_number total billionths sums k)) n true (ap not heavy)));
  }

  -- no more are light than there are
  pub light_bound : (n : ℕ) → length (light_numbers total billionths sums n) ≤ n
  light_bound n = omega (
    arith,
    length-filter (λ k. not (is_heavy_number total billionths sums k)) (range_with_len 0 n),
    count_by-le-length (λ k. not (is_heavy_number total billionths sums k)) (range_with_len 0 n),
    length-range_with_len 0 n,
  )
