-- What the base's samples come to, from the tallies of their numbers.
use Rattle.std.proofs.Common.{◌≡◌, ◌≢◌, ℕ, ◌+◌, ◌<◌, ◌≤◌, ◌^◌, Bool, true, false, cond, not, nat_abs, ℤ, pos, ◌+ℤ◌, List, [], ◌∷◌, ◌++◌, length, take, drop, get_or, map, All, Option, Some, None, option_map, refl, sym, ap, ◌∙◌, subst, arith}
use Rattle.std.specs.Prelude.{AllPairs}
use Rattle.std.specs.List.{filter, slice_get, sum_by, cons_option}
use Rattle.std.specs.Option.{is_some, option_map_or}
use Rattle.std.specs.Ordering.{nat_cmp, int_eq}
use Rattle.std.proofs.Math.IntN.{+ℤ_assoc, +ℤ_idl, +ℤ_idr}
use Rattle.std.proofs.lemmas.List.{take_more, take_all, take-append-drop, get_or-map, length-map, map-append}
use Rattle.std.proofs.lemmas.List.Elements.{All-filter, filter-append, filter_map-append}
use Rattle.std.proofs.lemmas.List.Sums.{sum_by-cons, sum_by-append, sum_by-take-drop}
use Rattle.std.proofs.lemmas.Option.{slice_get-get_or}
use Rattle.pp_base.proofs.Sums.{triangle}
use Rattle.pp_model.specs.declared.config.Config.{Config}
use Rattle.pp_model.specs.declared.loaded.Loaded.{Loaded}
use Rattle.pp_model.specs.declared.profile.Sample.{Sample}
use Rattle.pp_model.specs.declared.profile.Profile.{Profile}
use Rattle.pp_model.specs.declared.verdicts.Verdicts.{Verdicts}
use Rattle.pp_model.specs.Finders.{Finders}
use Rattle.pp_model.specs.FrameTexts.{Written}
use Rattle.pp_model.specs.Conditions.{IsColumnOf}
use Rattle.pp_model.specs.Rules.{IsCompact}
use Rattle.pp_model.specs.Sizes.{IsCountable}
use Rattle.pp_model.specs.Values.{no_sample}
use Rattle.pp_grain.specs.declared.key.Key.{Key}
use Rattle.pp_grain.specs.Keys.{key_cmp, key_written, IsKeyOf}
use Rattle.pp_count.specs.declared.base.BaseSums.{BaseSums}
use Rattle.pp_count.specs.declared.sums.Sums.{Sums}
use Rattle.pp_count.specs.declared.tally.Tally.{Tally}
use Rattle.pp_count.specs.Base.{is_base_number, base_samples, base_report_samples, selected_all, AreBaseSums, FitBase, HasTallies}
use Rattle.pp_count.specs.Column.{selected}
use Rattle.pp_count.specs.Counts.{is_base, samples_at, filtered_samples, written_names}
use Rattle.pp_count.specs.Parts.{HasBelow}
use Rattle.pp_count.specs.Rising.{AreRisingBetween}
use Rattle.pp_count.specs.Seeing.{HoldsFilters, filtered_stack, filtered_from, seen_with, seen_samples, absolute_all}
use Rattle.pp_count.specs.Sums.{Seen, weighed, renamed, flat, cum, has, leads}
use Rattle.pp_count.specs.Table.{key_numbered, written_key}
use Rattle.pp_count.proofs.Adding.{sum_bound}
use Rattle.pp_count.proofs.CallerLemmas.{weighed-renamed}
use Rattle.pp_count.proofs.Kept.{kept_samples, values_fit}
use Rattle.pp_count.proofs.Keyed.{apart, same_map, map_twice}
use Rattle.pp_count.proofs.Renaming.{cum-renamed, flat-renamed}
use Rattle.pp_count.proofs.Totals.{at_more}
use Rattle.pp_count.proofs.Rising.{rising_below, rising_length, rising_size, samples_length}

-- the numbers that pass a test, with one more
pub filter_more : (t : ℕ → Bool) (ns chosen new : List ℕ) (i : ℕ) → i < length ns → chosen ≡ filter t (take i ns)
    → new ≡ chosen ++ cond (t (get_or ns i 0)) (get_or ns i 0 ∷ []) [] → new ≡ filter t (take (i + 1) ns)
filter_more t ns chosen new i here so_far is =
    is ∙ ap (λ (xs : List ℕ). xs ++ cond (t (get_or ns i 0)) (get_or ns i 0 ∷ []) []) so_far
    ∙ sym (ap (filter t) (take_more ns i 0 here) ∙ filter-append t (take i ns) (get_or ns i 0 ∷ []))

-- the samples of the base's numbers are the base's samples
pub base_chosen : (p : Profile) (ns : List ℕ) → samples_at p (filter (is_base_number p) ns) ≡ filter (is_base p) (samples_at p ns)
base_chosen p [] = refl
base_chosen p (n ∷ ns) =
    let rest : List Sample = samples_at p ns in
    let chosen : List ℕ = filter (is_base_number p) ns in
    elim (slice_get p.sample n) as (λ o. slice_get p.sample n ≡ o → samples_at p (cond (option_map_or (is_base p) o false) (n ∷ chosen) chosen) ≡ filter (is_base p) (cons_option o rest)) [
      | None ↦ λ is. base_chosen p ns
      | Some s ↦ λ is.
          elim (is_base p s) as (λ b. samples_at p (cond b (n ∷ chosen) chosen) ≡ cond b (s ∷ filter (is_base p) rest) (filter (is_base p) rest)) [
            | true ↦ λ i. cons_option (is i) (base_chosen p ns i)
            | false ↦ base_chosen p ns
          ]
    ] refl

-- two tests, in either order
pub filter_swap : (t u : Sample → Bool) (ss : List Sample) → filter t (filter u ss) ≡ filter u (filter t ss)
filter_swap t u [] = refl
filter_swap t u (s ∷ ss) =
    elim (t s) as (λ a. t s ≡ a → filter t (cond (u s) (s ∷ filter u ss) (filter u ss)) ≡ filter u (cond a (s ∷ filter t ss) (filter t ss))) [
      | true ↦ λ is.
          elim (u s) as (λ b. filter t (cond b (s ∷ filter u ss) (filter u ss)) ≡ cond b (s ∷ filter u (filter t ss)) (filter u (filter t ss))) [
            | true ↦ (λ i. cond (is i) (s ∷ filter t (filter u ss)) (filter t (filter u ss))) ∙ ap (λ r. s ∷ r) (filter_swap t u ss)
            | false ↦ filter_swap t u ss
          ]
      | false ↦ λ is.
          elim (u s) as (λ b. filter t (cond b (s ∷ filter u ss) (filter u ss)) ≡ filter u (filter t ss)) [
            | true ↦ (λ i. cond (is i) (s ∷ filter t (filter u ss)) (filter t (filter u ss))) ∙ filter_swap t u ss
            | false ↦ filter_swap t u ss
          ]
    ] refl

module _ (p : Profile) (f : Finders) (config : Config) (column : Option ℕ) where
  abbrev passes : Sample → Bool
  passes s = is_some (filtered_stack p f config.filtering s)

  -- of samples that the filters drop nothing is seen
  pub seen_passing : (ss : List Sample) → seen_samples p f config column (filter passes ss) ≡ seen_samples p f config column ss
  seen_passing [] = refl
  seen_passing (s ∷ ss) =
      elim (filtered_stack p f config.filtering s) as (λ o. filtered_stack p f config.filtering s ≡ o
      → seen_samples p f config column (cond (is_some o) (s ∷ filter passes ss) (filter passes ss)) ≡ cons_option (option_map (seen_with p config column s) o) (seen_samples p f config column ss)) [
        | None ↦ λ is. seen_passing ss
        | Some stack ↦ λ is. λ i. cons_option (option_map (seen_with p config column s) (is i)) (seen_passing ss i)
      ] refl

  -- of those that they leave all is seen
  pub kept_seen : (kept : List ℕ) → kept ≡ filtered_from p f config.filtering 0 p.sample → seen_samples p f config column (samples_at p kept) ≡ seen_samples p f config column p.sample
  kept_seen kept is = ap (seen_samples p f config column) (kept_samples p f config.filtering kept is) ∙ seen_passing p.sample

  -- the base's samples among those that are kept
  pub base_kept : (kept : List ℕ) → kept ≡ filtered_from p f config.filtering 0 p.sample
      → samples_at p (filter (is_base_number p) kept) ≡ filtered_samples p f config.filtering (base_samples p)
  base_kept kept is = base_chosen p kept ∙ ap (filter (is_base p)) (kept_samples p f config.filtering kept is) ∙ filter_swap (is_base p) passes p.sample

  pub base_seen : (kept : List ℕ) → kept ≡ filtered_from p f config.filtering 0 p.sample
      → seen_samples p f config column (samples_at p (filter (is_base_number p) kept)) ≡ seen_samples p f config column (base_samples p)
  base_seen kept is = ap (seen_samples p f config column) (base_kept kept is) ∙ seen_passing (base_samples p)

-- what is kept of the numbers, with one more
pub listed_more : {X : Type 0} (f : ℕ → X) (ns : List ℕ) (i : ℕ) (xs new : List X) → i < length ns → xs ≡ map f (take i ns) → new ≡ xs ++ f (get_or ns i 0) ∷ []
    → new ≡ map f (take (i + 1) ns)
listed_more f ns i xs new here so_far is =
    is ∙ ap (λ ys. ys ++ f (get_or ns i 0) ∷ []) so_far ∙ sym (ap (map f) (take_more ns i 0 here) ∙ map-append f (take i ns) (get_or ns i 0 ∷ []))

-- the sum of selected values with one more
pub selected-append : (column : Option ℕ) (d : ℕ) (a : List Sample) (s : Sample) → selected_all column d (a ++ s ∷ []) ≡ selected_all column d a +ℤ selected column d s
selected-append column d [] s = +ℤ_idr (selected column d s) ∙ sym (+ℤ_idl (selected column d s))
selected-append column d (x ∷ a) s =
    ap (λ z. selected column d x +ℤ z) (selected-append column d a s) ∙ sym (+ℤ_assoc (selected column d x) (selected_all column d a) (selected column d s))

-- it is within the sum of absolute values
pub selected_within : (column : Option ℕ) (d : ℕ) (ss : List Sample) → nat_abs (selected_all column d ss) ≤ absolute_all column d ss
selected_within column d [] = omega arith
selected_within column d (s ∷ ss) =
    omega (arith, triangle (selected column d s) (selected_all column d ss), selected_within column d ss, sum_by-cons (λ (x : Sample). nat_abs (selected column d x)) s ss)

-- samples with numbers that rise are within all samples
pub chosen_within : (p : Profile) (column : Option ℕ) (d : ℕ) (ns : List ℕ) → AreRisingBetween 0 (length p.sample) ns → absolute_all column d (samples_at p ns) ≤ absolute_all column d p.sample
chosen_within p column d ns rising =
    let size : Sample → ℕ = λ s. nat_abs (selected column d s) in
    omega (arith, rising_size size p.sample 0 ns rising, sum_by-take-drop size p.sample 0)

module _ (p : Profile) (column : Option ℕ) (d : ℕ) (ns : List ℕ) (i : ℕ) (sum value : ℤ) (here : i < length ns) (there : get_or ns i 0 < length p.sample)
    (so_far : sum ≡ selected_all column d (samples_at p (take i ns))) (value_is : value ≡ selected column d (get_or p.sample (get_or ns i 0) no_sample)) where
  abbrev next : Sample
  next = get_or p.sample (get_or ns i 0) no_sample

  samples_more : samples_at p (take (i + 1) ns) ≡ samples_at p (take i ns) ++ next ∷ []
  samples_more =
      at_more p ns i here ∙ ap (λ (o : Option Sample). samples_at p (take i ns) ++ cons_option o []) (slice_get-get_or p.sample (get_or ns i 0) no_sample there)

  -- the sum of the selected values so far, with that of the next number
  pub sum_more : (new : ℤ) → new ≡ sum +ℤ value → new ≡ selected_all column d (samples_at p (take (i + 1) ns))
  sum_more new is =
      is ∙ (λ j. so_far j +ℤ value_is j) ∙ sym (ap (selected_all column d) samples_more ∙ selected-append column d (samples_at p (take i ns)) next)

  -- it fits
  pub sum_room : AreRisingBetween 0 (length p.sample) ns → absolute_all column d p.sample < 2 ^ 63 → nat_abs sum + nat_abs value < 2 ^ 63
  sum_room rising fits =
      let size : Sample → ℕ = λ s. nat_abs (selected column d s) in
      let whole : samples_at p ns ≡ samples_at p (take (i + 1) ns) ++ samples_at p (drop (i + 1) ns) =
      ap (samples_at p) (sym (take-append-drop (i + 1) ns)) ∙ filter_map-append (slice_get p.sample) (take (i + 1) ns) (drop (i + 1) ns) in
      omega (
        arith,
        fits,
        ap nat_abs so_far,
        ap nat_abs value_is,
        selected_within column d (samples_at p (take i ns)),
        ap (sum_by size) samples_more ∙ sum_by-append size (samples_at p (take i ns)) (next ∷ []),
        sum_by-cons size next [],
        ap (sum_by size) whole ∙ sum_by-append size (samples_at p (take (i + 1) ns)) (samples_at p (drop (i + 1) ns)),
        chosen_within p column d ns rising,
      )

-- the whole sum is small
pub sum_small : (p : Profile) (column : Option ℕ) (d : ℕ) (ns : List ℕ) (i : ℕ) (sum : ℤ) → length ns ≤ i → sum ≡ selected_all column d (samples_at p (take i ns))
    → AreRisingBetween 0 (length p.sample) ns → absolute_all column d p.sample < 2 ^ 63 → nat_abs sum < 2 ^ 63
sum_small p column d ns i sum past is rising fits =
    omega (
      arith,
      fits,
      ap nat_abs (is ∙ ap (λ (xs : List ℕ). selected_all column d (samples_at p xs)) (take_all i ns past)),
      selected_within column d (samples_at p ns),
      chosen_within p column d ns rising,
    )

module _ (l : Loaded) (v : Verdicts) (config : Config) (column : Option ℕ) (compact : IsCompact l.profile) (names : List Key) (keys : All (IsKeyOf l.profile) names)
    (distinct : AllPairs (λ a b. a ≢ b) names) (chosen : List ℕ) (at : ℕ → Tally) (tallies : HasTallies l v config column names chosen at) where
  abbrev name : ℕ → Written
  name = written_key l.profile names

  abbrev S : List (Seen ℕ)
  S = weighed tallies.seen

  S_below : All (HasBelow (length names)) S
  S_below = All-filter (λ (s : Seen ℕ). not (int_eq s.value (pos 0))) (HasBelow (length names)) tallies.seen tallies.below

  module _ (f : Finders) (holds : HoldsFilters l v config.filtering f) where
    abbrev T : List (Seen Written)
    T = seen_samples l.profile f config column (samples_at l.profile chosen)

    T_is : map (renamed name) S ≡ weighed T
    T_is = sym (weighed-renamed name tallies.seen) ∙ ap weighed (tallies.are f holds)

    flat_at : (n : ℕ) → n < length names → (at n).flat ≡ flat key_cmp (weighed T) (name n)
    flat_at n here =
        (tallies.tallies n).flat ∙ sym (flat-renamed key_cmp name (length names) (apart l.profile compact names keys distinct) n S here S_below)
        ∙ ap (λ (r : List (Seen Written)). flat key_cmp r (name n)) T_is

    cum_at : (n : ℕ) → n < length names → (at n).cum ≡ cum key_cmp (weighed T) (name n)
    cum_at n here =
        (tallies.tallies n).cum ∙ sym (cum-renamed key_cmp name (length names) (apart l.profile compact names keys distinct) n S here S_below)
        ∙ ap (λ (r : List (Seen Written)). cum key_cmp r (name n)) T_is

  module _ (sums : Sums) (numbers : List ℕ) (named : sums.names ≡ map (key_numbered names) numbers) (numbered : All (λ n. n < length names) numbers) (base : BaseSums)
      (flats_are : base.flat ≡ map (λ n. (at n).flat) numbers) (cums_are : base.cum ≡ map (λ n. (at n).cum) numbers) where
    written_are : written_names l.profile sums ≡ map name numbers
    written_are = ap (map (key_written l.profile)) named ∙ map_twice (key_written l.profile) (key_numbered names) numbers

    -- the sums of the tallies are those of the base's samples
    pub base_sums_are : (f : Finders) (kept : List ℕ) → HoldsFilters l v config.filtering f → kept ≡ filtered_from l.profile f config.filtering 0 l.profile.sample
        → chosen ≡ filter (is_base_number l.profile) kept → base.whole ≡ selected_all column config.presentation.divide_by (samples_at l.profile chosen)
        → AreBaseSums l.profile f config column sums base
    base_sums_are f kept holds kept_is chosen_is whole_is =
        let seen_is : weighed (T f holds) ≡ base_report_samples l.profile f config column =
        ap (λ (ns : List ℕ). weighed (seen_samples l.profile f config column (samples_at l.profile ns))) chosen_is ∙ ap weighed (base_seen l.profile f config column kept kept_is) in
        record {
          flat = flats_are
              ∙ same_map (λ n. (at n).flat) (λ n. flat key_cmp (weighed (T f holds)) (name n)) numbers (λ i d here. flat_at f holds (get_or numbers i d) (numbered i d here))
              ∙ sym (map_twice (flat key_cmp (weighed (T f holds))) name numbers) ∙ (λ i. map (flat key_cmp (seen_is i)) (sym written_are i));
          cum = cums_are
              ∙ same_map (λ n. (at n).cum) (λ n. cum key_cmp (weighed (T f holds)) (name n)) numbers (λ i d here. cum_at f holds (get_or numbers i d) (numbered i d here))
              ∙ sym (map_twice (cum key_cmp (weighed (T f holds))) name numbers) ∙ (λ i. map (cum key_cmp (seen_is i)) (sym written_are i));
          whole = whole_is ∙ ap (λ (ns : List ℕ). selected_all column config.presentation.divide_by (samples_at l.profile ns)) chosen_is
              ∙ ap (selected_all column config.presentation.divide_by) (base_kept l.profile f config column kept kept_is);
        }

    small_map : (g : ℕ → ℤ) (xs : List ℤ) → xs ≡ map g numbers → ((n : ℕ) → nat_abs (g n) < 2 ^ 63) → All (λ x. nat_abs x < 2 ^ 63) xs
    small_map g xs are small = subst (λ (ys : List ℤ). All (λ x. nat_abs x < 2 ^ 63) ys) (sym are) (λ i d here.
        subst (λ (x : ℤ). nat_abs x < 2 ^ 63) (sym (get_or-map g numbers i 0 d (omega (arith, here, length-map numbers g)))) (small (get_or numbers i 0)))

    -- each sum has a negative
    pub base_fits : AreRisingBetween 0 (length l.profile.sample) chosen → absolute_all column config.presentation.divide_by l.profile.sample < 2 ^ 63 → nat_abs base.whole < 2 ^ 63
        → FitBase sums.names base
    base_fits rising fits small =
        let within = chosen_within l.profile column config.presentation.divide_by chosen rising in
        record {
          flats = ap length flats_are ∙ length-map numbers (λ n. (at n).flat) ∙ sym (ap length named ∙ length-map numbers (key_numbered names));
          cums = ap length cums_are ∙ length-map numbers (λ n. (at n).cum) ∙ sym (ap length named ∙ length-map numbers (key_numbered names));
          small_flats = small_map (λ n. (at n).flat) base.flat flats_are (λ n. omega (arith, fits, within, tallies.within, ap nat_abs (tallies.tallies n).flat, sum_bound (leads nat_cmp n) tallies.seen));
          small_cums = small_map (λ n. (at n).cum) base.cum cums_are (λ n. omega (arith, fits, within, tallies.within, ap nat_abs (tallies.tallies n).cum, sum_bound (has nat_cmp n) tallies.seen));
          small_whole = small;
        }

-- where keys are counted, the keys of a sample are what is counted of it
pub plain_all : (ss : List (Seen ℕ)) → map (λ (s : Seen ℕ). record { value = s.value; keys = s.keys }) ss ≡ ss
plain_all [] = refl
plain_all (s ∷ ss) = ap (λ (r : List (Seen ℕ)). s ∷ r) (plain_all ss)

-- the values of chosen samples can be added up
pub chosen_fits : (p : Profile) (column : Option ℕ) (d : ℕ) (ns : List ℕ) → IsCountable p → IsColumnOf p column → AreRisingBetween 0 (length p.sample) ns
    → absolute_all column d (samples_at p ns) < 2 ^ 63
chosen_fits p column d ns countable is rising = omega (arith, values_fit p column d countable is, chosen_within p column d ns rising)

pub chosen_few : (p : Profile) (ns : List ℕ) → IsCountable p → AreRisingBetween 0 (length p.sample) ns → length (samples_at p ns) < 2 ^ 32
chosen_few p ns countable rising =
    omega (arith, countable.samples, samples_length p ns (rising_below 0 (length p.sample) ns rising), rising_length 0 (length p.sample) ns (omega arith) rising)
