-- The rows of names are those of their keys.
use Rattle.std.proofs.Common.{◌≡◌, ℕ, ◌<◌, ◌^◌, ℤ, pos, List, [], ◌∷◌, ◌++◌, length, map, get_or, All, Option, refl, ap, ◌∙◌, arith}
use Rattle.std.specs.List.{flat_map}
use Rattle.std.proofs.lemmas.List.{get_or-map, length-map}
use Rattle.std.proofs.lemmas.List.Elements.{All-head, All-tail}
use Rattle.std.proofs.Math.ListN as math
use Rattle.pp_model.specs.declared.config.Config.{Config}
use Rattle.pp_model.specs.declared.presentation.Sort.{Sort}
use Rattle.pp_model.specs.declared.presentation.Sort.TheVariants as sorts
use Rattle.pp_model.specs.declared.profile.Profile.{Profile}
use Rattle.pp_model.specs.Finders.{Finders}
use Rattle.pp_model.specs.FrameTexts.{Written}
use Rattle.pp_grain.specs.declared.key.Key.{Key}
use Rattle.pp_grain.specs.Keys.{key_cmp, key_written}
use Rattle.pp_grain.specs.Naming.{name_text}
use Rattle.pp_count.specs.declared.sums.Sums.{Sums}
use Rattle.pp_count.specs.Counted.{report_samples}
use Rattle.pp_count.specs.Counts.{AreSumsOf}
use Rattle.pp_count.specs.Seeing.{absolute_all}
use Rattle.pp_count.specs.Sums.{Seen, flat, cum, has, leads}
use Rattle.pp_count.specs.Table.{no_key, written_key}
use Rattle.pp_count.specs.Base.{base_report_samples, AreBaseSums}
use Rattle.pp_count.specs.declared.base.BaseSums.{BaseSums}
use Rattle.pp_graph.specs.Ranks.{sum_of_name}
use Rattle.pp_top.specs.Compare.{ComparedRow, difference_of, figure, compared_row}
use Rattle.pp_top.specs.ComparedRows.{wrapped, figures_at, compared_at}
use Rattle.pp_top.proofs.Fitting.{figures_differ}

-- a sum at a name's place
at_name : (g : Written → ℤ) (p : Profile) (names : List Key) (sums : List ℤ) (n : ℕ) → n < length names → sums ≡ map g (map (key_written p) names)
    → sum_of_name sums n ≡ g (written_key p names n)
at_name g p names sums n within are =
    ap (λ xs. get_or xs n (pos 0)) are
    ∙ get_or-map g (map (key_written p) names) n (key_written p no_key) (pos 0) (omega (arith, within, length-map names (key_written p)))
    ∙ ap g (math.get_or-map (key_written p) names n no_key)

module _ (p : Profile) (f : Finders) (config : Config) (column : Option ℕ) (small : absolute_all column config.presentation.divide_by p.sample < 2 ^ 63)
    (sums : Sums) (base : BaseSums) (are : AreSumsOf p (report_samples p f config column) sums) (base_are : AreBaseSums p f config column sums base) where
  abbrev all_samples : List (Seen Written)
  all_samples = report_samples p f config column

  abbrev base_ones : List (Seen Written)
  base_ones = base_report_samples p f config column

  figures_are : (sort : Sort) (n : ℕ) → n < length sums.names
      → figures_at sort sums base n ≡ difference_of (figure sort base_ones (written_key p sums.names n)) (figure sort all_samples (written_key p sums.names n))
  figures_are sorts.Flat n within =
      (λ i. wrapped (at_name (flat key_cmp base_ones) p sums.names base.flat n within base_are.flat i) (at_name (flat key_cmp all_samples) p sums.names sums.flat n within are.flat i))
      ∙ figures_differ p f config column small (leads key_cmp (written_key p sums.names n))
  figures_are sorts.Cum n within =
      (λ i. wrapped (at_name (cum key_cmp base_ones) p sums.names base.cum n within base_are.cum i) (at_name (cum key_cmp all_samples) p sums.names sums.cum n within are.cum i))
      ∙ figures_differ p f config column small (has key_cmp (written_key p sums.names n))

  -- the lines of names are those of their keys
  pub rows_are : (line : ComparedRow → List ℕ) (order : List ℕ) → All (λ n. n < length sums.names) order
      → flat_map (λ n. line (compared_at p config.presentation.sort sums base n)) order
      ≡ flat_map (λ k. line (compared_row p f config column k)) (map (written_key p sums.names) order)
  rows_are line [] below = refl
  rows_are line (n ∷ order) below = λ i.
      line (record {
        figures = figures_are config.presentation.sort n (All-head (λ m. m < length sums.names) n order below) i;
        name = name_text (written_key p sums.names n);
      })
      ++ rows_are line order (All-tail (λ m. m < length sums.names) n order below) i
