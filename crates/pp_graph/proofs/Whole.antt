-- A ranking by no fraction of the total has all keys.
use Rattle.std.proofs.Common.{◌≡◌, ℕ, ◌*◌, Bool, true, cond, nat_abs, ℤ, List, [], ◌∷◌, map, Option, Result, Ok, Err, IfOk, refl, sym, ap, ◌∙◌, arith}
use Rattle.std.specs.List.{filter}
use Rattle.std.proofs.lemmas.Bool.{le-leb}
use Rattle.pp_base.specs.declared.fraction.Fraction.{Fraction}
use Rattle.pp_model.specs.declared.config.Config.{Config}
use Rattle.pp_model.specs.declared.loaded.Loaded.{Loaded}
use Rattle.pp_model.specs.declared.verdicts.Verdicts.{Verdicts}
use Rattle.pp_model.specs.Finders.{Finders}
use Rattle.pp_model.specs.FrameTexts.{Written}
use Rattle.pp_grain.specs.Keys.{key_cmp}
use Rattle.pp_count.specs.declared.counted.Counted.{Counted}
use Rattle.pp_count.specs.Counted.{IsCountedOf, report_samples}
use Rattle.pp_count.specs.Counts.{total_of}
use Rattle.pp_count.specs.Ranks.{each_once, is_heavy}
use Rattle.pp_count.specs.Seeing.{HoldsFilters}
use Rattle.pp_count.specs.Sums.{Seen, cum, flat, all_keys}
use Rattle.pp_graph.specs.declared.ranking.Ranked.{Ranked}
use Rattle.pp_graph.specs.Sampled.{is_heavy_cum, report_order}
use Rattle.pp_graph.specs.Trim.{report_keys, first_report_keys, shown_keys}
use Rattle.pp_graph.specs.Trimmed.{int_sum, IsRankedOf, IsWholeRanking}

filter-everything : {X : Type 0} (t : X → Bool) → ((x : X) → t x ≡ true) → (xs : List X) → filter t xs ≡ xs
filter-everything t all [] = refl
filter-everything t all (x ∷ xs) = (λ i. cond (all x i) (x ∷ filter t xs) (filter t xs)) ∙ ap (λ r. x ∷ r) (filter-everything t all xs)

-- every sum is at least nothing of the total
pub light-none : (total : ℕ) (sum : ℤ) → is_heavy total 0 sum ≡ true
light-none total sum = le-leb (total * 0) (nat_abs sum * 1000000000) (omega arith)

module _ (l : Loaded) (v : Verdicts) (config : Config) (column : Option ℕ) (c : Counted) (none : Fraction) (is_none : none.billionths ≡ 0) where
  -- the variables, where no fraction of the total is asked of a key
  abbrev pub free : Config
  free = record config { presentation = record config.presentation { nodefraction = none } }

  there : (f : Finders) → HoldsFilters l v config.filtering f → HoldsFilters l v free.filtering f
  there f holds = record { found = holds.found; tagfocus = holds.tagfocus; tagignore = holds.tagignore }

  back : (f : Finders) → HoldsFilters l v free.filtering f → HoldsFilters l v config.filtering f
  back f holds = record { found = holds.found; tagfocus = holds.tagfocus; tagignore = holds.tagignore }

  -- the count does not depend on the fraction
  pub counted_free : IsCountedOf l v config column c → IsCountedOf l v free column c
  counted_free is = record {
    kept = λ f holds. is.kept f (back f holds);
    sums_are = λ f holds. is.sums_are f (back f holds);
    matches = λ f holds. is.matches f (back f holds);
    total_is = λ f holds. is.total_is f (back f holds);
    fits = is.fits;
    of_profile = is.of_profile;
    rising = is.rising;
    table = is.table;
    filters = record {
      focus = is.filters.focus;
      ignore = is.filters.ignore;
      focus_tags = is.filters.focus_tags;
      ignore_tags = is.filters.ignore_tags;
      tables = is.filters.tables;
      reach = is.filters.reach;
    };
    names = is.names;
    numbered = is.numbered;
  }

  keys_free : (limit : ℕ) (f : Finders) → report_keys l.profile f free column limit ≡ first_report_keys l.profile f config column limit
  keys_free limit f =
      let samples : List (Seen Written) = report_samples l.profile f config column in
      let total : ℕ = total_of l.profile f config column in
      ap (λ ks. shown_keys limit (each_once (report_order key_cmp config.presentation.sort samples) ks))
      (filter-everything (is_heavy_cum key_cmp total none.billionths samples)
      (λ k. ap (λ n. is_heavy total n (cum key_cmp samples k)) is_none ∙ light-none total (cum key_cmp samples k)) (each_once key_cmp (all_keys samples)))

  pub ranked_free : (limit : ℕ) (t : Ranked) → IsRankedOf l v free column limit c t → IsWholeRanking l v config column limit c t
  ranked_free limit t is = record {
    below = is.below;
    once = is.once;
    small = is.small;
    keys = λ f holds. is.keys f (there f holds) ∙ keys_free limit f;
    shown_flat = λ f holds.
        is.shown_flat f (there f holds)
        ∙ ap (λ ks. int_sum (map (flat key_cmp (report_samples l.profile f config column)) ks)) (keys_free limit f);
  }

-- what an outcome is, in other words
pub ok_as : {T E : Type 0} (r : Result T E) (P Q : T → Type 0) → ((x : T) → P x → Q x) → IfOk r P → IfOk r Q
ok_as (Err e) P Q implies h = tt
ok_as (Ok x) P Q implies h = implies x h
