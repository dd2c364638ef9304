-- The figures of a report: all that the layouts of top, tree, peek and table read of a profile.
use Rattle.std.specs.Prelude.{ℕ, ℤ, ◌&&◌, Bool, List, Option}
use Rattle.std.specs.List.{list_any}
use Rattle.std.specs.Ordering.{eq_by_cmp}
use Rattle.pp_model.specs.declared.config.Config.{Config}
use Rattle.pp_model.specs.declared.profile.Profile.{Profile}
use Rattle.pp_model.specs.declared.grouping.Grouping.{Grouping}
use Rattle.pp_model.specs.Finders.{Finders}
use Rattle.pp_model.specs.FrameTexts.{Written}
use Rattle.pp_grain.specs.Keys.{key_cmp, key_texts}
use Rattle.pp_count.specs.Sums.{Seen, all_keys, flat, cum}
use Rattle.pp_count.specs.EdgeSums.{edge_occurs, edge_sum}
use Rattle.pp_count.specs.Counts.{total_of}
use Rattle.pp_count.specs.Counted.{report_samples, report_frames}
use Rattle.pp_count.specs.Ranks.{each_once}

-- What a report says of a profile in numbers.
pub record Figures : Type 0 where
  -- what percentages are taken of
  pub total : ℕ
  -- the keys that occur, each once, in their order
  pub keys : List Written
  -- whether a test holds of the function text of some frame that counts and has the key
  pub finds : (List ℕ → Bool) → Written → Bool
  -- the sums of a key: over the samples whose leaf has it, and over all that have it
  pub flat_of : Written → ℤ
  pub cum_of : Written → ℤ
  -- over the keys that a test keeps, whether a pair of a caller and a callee occurs, and its sum
  pub occurs_pair : (Written → Bool) → Written → Written → Bool
  pub sum_of_pair : (Written → Bool) → Written → Written → ℤ

-- the frame's function text passes the test, and the key is the frame's
abbrev pub is_found_frame : Grouping → (List ℕ → Bool) → Written → Written → Bool
is_found_frame grouping test k w =
    test w.function && eq_by_cmp key_cmp k (key_texts grouping.grain grouping.showcolumns w)

-- The figures of a report on the profile, by what its patterns find.
abbrev pub figures : Profile → Finders → Config → Option ℕ → Figures
figures p f config column =
    let samples : List (Seen Written) = report_samples p f config column in
    record {
      total = total_of p f config column;
      keys = each_once key_cmp (all_keys samples);
      finds = λ test k.
          list_any (λ s. list_any (is_found_frame config.grouping test k) s.keys)
          (report_frames p f config column);
      flat_of = flat key_cmp samples;
      cum_of = cum key_cmp samples;
      occurs_pair = λ kept. edge_occurs key_cmp kept samples;
      sum_of_pair = λ kept. edge_sum key_cmp kept samples;
    }
