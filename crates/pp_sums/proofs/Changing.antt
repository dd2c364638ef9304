-- The changes of flats, and the values of samples without a frame that counts, are the change of all.
use Rattle.std.proofs.Common.{◌≡◌, ℕ, Bool, true, false, cond, not, ℤ, pos, ◌+ℤ◌, List, [], ◌∷◌, ◌++◌, map, Option, Some, None, option_map, refl, sym, ap, ◌∙◌, arith}
use Rattle.std.specs.List.{cons_option, flat_map}
use Rattle.std.specs.Option.{is_some}
use Rattle.std.proofs.lemmas.Int.{ints}
use Rattle.pp_model.specs.declared.config.Config.{Config}
use Rattle.pp_model.specs.declared.presentation.Sort.{Sort}
use Rattle.pp_model.specs.declared.frame.Frame.{Frame}
use Rattle.pp_model.specs.declared.profile.Profile.{Profile}
use Rattle.pp_model.specs.declared.profile.Sample.{Sample}
use Rattle.pp_model.specs.Finders.{Finders}
use Rattle.pp_model.specs.FrameTexts.{Written}
use Rattle.pp_count.specs.Base.{selected_all}
use Rattle.pp_count.specs.Column.{selected}
use Rattle.pp_count.specs.Counted.{report_samples}
use Rattle.pp_count.specs.Counts.{filtered_samples}
use Rattle.pp_count.specs.Seeing.{filtered_stack, seen_with, seen_samples}
use Rattle.pp_count.specs.Sums.{Seen, sum_where}
use Rattle.pp_graph.specs.Trim.{all_report_keys}
use Rattle.pp_graph.specs.Trimmed.{int_sum}
use Rattle.pp_top.specs.Changes.{change_line, changes_heading}
use Rattle.pp_top.specs.Compare.{ComparedRow, compared_row, figure}
use Rattle.pp_laws.specs.Figures.{has_frames}
use Rattle.pp_laws.proofs.AddingUp.{all_counted}
use Rattle.pp_sums.specs.Changes.{ChangesAccount, ChangesAddUp, changed_rows, lacks_frames}

module _ (t : List Written → Bool) (p : Profile) (f : Finders) (config : Config) (column : Option ℕ) where
  abbrev none_of : List Written → Bool
  none_of keys = not (t keys)

  abbrev all_of : List Sample → List (Seen Written)
  all_of ss = seen_samples p f config column ss

  abbrev whole_of : List Sample → ℤ
  whole_of ss = selected_all column config.presentation.divide_by (filtered_samples p f config.filtering ss)

  -- samples that pass, and those that do not, are all that the filters leave
  parted : (ss : List Sample) → sum_where t (all_of ss) +ℤ sum_where none_of (all_of ss) ≡ whole_of ss
  parted [] = omega (arith, ints)
  parted (s ∷ ss) =
      let rest : sum_where t (all_of ss) +ℤ sum_where none_of (all_of ss) ≡ whole_of ss = parted ss in
      elim (filtered_stack p f config.filtering s) as (λ (o : Option (List Frame)).
      sum_where t (cons_option (option_map (seen_with p config column s) o) (all_of ss)) +ℤ sum_where none_of (cons_option (option_map (seen_with p config column s) o) (all_of ss))
      ≡ selected_all column config.presentation.divide_by (cond (is_some o) (s ∷ filtered_samples p f config.filtering ss) (filtered_samples p f config.filtering ss))) [
        | None ↦ rest
        | Some stack ↦ elim (t (seen_with p config column s stack).keys) as (λ b.
            (cond b (selected column config.presentation.divide_by s) (pos 0) +ℤ sum_where t (all_of ss)) +ℤ (cond (not b) (selected column config.presentation.divide_by s) (pos 0) +ℤ sum_where none_of (all_of ss))
            ≡ selected column config.presentation.divide_by s +ℤ whole_of ss) [
              | true ↦ omega (arith, ints, rest)
              | false ↦ omega (arith, ints, rest)
            ]
      ]

module _ (p : Profile) (f : Finders) (config : Config) (column : Option ℕ) where
  -- the lines of rows are those of their keys
  lines_of : (keys : List Written) → flat_map (λ k. change_line (compared_row p f config column k)) keys ≡ flat_map change_line (map (compared_row p f config column) keys)
  lines_of [] = refl
  lines_of (k ∷ keys) = ap (λ rest. change_line (compared_row p f config column k) ++ rest) (lines_of keys)

  -- what is summed of rows is summed of their keys
  changes_of : (keys : List Written) → int_sum (map (λ (row : ComparedRow). row.figures.change) (map (compared_row p f config column) keys)) ≡ int_sum (map (figure config.presentation.sort (report_samples p f config column)) keys)
  changes_of [] = refl
  changes_of (k ∷ keys) = ap (λ rest. figure config.presentation.sort (report_samples p f config column) k +ℤ rest) (changes_of keys)

pub changes_account : ChangesAddUp
changes_account p f config column =
    let keys : List Written = all_report_keys p f config column in
    record {
      text = λ unit. ap (λ lines. changes_heading unit ++ lines) (lines_of p f config column keys);
      changes = λ flat.
          ap (λ z. z +ℤ sum_where lacks_frames (seen_samples p f config column p.sample))
          (changes_of p f config column keys ∙ ap (λ (s : Sort). int_sum (map (figure s (report_samples p f config column)) keys)) flat ∙ all_counted p f config column)
          ∙ parted has_frames p f config column p.sample;
    }
