-- Keys of what is left of a frame.
use Rattle.std.proofs.Common.{◌≡◌, Bool, true, false, cond, not, ◌&&◌, ◌||◌, ℤ, [], refl, ap, ◌∙◌}
use Rattle.std.proofs.lemmas.Bool.{and_parts}
use Rattle.pp_model.specs.declared.grouping.Grain.{Grain}
use Rattle.pp_model.specs.declared.grouping.Grain.TheVariants.{Functions, FileFunctions, Files, Lines, Addresses}
use Rattle.pp_model.specs.FrameTexts.{Written}
use Rattle.pp_grain.specs.Keys.{kept_by, key_texts, with_object, column_if}
use Rattle.pp_aggregate.specs.declared.aggregating.Kept.{Kept}
use Rattle.pp_aggregate.specs.Aggregated.{number_if}
use Rattle.pp_aggregate.specs.Left.{left_of_frame, keeps_lines, keeps_keys}

-- a column that is shown is kept
column_left : (showcolumns is_kept : Bool) (column : ℤ) → (not showcolumns || is_kept) ≡ true
    → column_if showcolumns (number_if is_kept column) ≡ column_if showcolumns column
column_left true is_kept column shown = ap (λ b. number_if b column) shown
column_left false is_kept column shown = refl

-- what keys of lines look at is kept
record KeepsLines (keep : Kept) (showcolumns : Bool) : Type 0 where
  functions : keep.functions ≡ true
  filenames : keep.filenames ≡ true
  lines : keep.lines ≡ true
  column : (column : ℤ) → column_if showcolumns (number_if (keep.lines && keep.columns) column) ≡ column_if showcolumns column

by_parts : (keep : Kept) (showcolumns : Bool) → keeps_lines keep showcolumns ≡ true → KeepsLines keep showcolumns
by_parts keep showcolumns all =
    let (functions, others) = and_parts _ _ all in
    let (filenames, numbers) = and_parts _ _ others in
    let (lines, columns) = and_parts _ _ numbers in
    record {
      functions = functions;
      filenames = filenames;
      lines = lines;
      column = λ column. column_left showcolumns (keep.lines && keep.columns) column ((λ i. not showcolumns || (lines i && keep.columns)) ∙ columns);
    }

-- what the grain keeps of a frame it keeps of what is left of it
kept_left : (keep : Kept) (grain : Grain) (showcolumns : Bool) (w : Written) → keeps_keys keep grain showcolumns ≡ true
    → kept_by grain showcolumns (left_of_frame keep w) ≡ kept_by grain showcolumns w
kept_left keep Functions showcolumns w all = λ i. record (kept_by Functions showcolumns w) { function = cond (all i) w.function [] }
kept_left keep FileFunctions showcolumns w all =
    let (functions, filenames) = and_parts _ _ all in
    λ i. record (kept_by FileFunctions showcolumns w) { function = cond (functions i) w.function []; file = cond (filenames i) w.file [] }
kept_left keep Files showcolumns w all = λ i. record (kept_by Files showcolumns w) { file = cond (all i) w.file [] }
kept_left keep Lines showcolumns w all =
    let keeps = by_parts keep showcolumns all in
    λ i. record (kept_by Lines showcolumns w) {
      function = cond (keeps.functions i) w.function [];
      file = cond (keeps.filenames i) w.file [];
      line = number_if (keeps.lines i) w.line;
      column = keeps.column w.column i;
    }
kept_left keep Addresses showcolumns w all =
    let (lines, addresses) = and_parts _ _ all in
    let keeps = by_parts keep showcolumns lines in
    λ i. record (kept_by Addresses showcolumns w) {
      function = cond (keeps.functions i) w.function [];
      file = cond (keeps.filenames i) w.file [];
      line = number_if (keeps.lines i) w.line;
      column = keeps.column w.column i;
      address = cond (addresses i) w.address 0;
    }

-- A key that looks at nothing that is dropped is the same of what is left.
pub key_left : (keep : Kept) (grain : Grain) (showcolumns : Bool) (w : Written) → keeps_keys keep grain showcolumns ≡ true
    → key_texts grain showcolumns (left_of_frame keep w) ≡ key_texts grain showcolumns w
key_left keep grain showcolumns w all = ap (λ key. with_object key w.object) (kept_left keep grain showcolumns w all)
