-- The lines of what was added up are those of the report's rows.
use Rattle.std.proofs.Common.{◌≡◌, ℕ, Bool, true, false, cond, List, [], ◌∷◌, ◌++◌, refl, sym, ap, ◌∙◌, append_assoc, codes}
use Rattle.std.specs.Prelude.{Option}
use Rattle.std.specs.List.{flat_map}
use Rattle.std.proofs.lemmas.Grind.{flat_map-append}
use Rattle.std.proofs.lemmas.List.{append-nil}
use Rattle.pp_model.specs.declared.config.Config.{Config}
use Rattle.pp_model.specs.declared.profile.Profile.{Profile}
use Rattle.pp_model.specs.declared.verdicts.Slot.{Slot}
use Rattle.pp_model.specs.declared.verdicts.Slot.TheVariants as slots
use Rattle.pp_model.specs.Finders.{Finders}
use Rattle.pp_units.specs.Head.{Facts, facts_text}
use Rattle.pp_account.specs.declared.nodes.NodePortions.{NodePortions}
use Rattle.pp_account.specs.Account.{AccountRow, account_heading, account_line, account_text, bare_row, dropping, filter_row, filter_name, node_rows, sample_rows}
use Rattle.pp_account.specs.First.{is_in_force}
use Rattle.pp_graph.specs.Trim.{all_report_keys, report_keys}
use Rattle.pp_account.specs.Nodes.{keys_portion, light_keys, keys_beyond}
use Rattle.pp_account.specs.Lines.{account_lines, filter_line, node_portion_lines, sample_portion_lines, portion_line, AreNodesOf}
use Rattle.pp_account.specs.Portions.{portion_of, portions_of, dropped_samples}

-- a row that is there or not, before others
one_line : (h : Facts) (does : Bool) (row : AccountRow) (rest : List AccountRow) (lines : List ℕ) → flat_map (account_line h) rest ≡ lines
    → flat_map (account_line h) (cond does (row ∷ []) [] ++ rest) ≡ cond does (account_line h row) [] ++ lines
one_line h true row rest lines is = ap (λ r. account_line h row ++ r) is
one_line h false row rest lines is = is

module _ (p : Profile) (f : Finders) (config : Config) (column : Option ℕ) (h : Facts) where
  abbrev row_at : Slot → AccountRow
  row_at slot = record { portion = portion_of config.presentation column (dropped_samples p f config.filtering slot p.sample); name = filter_name config.filtering slot }

  next : (slot : Slot) (rest : List AccountRow) (lines : List ℕ) → flat_map (account_line h) rest ≡ lines
      → flat_map (account_line h) (filter_row p f config column slot ++ rest) ≡ cond (is_in_force f config.filtering slot) (account_line h (row_at slot)) [] ++ lines
  next slot rest lines is = one_line h (is_in_force f config.filtering slot) (row_at slot) rest lines is

  pub filter_lines_are : flat_map (filter_line f config.filtering (portions_of p f config column p.sample) h) dropping ≡ flat_map (account_line h) (flat_map (filter_row p f config column) dropping)
  filter_lines_are = sym
      (next slots.Ignore _ _ (next slots.Focus _ _ (next slots.Hide _ _ (next slots.Show _ _ (next slots.ShowFrom _ _ (next slots.TagFocus _ _ (next slots.TagIgnore [] [] refl)))))))

  pub sample_lines_are : sample_portion_lines f config.filtering (portions_of p f config column p.sample) h ≡ flat_map (account_line h) (sample_rows p f config column)
  sample_lines_are =
      let d = portions_of p f config column p.sample in
      let first : AccountRow = record { portion = d.loaded; name = codes "loaded" } in
      let last : AccountRow = record { portion = d.left; name = codes "left" } in
      let rows : List AccountRow = flat_map (filter_row p f config column) dropping in
      (λ i. ((portion_line h d.loaded (codes "loaded") ++ filter_lines_are i) ++ portion_line h d.left (codes "left")) ++ flat_map (account_line h) (bare_row d.bare))
      ∙ append_assoc (account_line h first ++ flat_map (account_line h) rows) (account_line h last) (flat_map (account_line h) (bare_row d.bare))
      ∙ sym (flat_map-append (account_line h) (first ∷ rows) (last ∷ bare_row d.bare))

  pub node_lines_are : (limit : ℕ) (n : NodePortions) → AreNodesOf p f config column limit n → node_portion_lines n h ≡ flat_map (account_line h) (node_rows p f config column limit)
  node_lines_are limit n are =
      ap (λ m. node_portion_lines m h) are
      ∙ four (portion_line h (keys_portion p f config column (all_report_keys p f config column)) (codes "counted"))
      (portion_line h (keys_portion p f config column (light_keys p f config column)) (codes "below nodefraction"))
      (portion_line h (keys_portion p f config column (keys_beyond p f config column limit)) (codes "beyond nodecount"))
      (portion_line h (keys_portion p f config column (report_keys p f config column limit)) (codes "shown")) where
        four : (a b c d : List ℕ) → ((a ++ b) ++ c) ++ d ≡ a ++ (b ++ (c ++ (d ++ [])))
        four a b c d = simp (append_assoc, append-nil)

  pub text_is : (limit : ℕ) (n : NodePortions) → AreNodesOf p f config column limit n
      → account_lines f config.filtering (portions_of p f config column p.sample) n h ≡ account_text p f config column limit h
  text_is limit n are = λ i.
      facts_text h ++ account_heading (codes "samples") ++ sample_lines_are i ++ account_heading (codes "nodes") ++ node_lines_are limit n are i
