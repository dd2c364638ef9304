-- The text of the account report: what each filter drops, what they leave, and what the limits leave out.
use Rattle.std.specs.Prelude.{ℕ, ◌==◌, List, [], ◌∷◌, ◌++◌, length, codes, decimal, Option, if◌then◌else◌}
use Rattle.std.specs.List.{flat_map}
use Rattle.pp_model.specs.declared.config.Config.{Config}
use Rattle.pp_model.specs.declared.profile.Profile.{Profile}
use Rattle.pp_model.specs.declared.verdicts.Slot.{Slot}
use Rattle.pp_model.specs.declared.verdicts.Slot.TheVariants as slots
use Rattle.pp_model.specs.declared.filtering.Filtering.{Filtering}
use Rattle.pp_model.specs.Finders.{Finders}
use Rattle.pp_model.specs.ReportFacts.{variable_name}
use Rattle.pp_units.specs.Head.{Facts, facts_text}
use Rattle.pp_units.specs.Numbers.{right_text}
use Rattle.pp_units.specs.Rows.{pair_text, name_end}
use Rattle.pp_count.specs.Counts.{filtered_samples}
use Rattle.pp_graph.specs.Trim.{all_report_keys, report_keys}
use Rattle.pp_account.specs.declared.portion.Portion.{Portion}
use Rattle.pp_account.specs.First.{is_in_force}
use Rattle.pp_account.specs.Nodes.{keys_portion, light_keys, keys_beyond}
use Rattle.pp_account.specs.Portions.{portion_of, dropped_samples, bare_samples}

-- What a row says: how many samples or keys there are, what their values come to, and which these are.
pub record AccountRow : Type 0 where
  pub portion : Portion
  pub name : List ℕ

-- the filters that can drop a sample, in the order in which they are accounted for
abbrev pub dropping : List Slot
dropping =
    slots.Ignore ∷ slots.Focus ∷ slots.Hide ∷ slots.Show ∷ slots.ShowFrom ∷ slots.TagFocus
    ∷ slots.TagIgnore ∷ []

-- the value of the filter's variable as it stands
abbrev pub filter_text : Filtering → Slot → List ℕ
filter_text filtering slots.Ignore = filtering.ignore
filter_text filtering slots.Focus = filtering.focus
filter_text filtering slots.Hide = filtering.hide
filter_text filtering slots.Show = filtering.show
filter_text filtering slots.ShowFrom = filtering.show_from
filter_text filtering slots.TagFocus = filtering.tagfocus
filter_text filtering slots.TagIgnore = filtering.tagignore
filter_text filtering _ = []

-- the name of a filter's row: its variable and the value of that
abbrev pub filter_name : Filtering → Slot → List ℕ
filter_name filtering slot = variable_name slot ++ codes "=" ++ filter_text filtering slot

-- the row of the samples that a filter in force is the first to drop
abbrev pub filter_row : Profile → Finders → Config → Option ℕ → Slot → List AccountRow
filter_row p f config column slot =
    if is_in_force f config.filtering slot
    then record {
      portion =
          portion_of config.presentation column (dropped_samples p f config.filtering slot p.sample);
      name = filter_name config.filtering slot;
    } ∷ []
    else []

-- the row of the samples that are left without a frame, where there are any
abbrev pub bare_row : Portion → List AccountRow
bare_row portion =
    if portion.count == 0 then [] else record { portion = portion; name = codes "left without a frame" } ∷ []

-- The rows of samples: of all, of those that each filter in force is the first to drop, and of those that the filters
-- leave. The last row is of those that are left without a frame.
abbrev pub sample_rows : Profile → Finders → Config → Option ℕ → List AccountRow
sample_rows p f config column =
    record { portion = portion_of config.presentation column p.sample; name = codes "loaded" }
    ∷ flat_map (filter_row p f config column) dropping
    ++ record {
      portion =
          portion_of config.presentation column (filtered_samples p f config.filtering p.sample);
      name = codes "left";
    } ∷ bare_row (portion_of config.presentation column (bare_samples p f config column p.sample))

-- The rows of keys under this limit, where 0 is none: those that occur, those that are too light, those that the limit
-- leaves out, and those that are shown.
abbrev pub node_rows : Profile → Finders → Config → Option ℕ → ℕ → List AccountRow
node_rows p f config column limit =
    let portion = keys_portion p f config column in
    record { portion = portion (all_report_keys p f config column); name = codes "counted" }
    ∷ record { portion = portion (light_keys p f config column); name = codes "below nodefraction" }
    ∷ record { portion = portion (keys_beyond p f config column limit); name = codes "beyond nodecount" }
    ∷ record { portion = portion (report_keys p f config column limit); name = codes "shown" } ∷ []

-- the heading above rows of samples, or of nodes
abbrev pub account_heading : List ℕ → List ℕ
account_heading counted =
    right_text 10 counted ++ codes "      value   value%  account\n"

-- A row's line: the count, the value and its percentage of the total, and the name.
abbrev pub account_line : Facts → AccountRow → List ℕ
account_line h row =
    right_text 10 (decimal row.portion.count) ++ codes " " ++ pair_text h.unit h.total row.portion.value
    ++ name_end row.name

-- The text of the account report with this limit of keys, where 0 is none: its head, the rows of samples under their
-- heading, and the rows of keys under theirs.
abbrev pub account_text : Profile → Finders → Config → Option ℕ → ℕ → Facts → List ℕ
account_text p f config column limit h =
    facts_text h
    ++ account_heading (codes "samples")
    ++ flat_map (account_line h) (sample_rows p f config column)
    ++ account_heading (codes "nodes")
    ++ flat_map (account_line h) (node_rows p f config column limit)
