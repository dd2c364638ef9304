-- The lines of the report, over what was added up. No public clause cites this file.
use Rattle.std.specs.Prelude.{◌≡◌, ℕ, List, [], ◌∷◌, ◌++◌, codes, Option, if◌then◌else◌}
use Rattle.std.specs.List.{flat_map}
use Rattle.pp_model.specs.declared.config.Config.{Config}
use Rattle.pp_model.specs.declared.profile.Profile.{Profile}
use Rattle.pp_model.specs.declared.verdicts.Slot.{Slot}
use Rattle.pp_model.specs.declared.filtering.Filtering.{Filtering}
use Rattle.pp_model.specs.Finders.{Finders}
use Rattle.pp_units.specs.Head.{Facts, facts_text}
use Rattle.pp_graph.specs.Trim.{all_report_keys, report_keys}
use Rattle.pp_account.specs.declared.nodes.NodePortions.{NodePortions}
use Rattle.pp_account.specs.declared.portion.Portion.{Portion}
use Rattle.pp_account.specs.declared.portions.Portions.{Portions as PortionsOf}
use Rattle.pp_account.specs.Account.{account_heading, account_line, bare_row, dropping, filter_name}
use Rattle.pp_account.specs.Adding.{portion_at}
use Rattle.pp_account.specs.First.{is_in_force}
use Rattle.pp_account.specs.Nodes.{keys_portion, light_keys, keys_beyond}

-- the line of a portion with this name
abbrev pub portion_line : Facts → Portion → List ℕ → List ℕ
portion_line h portion name = account_line h (record { portion = portion; name = name })

-- the line of a filter, where it is in force
abbrev pub filter_line : Finders → Filtering → PortionsOf → Facts → Slot → List ℕ
filter_line f filtering d h slot =
    if is_in_force f filtering slot
    then portion_line h (portion_at d slot) (filter_name filtering slot) else []

-- the lines of the rows of samples
abbrev pub sample_portion_lines : Finders → Filtering → PortionsOf → Facts → List ℕ
sample_portion_lines f filtering d h =
    portion_line h d.loaded (codes "loaded") ++ flat_map (filter_line f filtering d h) dropping
    ++ portion_line h d.left (codes "left") ++ flat_map (account_line h) (bare_row d.bare)

-- the lines of the rows of keys
abbrev pub node_portion_lines : NodePortions → Facts → List ℕ
node_portion_lines n h =
    portion_line h n.counted (codes "counted") ++ portion_line h n.light (codes "below nodefraction")
    ++ portion_line h n.beyond (codes "beyond nodecount") ++ portion_line h n.shown (codes "shown")

-- the whole text
abbrev pub account_lines : Finders → Filtering → PortionsOf → NodePortions → Facts → List ℕ
account_lines f filtering d n h =
    facts_text h ++ account_heading (codes "samples") ++ sample_portion_lines f filtering d h
    ++ account_heading (codes "nodes") ++ node_portion_lines n h

-- the portions are those of the report's keys under this limit
abbrev pub AreNodesOf : Profile → Finders → Config → Option ℕ → ℕ → NodePortions → Type 0
AreNodesOf p f config column limit n =
    n ≡ record {
      counted = keys_portion p f config column (all_report_keys p f config column);
      light = keys_portion p f config column (light_keys p f config column);
      beyond = keys_portion p f config column (keys_beyond p f config column limit);
      shown = keys_portion p f config column (report_keys p f config column limit);
    }
