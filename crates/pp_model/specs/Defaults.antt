-- The variables before any option.
use Rattle.std.specs.Prelude.{negsuc, false, []}
use Rattle.std.proofs.Common.{lit≤, lit<}
use Rattle.pp_model.specs.declared.grouping.Grain.TheVariants.{Functions}
use Rattle.pp_model.specs.declared.grouping.Grouping.{Grouping}
use Rattle.pp_model.specs.declared.filtering.Filtering.{Filtering}
use Rattle.pp_model.specs.declared.presentation.Sort.TheVariants.{Flat}
use Rattle.pp_model.specs.declared.presentation.Presentation.{Presentation}
use Rattle.pp_model.specs.declared.presentation.TheConstants.{NODE_FRACTION, EDGE_FRACTION}
use Rattle.pp_model.specs.declared.environment.Environment.{Environment}
use Rattle.pp_model.specs.declared.environment.TheConstants.{WORKERS}
use Rattle.pp_model.specs.declared.config.Config.{Config}

-- by functions, with inlined calls on their own
abbrev pub standard_grouping : Grouping
standard_grouping = record { grain = Functions; noinlines = false; showcolumns = false }

-- nothing is filtered
abbrev pub standard_filtering : Filtering
standard_filtering = record {
  focus = [];
  ignore = [];
  show = [];
  hide = [];
  show_from = [];
  prune_from = [];
  tagfocus = [];
  tagignore = [];
  tagshow = [];
  taghide = [];
}

-- the report's own number of rows, by flat, in the profile's own column and unit; no label is shown as a frame
abbrev pub standard_presentation : Presentation
standard_presentation = record {
  sort = Flat;
  path_tree = false;
  nodecount = negsuc 0;
  nodefraction = record { billionths = NODE_FRACTION; at_most_one = lit≤ tt };
  edgefraction = record { billionths = EDGE_FRACTION; at_most_one = lit≤ tt };
  sample_index = [];
  unit = [];
  relative_percentages = false;
  divide_by = 1;
  tagroot = [];
  tagleaf = [];
  nodecount_from = record { le = tt };
  divisor_from = lit≤ tt;
  divisor_below = lit< tt;
}

-- source files lie where the profile says
abbrev pub standard_environment : Environment
standard_environment = record {
  source_path = [];
  trim_path = [];
  workers = WORKERS;
  workers_from = lit≤ tt;
  workers_to = lit≤ tt;
}

-- Each variable at its default.
abbrev pub defaults : Config
defaults = record {
  grouping = standard_grouping;
  filtering = standard_filtering;
  presentation = standard_presentation;
  environment = standard_environment;
}
