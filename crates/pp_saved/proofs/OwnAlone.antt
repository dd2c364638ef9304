-- Without filters, a report's own pattern changes no figure.
use Rattle.std.proofs.Common.{◌≡◌, ℕ, List, [], ◌∷◌, Option, refl, ap}
use Rattle.std.specs.Prelude.{option_map, is_some, if◌then◌else◌}
use Rattle.std.specs.List.{filter, filter_map, list_any}
use Rattle.pp_model.specs.declared.config.Config.{Config}
use Rattle.pp_model.specs.declared.frame.Frame.{Frame}
use Rattle.pp_model.specs.declared.profile.Sample.{Sample}
use Rattle.pp_model.specs.declared.profile.Profile.{Profile}
use Rattle.pp_model.specs.Finders.{Finders, no_finders}
use Rattle.pp_model.specs.Frames.{stack_of}
use Rattle.pp_model.specs.FrameTexts.{Written, written}
use Rattle.pp_grain.specs.Keys.{key_cmp}
use Rattle.pp_stack.specs.Filters.{filtered}
use Rattle.pp_count.specs.Sums.{Seen, weighed, all_keys, flat, cum}
use Rattle.pp_count.specs.EdgeSums.{edge_occurs, edge_sum}
use Rattle.pp_count.specs.Seeing.{filtered_stack, seen_with, framed_with}
use Rattle.pp_count.specs.Counts.{total_over}
use Rattle.pp_count.specs.Counted.{report_frames, report_samples}
use Rattle.pp_count.specs.Ranks.{each_once}
use Rattle.pp_graph.specs.Figures.{is_found_frame}
use Rattle.pp_report.specs.Heads.{column_type, first_file}
use Rattle.pp_saved.specs.Headed.{HeadedFigures, headed_figures}
use Rattle.pp_saved.specs.Premises.{unfiltered, own_alone}

module _ (q : Profile) (f : Finders) (config : Config) (column : Option ℕ) where
  abbrev d : Config
  d = unfiltered config

  own_cut : (stack : List Frame) → filtered (written q) (own_alone f) stack ≡ filtered (written q) no_finders stack
  own_cut [] = refl
  own_cut (x ∷ stack) = refl

  same_stacks : filtered_stack q (own_alone f) d.filtering ≡ filtered_stack q no_finders d.filtering
  same_stacks = λ i s. own_cut (stack_of q s) i

  abbrev samples_by : (Sample → Option (List Frame)) → List (Seen Written)
  samples_by left = weighed (filter_map (λ s. option_map (seen_with q d column s) (left s)) q.sample)

  abbrev frames_by : (Sample → Option (List Frame)) → List (Seen Written)
  frames_by left = weighed (filter_map (λ s. option_map (framed_with q d column s) (left s)) q.sample)

  -- the figures, where these stacks are left of samples
  abbrev figures_by : (Sample → Option (List Frame)) → HeadedFigures
  figures_by left = record {
    column = column;
    value_type = column_type q column;
    file = first_file q;
    duration = q.duration_nanos;
    figures = record {
      total = total_over q d.presentation column (if d.presentation.relative_percentages then filter (λ s. is_some (left s)) q.sample else q.sample);
      keys = each_once key_cmp (all_keys (samples_by left));
      finds = λ test k. list_any (λ s. list_any (is_found_frame d.grouping test k) s.keys) (frames_by left);
      flat_of = flat key_cmp (samples_by left);
      cum_of = cum key_cmp (samples_by left);
      occurs_pair = λ kept. edge_occurs key_cmp kept (samples_by left);
      sum_of_pair = λ kept. edge_sum key_cmp kept (samples_by left);
    };
  }

  pub own_figures : headed_figures q (own_alone f) d column ≡ headed_figures q no_finders d column
  own_figures = ap figures_by same_stacks

  pub own_samples : report_samples q (own_alone f) d column ≡ report_samples q no_finders d column
  own_samples = ap samples_by same_stacks

  pub own_frames : report_frames q (own_alone f) d column ≡ report_frames q no_finders d column
  own_frames = ap frames_by same_stacks
