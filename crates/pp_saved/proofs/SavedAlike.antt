-- A saved profile has the figures that its filters left, so the texts over them are the same.
use Rattle.std.proofs.Common.{◌≡◌, ℕ, pos, Bool, List, [], ◌∷◌, map, get_or, Option, Some, None, refl, sym, ap, ◌∙◌, subst}
use Rattle.std.specs.Prelude.{option_map}
use Rattle.std.specs.List.{AllByRecursion, cons_option, filter_map, list_any}
use Rattle.pp_model.specs.declared.config.Config.{Config}
use Rattle.pp_model.specs.declared.frame.Frame.{Frame}
use Rattle.pp_model.specs.declared.profile.Sample.{Sample}
use Rattle.pp_model.specs.declared.profile.Profile.{Profile}
use Rattle.pp_model.specs.Conditions.{IsColumnOf}
use Rattle.pp_model.specs.Finders.{Finders, no_finders}
use Rattle.pp_model.specs.FrameTexts.{Written}
use Rattle.pp_model.specs.Rules.{IsCompact}
use Rattle.pp_grain.specs.Keys.{key_cmp}
use Rattle.pp_grain.proofs.CallerLemmas.{key_cmp_total, key_cmp_ties}
use Rattle.pp_count.specs.Sums.{Seen, weighed, has, leads, absolute, sum_where}
use Rattle.pp_count.specs.EdgeSums.{has_edge}
use Rattle.pp_count.specs.Seeing.{filtered_stack, seen_with, framed_with, seen_samples}
use Rattle.pp_count.specs.Counts.{total_of}
use Rattle.pp_count.specs.Counted.{report_samples, report_frames, finds_own}
use Rattle.pp_share.specs.Header.{HeaderText}
use Rattle.pp_merge.specs.Merge.{contents}
use Rattle.pp_merge.proofs.WrittenCompact.{compact_written}
use Rattle.pp_dump.specs.Saved.{saved}
use Rattle.pp_dump.specs.Stacks.{left_stacks, whole_stacks}
use Rattle.pp_dump.specs.Unfiltered.{SeesAlike}
use Rattle.pp_calltree.specs.CallPaths.{all_paths, report_paths}
use Rattle.pp_calltree.specs.CallTree.{rooted}
use Rattle.pp_export.specs.Folded.{path_lines}
use Rattle.pp_dump.proofs.SeenSums.{IsNatural}
use Rattle.pp_dump.proofs.WholeStacks.{whole_left}
use Rattle.pp_graph.specs.Figures.{Figures, figures, is_found_frame}
use Rattle.pp_graph.proofs.Relisted.{keys_alike}
use Rattle.pp_top.specs.Top.{top_layout}
use Rattle.pp_tree.specs.Tree.{tree_layout}
use Rattle.pp_tree.specs.Peek.{peek_layout}
use Rattle.pp_export.specs.Table.{table_layout}
use Rattle.pp_laws.proofs.Sampling.{sum_where-weighed}
use Rattle.pp_report.specs.Heads.{first_file}
use Rattle.pp_saved.specs.Headed.{HeadedFigures, headed_figures}
use Rattle.pp_saved.specs.Premises.{CanSave, unfiltered, own_alone}
use Rattle.pp_saved.specs.Kept.{SavedFigures, SavedTexts, SavedColumns, SavedLasts}
use Rattle.pp_saved.proofs.FramedStacks.{own_natural, saved_natural, frames_found}
use Rattle.pp_saved.proofs.OwnAlone.{own_figures, own_frames, own_samples}
use Rattle.pp_saved.proofs.PathsAlike.{AddUpAlike, rooted_alike, all_paths_alike}
use Rattle.pp_saved.proofs.SavedHead.{same_type, same_duration, same_file}
use Rattle.pp_saved.proofs.Saving.{IsSaved, is_saved}
use Rattle.pp_saved.proofs.SavedTotals.{none_of_base, relative_total, nothing_adds_up}

-- without a column no sample puts keys into a report
none_seen : (p : Profile) (config : Config) (left : Sample → Option (List Frame)) (xs : List Sample)
    → weighed (filter_map (λ s. option_map (seen_with p config None s) (left s)) xs) ≡ []
none_seen p config left [] = refl
none_seen p config left (s ∷ xs) = by (left s) (none_seen p config left xs)
  where
    by : (o : Option (List Frame)) → weighed (filter_map (λ t. option_map (seen_with p config None t) (left t)) xs) ≡ []
        → weighed (cons_option (option_map (seen_with p config None s) o) (filter_map (λ t. option_map (seen_with p config None t) (left t)) xs)) ≡ []
    by None rest = rest
    by (Some stack) rest = rest

none_framed : (p : Profile) (config : Config) (left : Sample → Option (List Frame)) (xs : List Sample)
    → weighed (filter_map (λ s. option_map (framed_with p config None s) (left s)) xs) ≡ []
none_framed p config left [] = refl
none_framed p config left (s ∷ xs) = by (left s) (none_framed p config left xs)
  where
    by : (o : Option (List Frame)) → weighed (filter_map (λ t. option_map (framed_with p config None t) (left t)) xs) ≡ []
        → weighed (cons_option (option_map (framed_with p config None s) o) (filter_map (λ t. option_map (framed_with p config None t) (left t)) xs)) ≡ []
    by None rest = rest
    by (Some stack) rest = rest

-- Both reports add up the same, and find the same keys and frames.
record Counted (p : Profile) (f : Finders) (config : Config) (q : Profile) (d : Config) (column : Option ℕ) : Type 0 where
  pub sums : (test : List Written → Bool) → sum_where test (report_samples q no_finders d column) ≡ sum_where test (report_samples p f config column)
  pub some : (test : List Written → Bool) → list_any (λ s. test s.keys) (report_samples q no_finders d column) ≡ list_any (λ s. test s.keys) (report_samples p f config column)
  pub frames : (test : List Written → Bool) → list_any (λ s. test s.keys) (report_frames q no_finders d column) ≡ list_any (λ s. test s.keys) (report_frames p f config column)
  pub absolutes : absolute (seen_samples q no_finders d column q.sample) ≡ absolute (seen_samples p f config column p.sample)

module _ (p : Profile) (f : Finders) (config : Config) (q : Profile) (can : CanSave p config.presentation) (is : IsSaved p f config q) where
  abbrev d : Config
  d = unfiltered config

  alike : SeesAlike config d
  alike = record {
    grain = refl;
    showcolumns = refl;
    noinlines = refl;
    divide_by = can.divide_by;
    undivided = can.divide_by;
    tagfocus = refl;
    tagignore = refl;
  }

  whole : left_stacks q no_finders d.filtering ≡ whole_stacks q
  whole = let compact : IsCompact q = subst IsCompact is.again (compact_written (contents q [])) in whole_left q compact.locations d.filtering refl refl is.valid

  counted : (column : Option ℕ) → IsColumnOf p column → Counted p f config q d column
  counted None within =
      let ours : report_samples p f config None ≡ [] = none_seen p config (filtered_stack p f config.filtering) p.sample in
      let theirs : report_samples q no_finders d None ≡ [] = none_seen q d (filtered_stack q no_finders d.filtering) q.sample in
      record {
        sums = λ test. ap (sum_where test) (theirs ∙ sym ours);
        some = λ test. ap (list_any (λ (s : Seen Written). test s.keys)) (theirs ∙ sym ours);
        frames = λ test. ap (list_any (λ (s : Seen Written). test s.keys))
            (none_framed q d (filtered_stack q no_finders d.filtering) q.sample ∙ sym (none_framed p config (filtered_stack p f config.filtering) p.sample));
        absolutes = nothing_adds_up q no_finders d q.sample ∙ sym (nothing_adds_up p f config p.sample);
      }
  counted (Some column) within =
      let keys = is.keys can.least d alike column within in
      record {
        sums = λ test. sum_where-weighed test _ ∙ is.sums d alike test column within ∙ sym (sum_where-weighed test _);
        some = keys.some;
        frames = frames_found p f config q d column is.stacks within refl can.divide_by can.divide_by whole
            (own_natural p column can.valid within can.least)
            (subst (λ (r : Profile). AllByRecursion (λ s. IsNatural (get_or s.value column (pos 0))) r.sample) (sym is.is) (saved_natural p column can.valid within can.least f config));
        absolutes = keys.absolutes;
      }

  module _ (column : Option ℕ) (within : IsColumnOf p column) where
    same : Counted p f config q d column
    same = counted column within

    paths_are : report_paths q no_finders d column ≡ report_paths p f config column
    paths_are =
        let samples : AddUpAlike (report_samples q no_finders d column) (report_samples p f config column) = record { sums = same.sums; some = same.some } in
        all_paths_alike key_cmp_total key_cmp_ties (rooted_alike samples)

    total_is : total_of q no_finders d column ≡ total_of p f config column
    total_is =
        relative_total q no_finders d column can.relative (none_of_base p f config.filtering q is.stacks can.plain)
        ∙ same.absolutes ∙ sym (relative_total p f config column can.relative can.plain)

    pub alone : headed_figures q no_finders d column ≡ headed_figures p f config column
    alone = λ i. record {
      column = column;
      value_type = same_type p q column is.header.header i;
      file = (ap first_file is.is ∙ same_file p f config.filtering) i;
      duration = (ap (λ (r : Profile). r.duration_nanos) is.is ∙ same_duration p f config.filtering can.settled) i;
      figures = record {
        total = total_is i;
        keys = keys_alike (report_samples q no_finders d column) (report_samples p f config column) (λ k. same.some (has key_cmp k)) i;
        finds = λ test k. same.frames (list_any (is_found_frame config.grouping test k)) i;
        flat_of = λ k. same.sums (leads key_cmp k) i;
        cum_of = λ k. same.sums (has key_cmp k) i;
        occurs_pair = λ kept a b. same.some (has_edge key_cmp kept a b) i;
        sum_of_pair = λ kept a b. same.sums (has_edge key_cmp kept a b) i;
      };
    }

-- the saved profile keeps what saving keeps
saving : (p : Profile) (f : Finders) (config : Config) → CanSave p config.presentation → IsSaved p f config (saved p f config.filtering)
saving p f config can = is_saved p f config can.valid can.starts can.settled

-- The figures are the same,
pub saved_figures : SavedFigures
saved_figures p f config column can within =
    own_figures (saved p f config.filtering) f config column ∙ alone p f config (saved p f config.filtering) can (saving p f config can) column within

-- and so are the texts.
pub saved_texts : SavedTexts
saved_texts p f config column can within =
    let q : Profile = saved p f config.filtering in
    let g : Finders = own_alone f in
    let d : Config = unfiltered config in
    let figs : figures q g d column ≡ figures p f config column = ap (λ (h : HeadedFigures). h.figures) (saved_figures p f config column can within) in
    record {
      top = λ limit h. ap (λ (a : Figures). top_layout a config.presentation limit h) figs;
      tree = λ limit h. ap (λ (a : Figures). tree_layout a config.presentation limit h) figs;
      found = ap (list_any (λ (s : Seen Written). list_any (finds_own f) s.keys)) (own_frames q f config column)
          ∙ (counted p f config q can (saving p f config can) column within).frames (list_any (finds_own f));
      peek = λ h. ap (λ (a : Figures). peek_layout a config.presentation f.own h) figs;
      table = λ limit unit. ap (λ (a : Figures). table_layout a config.presentation limit unit) figs;
      folded = ap (λ (ss : List (Seen Written)). path_lines (all_paths key_cmp (map rooted ss))) (own_samples q f config column)
          ∙ ap path_lines (paths_are p f config q can (saving p f config can) column within);
    }

-- A text asks for the same column,
pub saved_columns : SavedColumns
saved_columns p f config text can = (saving p f config can).header.columns text

-- and what was saved is valid and merged.
pub saved_lasts : SavedLasts
saved_lasts p f config valid starts settled =
    let is = is_saved p f config valid starts settled in
    record {
      valid = is.valid;
      settled = is.again;
      drop = ap (λ (h : HeaderText). h.drop_frames) is.header.header;
      keep = ap (λ (h : HeaderText). h.keep_frames) is.header.header;
    }
