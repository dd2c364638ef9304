-- What a report does: it asks for patterns and reads files, and nothing else.
use Rattle.std.proofs.Common.{◌≡◌, ℕ, Bool, true, false, List, [], ◌∷◌, ◌++◌, Option, Some, None, refl}
use Rattle.std.specs.Prelude.{Result, Ok, Err, if◌then◌else◌}
use Rattle.pp_desk.specs.Asking.{go_on}
use Rattle.pp_desk.specs.Script.{Script, Give, Step, Ask, ReadFile, ◌>>=◌}
use Rattle.pp_desk.proofs.Quiet.{Only, only_then, reads_no_line}
use Rattle.pp_model.specs.declared.config.Config.{Config}
use Rattle.pp_model.specs.declared.loaded.Loaded.{Loaded}
use Rattle.pp_model.specs.declared.profile.Profile.{Profile}
use Rattle.pp_model.specs.declared.report.BaseKind.{BaseKind}
use Rattle.pp_model.specs.declared.report.Report.{Report}
use Rattle.pp_model.specs.declared.report.Report.TheVariants as reports
use Rattle.pp_model.specs.declared.environment.Environment.{Environment}
use Rattle.pp_model.specs.Finders.{Finders}
use Rattle.pp_units.specs.Head.{Facts}
use Rattle.pp_count.specs.Counted.{has_own_match}
use Rattle.pp_count.specs.Sums.{Seen}
use Rattle.pp_model.specs.FrameTexts.{Written}
use Rattle.pp_pattern.specs.Report.{judge, Finds}
use Rattle.pp_report.specs.declared.refusal.ReportRefusal.{ReportRefusal}
use Rattle.pp_report.specs.declared.refusal.ReportRefusal.TheVariants.{NoBase}
use Rattle.pp_report.specs.Base.{lacks_base}
use Rattle.pp_model.specs.ReportFacts.{own_pattern, is_counted}
use Rattle.pp_report.specs.Patterns.{ask_patterns}
use Rattle.pp_report.specs.Prepared.{Showing, prepare_counts, prepare_showing, showing_for, prepare_on, prepare}
use Rattle.pp_report.specs.Reports.{list_text, text_by, finish_on, finish_made, finish}
use Rattle.pp_report.specs.Tagged.{basis_of}
use Rattle.pp_source.specs.Files.{files_of_lines}
use Rattle.pp_source.specs.declared.source.FileSource.{FileSource}
use Rattle.pp_source.specs.declared.source.TheConstants.{SOURCE_LIMIT}
use Rattle.pp_source.specs.Listing.{or_next, first_present, source_found, source_of, read_sources, list_lines, list_found, list_report}
use Rattle.pp_pattern.proofs.AskQuiet.{only_asking, only_judge}
use Rattle.pp_engine.proofs.Courses.{only_looks, writes_nothing}

module _ (test : Step → Bool) where
  module _ (asks : (pattern : List ℕ) → test (Ask pattern) ≡ true) (finds : Finds) (l : Loaded) (config : Config) where
    only_patterns : (report : Report) → Only test (ask_patterns finds l report config.filtering)
    unfolding ask_patterns
    only_patterns report = only_then test (judge finds config.filtering (own_pattern report) l.profile) _ (only_judge test asks finds config.filtering (own_pattern report) l.profile) (λ judged. tt)

    only_counts : (report : Report) (showing : Showing) → Only test (prepare_counts finds l report config.filtering showing)
    unfolding prepare_counts
    only_counts report showing = only_asking test (ask_patterns finds l report config.filtering) _ (only_patterns report) (λ _. tt)

    only_showing : (report : Report) (showing : Showing) → Only test (prepare_showing finds l report config.filtering showing)
    unfolding prepare_showing
    only_showing report showing =
        elim (is_counted report) as (λ counted. Only test (if counted then prepare_counts finds l report config.filtering showing else Give (Ok (record { showing = showing; notes = [] })))) [
          | true ↦ only_counts report showing
          | false ↦ tt
        ]

    only_settled : (report : Report) (shows : Result Showing ReportRefusal) → Only test (go_on (prepare_showing finds l report config.filtering) shows)
    only_settled report (Ok showing) = only_showing report showing
    only_settled report (Err refusal) = tt

    only_prepare : (report : Report) → Only test (prepare_on finds l report config)
    unfolding prepare_on
    only_prepare report = only_settled report (showing_for report l.profile config.presentation)

  module _ (reads : (path : List ℕ) (limit : ℕ) → test (ReadFile path limit) ≡ true) where
    only_or : (next : Script FileSource) (found : Option FileSource) → Only test next → Only test (or_next next found)
    only_or next None n = n
    only_or next (Some source) n = tt

    only_present : (paths : List (List ℕ)) → Only test (first_present paths)
    unfolding first_present ◌>>=◌
    only_present [] = tt
    only_present (path ∷ paths) = (reads path SOURCE_LIMIT, λ content. only_or (first_present paths) (source_found content) (only_present paths))

    only_source : (environment : Environment) (file : List ℕ) → Only test (source_of environment file)
    unfolding source_of
    only_source environment [] = tt
    only_source environment (b ∷ file) = only_present _

    only_sources : (config : Config) (sources : List FileSource) (files : List (List ℕ)) → Only test (read_sources config.environment sources files)
    unfolding read_sources
    only_sources config sources [] = tt
    only_sources config sources (file ∷ files) = only_then test (source_of config.environment file) _ (only_source config.environment file) (λ source. only_sources config (sources ++ source ∷ []) files)

    only_lines : (config : Config) (samples : List (Seen Written)) (h : Facts) (lines : List Written) → Only test (list_lines config.environment samples h lines)
    unfolding list_lines
    only_lines config samples h lines = only_then test (read_sources config.environment [] (files_of_lines lines)) _ (only_sources config [] (files_of_lines lines)) (λ sources. tt)

    only_found : (config : Config) (samples : List (Seen Written)) (h : Facts) (lines : List Written) → Only test (list_found config.environment samples h lines)
    unfolding list_found
    only_found config samples h lines = only_then test (list_lines config.environment samples h lines) _ (only_lines config samples h lines) (λ text. tt)

    only_if_found : (found : Bool) (p : Script (Option (List ℕ))) → Only test p → Only test (if found then p else Give None)
    only_if_found true p o = o
    only_if_found false p o = tt

    only_list : (p : Profile) (f : Finders) (config : Config) (column : Option ℕ) (h : Facts) → Only test (list_text p f config column h)
    unfolding list_text
    only_list p f config column h = only_then test (list_report p f config column h) _ (only_if_found (has_own_match p f config column) _ (only_found config _ h _)) (λ text. tt)

    only_text : (p : Profile) (f : Finders) (config : Config) (column : Option ℕ) (h : Facts) (report : Report) → Only test (text_by p f config column h report)
    unfolding text_by
    only_text p f config column h reports.Top = tt
    only_text p f config column h reports.Tree = tt
    only_text p f config column h (reports.Peek pattern) = tt
    only_text p f config column h reports.Traces = tt
    only_text p f config column h reports.Tags = tt
    only_text p f config column h reports.Raw = tt
    only_text p f config column h reports.Comments = tt
    only_text p f config column h reports.Proto = tt
    only_text p f config column h (reports.List pattern) = only_list p f config column h
    only_text p f config column h reports.Folded = tt
    only_text p f config column h reports.Table = tt
    only_text p f config column h reports.Compare = tt
    only_text p f config column h reports.Changes = tt
    only_text p f config column h reports.Account = tt

    only_made : (finds : Finds) (l : Loaded) (report : Report) (config : Config) (showing : Showing) → Only test (finish_on finds l report config showing)
    unfolding finish_on
    only_made finds l report config showing = only_text l.profile _ config showing.column _ report

    only_finish : (finds : Finds) (l : Loaded) (base : Option BaseKind) (report : Report) (config : Config) (showing : Showing) → Only test (finish finds l base report config showing)
    only_finish finds l base report config showing =
        elim (lacks_base base l.profile report) as (λ lacks. Only test (if lacks then Give (Err NoBase) else finish_made finds l report config showing)) [
          | true ↦ tt
          | false ↦ only_made finds (basis_of report l config.presentation) report config showing
        ]

-- What comes before a report's text only looks.
pub prepare_looks : (finds : Finds) (l : Loaded) (report : Report) (config : Config) → Only only_looks (prepare finds l report config)
prepare_looks finds l report config = only_prepare only_looks (λ pattern. refl) finds (basis_of report l config.presentation) config report

-- It reads no line.
pub prepare_reads_no_line : (finds : Finds) (l : Loaded) (report : Report) (config : Config) → Only reads_no_line (prepare finds l report config)
prepare_reads_no_line finds l report config = only_prepare reads_no_line (λ pattern. refl) finds (basis_of report l config.presentation) config report

-- The text of a report only looks.
pub finish_looks : (finds : Finds) (l : Loaded) (base : Option BaseKind) (report : Report) (config : Config) (showing : Showing) → Only only_looks (finish finds l base report config showing)
finish_looks finds l base report config showing = only_finish only_looks (λ path limit. refl) finds l base report config showing

-- It reads no line.
pub finish_reads_no_line : (finds : Finds) (l : Loaded) (base : Option BaseKind) (report : Report) (config : Config) (showing : Showing) → Only reads_no_line (finish finds l base report config showing)
finish_reads_no_line finds l base report config showing = only_finish reads_no_line (λ path limit. refl) finds l base report config showing

-- Neither writes anything.
pub prepare_writes_nothing : (finds : Finds) (l : Loaded) (report : Report) (config : Config) → Only writes_nothing (prepare finds l report config)
prepare_writes_nothing finds l report config = only_prepare writes_nothing (λ pattern. refl) finds (basis_of report l config.presentation) config report

pub finish_writes_nothing : (finds : Finds) (l : Loaded) (base : Option BaseKind) (report : Report) (config : Config) (showing : Showing) → Only writes_nothing (finish finds l base report config showing)
finish_writes_nothing finds l base report config showing = only_finish writes_nothing (λ path limit. refl) finds l base report config showing
