-- What a report comes to: its notes, and its text or a refusal.
use Rattle.std.specs.Prelude.{ℕ, List, [], length, drop, Option, Some, None, Result, Ok, Err, if◌then◌else◌}
use Rattle.pp_base.specs.declared.memory.Memory.{Memory}
use Rattle.pp_desk.specs.declared.stop.Stop.{Stop}
use Rattle.pp_desk.specs.declared.stop.Stop.TheVariants as stops
use Rattle.pp_desk.specs.Script.{Script, Give, ◌>>=◌}
use Rattle.pp_model.specs.declared.config.Config.{Config}
use Rattle.pp_model.specs.declared.loaded.Loaded.{Loaded}
use Rattle.pp_model.specs.declared.profile.Profile.{Profile}
use Rattle.pp_model.specs.declared.report.BaseKind.{BaseKind}
use Rattle.pp_model.specs.declared.report.Report.{Report}
use Rattle.pp_model.specs.declared.report.Report.TheVariants as reports
use Rattle.pp_model.specs.Finders.{Finders}
use Rattle.pp_units.specs.Head.{Facts}
use Rattle.pp_tables.specs.Encode.{encode}
use Rattle.pp_pattern.specs.Report.{Finds}
use Rattle.pp_count.specs.Counted.{has_own_match}
use Rattle.pp_graph.specs.Trim.{node_limit}
use Rattle.pp_account.specs.Account.{account_text}
use Rattle.pp_top.specs.Top.{top_text}
use Rattle.pp_tree.specs.Tree.{tree_text}
use Rattle.pp_calltree.specs.Text.{calltree_text}
use Rattle.pp_top.specs.Changes.{changes_text}
use Rattle.pp_top.specs.Compare.{compare_text}
use Rattle.pp_export.specs.Folded.{folded_text}
use Rattle.pp_export.specs.Table.{exact_table}
use Rattle.pp_tree.specs.Peek.{peek_text}
use Rattle.pp_samples.specs.Traces.{traces_text}
use Rattle.pp_samples.specs.TagLines.{tags_text}
use Rattle.pp_dump.specs.Raw.{raw_text}
use Rattle.pp_samples.specs.Comments.{comments_text}
use Rattle.pp_dump.specs.Saved.{saved}
use Rattle.pp_source.specs.Listing.{list_report}
use Rattle.pp_report.specs.declared.refusal.ReportRefusal.{ReportRefusal}
use Rattle.pp_report.specs.declared.refusal.ReportRefusal.TheVariants.{NoMatch, NoBase}
use Rattle.pp_report.specs.declared.texts.TheConstants.{TREE_NODES}
use Rattle.pp_report.specs.Base.{lacks_base}
use Rattle.pp_report.specs.Heads.{report_head, unit_text}
use Rattle.pp_report.specs.Patterns.{report_finders}
use Rattle.pp_report.specs.Prepared.{Showing, Settled, prepare}
use Rattle.pp_report.specs.Tagged.{basis_of}

-- the text that was made, if the own pattern found something
abbrev pub of_found : Option (List ℕ) → Result (List ℕ) ReportRefusal
of_found None = Err NoMatch
of_found (Some text) = Ok text

-- what a peek report comes to
abbrev pub peek_outcome : Profile → Finders → Config → Option ℕ → Facts → Result (List ℕ) ReportRefusal
peek_outcome p f config column h =
    if has_own_match p f config column then Ok (peek_text p f config column h) else Err NoMatch

-- what a list report comes to, after the files that it reads
unfoldable pub list_text : Profile → Finders → Config → Option ℕ → Facts
    → Script (Result (List ℕ) ReportRefusal)
list_text p f config column h =
    list_report p f config column h >>= (λ text. Give (of_found text))

-- the text of a tree report: its nodes by their paths from the root where these are asked for, else each key with its
-- callers and callees
abbrev pub tree_report_text : Profile → Finders → Config → Option ℕ → Facts → List ℕ
tree_report_text p f config column h =
    if config.presentation.path_tree then calltree_text p f config column h
    else tree_text p f config column (node_limit config.presentation.nodecount TREE_NODES) h

-- The text of a report with this head, once its patterns are known. Only a list report reads files.
unfoldable pub text_by : Profile → Finders → Config → Option ℕ → Facts → Report
    → Script (Result (List ℕ) ReportRefusal)
text_by p f config column h reports.Top =
    Give (Ok (top_text p f config column (node_limit config.presentation.nodecount 0) h))
text_by p f config column h reports.Tree = Give (Ok (tree_report_text p f config column h))
text_by p f config column h (reports.Peek pattern) = Give (peek_outcome p f config column h)
text_by p f config column h reports.Traces = Give (Ok (traces_text p f config column h))
text_by p f config column h reports.Tags = Give (Ok (tags_text p f config column h))
text_by p f config column h reports.Raw = Give (Ok (raw_text (saved p f config.filtering)))
text_by p f config column h reports.Comments = Give (Ok (comments_text p))
text_by p f config column h reports.Proto = Give (Ok (encode (saved p f config.filtering)))
text_by p f config column h (reports.List pattern) = list_text p f config column h
text_by p f config column h reports.Folded = Give (Ok (folded_text p f config column))
text_by p f config column h reports.Table =
    Give (Ok (exact_table p f config column (node_limit config.presentation.nodecount 0)
    (unit_text p column)))
text_by p f config column h reports.Compare =
    Give (Ok (compare_text p f config column (node_limit config.presentation.nodecount 0) h))
text_by p f config column h reports.Changes =
    Give (Ok (changes_text p f config column (node_limit config.presentation.nodecount 0)
    (unit_text p column)))
text_by p f config column h reports.Account =
    Give (Ok (account_text p f config column (node_limit config.presentation.nodecount 0) h))

-- the answer of a report that reads no file, or that memory was wanting
abbrev pub answer_of_outcome : Result (Result (List ℕ) ReportRefusal) Memory → Result (Result (List ℕ) ReportRefusal) Stop
answer_of_outcome (Ok outcome) = Ok outcome
answer_of_outcome (Err e) = Err stops.Memory

-- the answer of a report that is never refused, or that memory was wanting
abbrev pub answer_of_text : Result (List ℕ) Memory → Result (Result (List ℕ) ReportRefusal) Stop
answer_of_text (Ok text) = Ok (Ok text)
answer_of_text (Err e) = Err stops.Memory

-- The text of a report of this column and unit, by what its patterns find.
abbrev pub finish_by : Profile → Finders → Config → Showing → Report
    → Script (Result (List ℕ) ReportRefusal)
finish_by p f config showing report =
    text_by p f config showing.column (report_head p f config showing.column showing.wanted) report

-- The text of a report that shows this and is made of this profile.
unfoldable pub finish_on : Finds → Loaded → Report → Config → Showing
    → Script (Result (List ℕ) ReportRefusal)
finish_on finds l report config showing =
    finish_by l.profile (report_finders finds l report config.filtering) config showing report

-- What a report of the loaded profile comes to, which may first get frames from labels.
abbrev pub finish_made : Finds → Loaded → Report → Config → Showing
    → Script (Result (List ℕ) ReportRefusal)
finish_made finds l report config showing =
    finish_on finds (basis_of report l config.presentation) report config showing

-- The text of a report of the loaded profile, where a base of this kind was given, if one was; or its refusal for want
-- of a base.
abbrev pub finish : Finds → Loaded → Option BaseKind → Report → Config → Showing
    → Script (Result (List ℕ) ReportRefusal)
finish finds l base report config showing =
    if lacks_base base l.profile report then Give (Err NoBase) else finish_made finds l report config showing

-- What a report comes to.
pub record Reported : Type 0 where
  -- a line for each option without a match; none where the report was refused before all patterns were asked
  pub notes : List ℕ
  pub outcome : Result (List ℕ) ReportRefusal

-- what a report comes to that has these notes
abbrev pub reported_with : List ℕ → Result (List ℕ) ReportRefusal → Reported
reported_with notes outcome = record { notes = notes; outcome = outcome }

-- goes on after the patterns
unfoldable pub report_settled : Finds → Loaded → Option BaseKind → Report → Config → Result Settled ReportRefusal
    → Script Reported
report_settled finds l base report config (Err refusal) = Give (reported_with [] (Err refusal))
report_settled finds l base report config (Ok settled) =
    finish finds l base report config settled.showing
    >>= (λ outcome. Give (reported_with settled.notes outcome))

-- Makes a report: the refusals of its column and unit, the patterns in order, the notes, then the text. The
-- configuration's workers are not read. The profile was loaded with a base of this kind, if with any.
unfoldable pub report_script : Finds → Loaded → Option BaseKind → Report → Config → Script Reported
report_script finds l base report config =
    prepare finds l report config >>= report_settled finds l base report config

-- what was appended to a text
abbrev pub appended_text : List ℕ → List ℕ → List ℕ
appended_text before after = drop (length before) after

-- what was answered, beside the notes
abbrev pub reported : List ℕ → Result (Result (List ℕ) ReportRefusal) Stop → Result Reported Stop
reported notes (Ok outcome) = Ok (reported_with notes outcome)
reported notes (Err stop) = Err stop
