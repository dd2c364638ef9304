-- Worked rows of messages, notes and units.
use Rattle.std.proofs.Common.{◌≡◌, refl, true, false, [], ◌∷◌, codes}
use Rattle.std.specs.Prelude.{Some, None}
use Rattle.pp_model.specs.declared.report.Report.TheVariants as reports
use Rattle.pp_model.specs.declared.verdicts.Slot.TheVariants as slots
use Rattle.pp_model.specs.Defaults.{standard_filtering}
use Rattle.pp_units.specs.Scales.{is_named, scale_of}
use Rattle.pp_units.specs.Shown.{forced, is_same_kind}
use Rattle.pp_report.specs.declared.refusal.ReportRefusal.TheVariants.{BadSampleIndex, PatternRefused, NoMatch}
use Rattle.pp_report.specs.Heads.{wanted_unit}
use Rattle.pp_report.specs.Messages.{report_refusal_line}
use Rattle.pp_model.specs.ReportFacts.{option_name}
use Rattle.pp_report.specs.Notes.{note_unless, notes_by}
use Rattle.pp_stack.specs.LoadFinders.{known_verdict}

-- an option is called as its variable
refused_focus : report_refusal_line reports.Top (PatternRefused slots.Focus) ≡ codes "pprof: focus: pattern refused\n"
unfolding report_refusal_line option_name
refused_focus = refl

-- and the pattern of a report as the report
refused_peek : report_refusal_line (reports.Peek (codes "f")) (PatternRefused slots.Own) ≡ codes "pprof: peek: pattern refused\n"
unfolding report_refusal_line option_name
refused_peek = refl

refused_list : report_refusal_line (reports.List (codes "f")) (PatternRefused slots.Own) ≡ codes "pprof: list: pattern refused\n"
unfolding report_refusal_line option_name
refused_list = refl

no_match : report_refusal_line (reports.List (codes "f")) NoMatch ≡ codes "pprof: no function matches\n"
unfolding report_refusal_line
no_match = refl

bad_index : report_refusal_line reports.Top BadSampleIndex ≡ codes "pprof: sample_index: no such sample type\n"
unfolding report_refusal_line
bad_index = refl

-- an option without a match is noted, in the order of the options, and one that is empty is not
two_notes : notes_by (record standard_filtering { hide = codes "x"; taghide = codes "y"; show = codes "z" })
    (false ∷ false ∷ false ∷ true ∷ false ∷ false ∷ false ∷ true ∷ false ∷ false ∷ [])
    ≡ codes "pprof: hide matched no samples\npprof: taghide matched no samples\n"
unfolding notes_by note_unless
two_notes = refl

-- a unit of another kind is none
other_kind : wanted_unit (codes "ms") (codes "bytes") ≡ None
unfolding forced is_same_kind scale_of is_named
other_kind = refl

-- none is wanted
no_unit : wanted_unit [] (codes "bytes") ≡ Some None
no_unit = refl

-- verdicts are found by their texts
second : known_verdict (codes "a" ∷ codes "b" ∷ []) (false ∷ true ∷ []) (codes "b") ≡ true
second = refl
