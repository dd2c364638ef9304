-- The text of a proto report loads as the profile that was saved, which reports as its filters did.
use Rattle.std.proofs.Common.{◌≡◌, ℕ, ◌<◌, ◌-◌, ◌==◌, ◌^◌, Bool, true, false, cond, List, [], ◌∷◌, length, refl, sym, ap, ◌∙◌, subst, arith}
use Rattle.std.specs.Prelude.{⊤, nat_lt, not, bytes_eq, Option, Some, None, Result, Ok, Err, option_map, position, if◌then◌else◌}
use Rattle.std.specs.List.{AllByRecursion, list_all, prefix_len}
use Rattle.std.specs.Char.{is_ascii_digit}
use Rattle.std.specs.Option.{MatchOption}
use Rattle.std.specs.Str.Parse.{digits_value}
use Rattle.std.proofs.lemmas.Bool.{ltb-true, eqb-false}
use Rattle.std.proofs.lemmas.Option.{none-some, same_Some}
use Rattle.pp_base.specs.FileMap.{FileMap}
use Rattle.pp_base.specs.Judges.{Answer}
use Rattle.pp_desk.specs.Asking.{go_on}
use Rattle.pp_desk.specs.Script.{Give, Script}
use Rattle.pp_model.specs.declared.config.Config.{Config}
use Rattle.pp_model.specs.declared.loaded.Loaded.{Loaded}
use Rattle.pp_model.specs.declared.profile.Profile.{Profile}
use Rattle.pp_model.specs.declared.report.BaseKind.{BaseKind}
use Rattle.pp_model.specs.declared.report.Report.{Report}
use Rattle.pp_model.specs.declared.report.Report.TheVariants as reports
use Rattle.pp_model.specs.declared.presentation.Presentation.{Presentation}
use Rattle.pp_model.specs.Conditions.{IsColumnOf}
use Rattle.pp_model.specs.Lookup.{text_of}
use Rattle.pp_model.specs.ReportFacts.{is_counted}
use Rattle.pp_model.specs.Rules.{NoRuleFails}
use Rattle.pp_model.specs.Sizes.{IsCountable}
use Rattle.pp_units.specs.Shown.{Shown}
use Rattle.pp_count.specs.Matches.{matches_of}
use Rattle.pp_pattern.specs.Report.{Finds}
use Rattle.pp_tables.specs.Encode.{encode}
use Rattle.pp_count.specs.Column.{column_of, column_at, column_named, default_column, first_else, last_of, type_named}
use Rattle.pp_report.specs.declared.refusal.ReportRefusal.{ReportRefusal}
use Rattle.pp_report.specs.Heads.{wanted_unit, unit_text}
use Rattle.pp_report.specs.Notes.{note_unless, notes_by}
use Rattle.pp_report.specs.Patterns.{report_finders}
use Rattle.pp_report.specs.Prepared.{Showing, Settled, in_column, in_unit, prepare, prepare_on, prepare_showing, settled_of, showing_for}
use Rattle.pp_report.specs.Reports.{Reported, finish, finish_on, report_script, report_settled, reported_with, text_by}
use Rattle.pp_report.specs.SavedText.{IsProtoBy}
use Rattle.pp_report.specs.Tagged.{basis_of}
use Rattle.pp_report.proofs.PreparingLemmas.{showing_counts}
use Rattle.pp_report.proofs.TypesLemmas.{same_column}
use Rattle.pp_saved.specs.Headed.{headed_figures}
use Rattle.pp_saved.specs.Premises.{CanSave, CountsFiltered, HasFiltersOf, IsSource, unfiltered}
use Rattle.pp_saved.specs.SavedBytes.{AllTaken, IsSavedText, ReportsAlike, SavedBytes, outcome_over, report_figures}
use Rattle.pp_saved.specs.SavedReports.{IsPlain, IsSavedOf, NamesNoKey, ReportAlike, saved_by}
use Rattle.pp_saved.specs.StaysSaved.{stays_saved}
use Rattle.pp_saved.proofs.SavedReports.{figures_are, on_staying, plain_basis, saved_reports, types_are}
use Rattle.pp_saved.proofs.SavedSizes.{saved_sizes}
use Rattle.pp_saved.proofs.Taken.{GivesTaken, gives_counts, taken_course, taken_then}

-- ---- the column that is asked for is one of the profile

module _ (n : ℕ) where
  -- a place that was found below n
  place_below : (k c : ℕ) (b : Bool) → nat_lt k n ≡ b → cond b (Some k) None ≡ Some c → c < n
  place_below k c true less is = subst (λ m. m < n) (same_Some k c is) (ltb-true k n less)
  place_below k c false less is = absurd (none-some c is)

  last_below : (b : Bool) → (n == 0) ≡ b → MatchOption (if b then None else Some (n - 1)) ⊤ (λ c. c < n)
  last_below true none = tt
  last_below false some = let positive = eqb-false n 0 some in omega (arith, positive)

  first_below : (o : Option ℕ) → ((c : ℕ) → o ≡ Some c → c < n) → MatchOption (first_else o (last_of n)) ⊤ (λ c. c < n)
  first_below (Some c) known = known c refl
  first_below None known = last_below (n == 0) refl

  -- a place that was asked for
  asked_below : (o : Option ℕ) → ((c : ℕ) → o ≡ Some c → c < n) → (column : Option ℕ) → option_map Some o ≡ Some column → MatchOption column ⊤ (λ c. c < n)
  asked_below None known column is = absurd (none-some column is)
  asked_below (Some c) known column is = subst (λ (o : Option ℕ). MatchOption o ⊤ (λ c. c < n)) (same_Some (Some c) column is) (known c refl)

module _ (p : Profile) where
  named_below : (name : List ℕ) (c : ℕ) → type_named p name ≡ Some c → c < length p.sample_type
  named_below name c = by (length name == 0)
    where
      by : (b : Bool) → (if b then None else position (λ t. bytes_eq (text_of p t.kind) name) p.sample_type) ≡ Some c → c < length p.sample_type
      by true is = absurd (none-some c is)
      by false is =
          let k : ℕ = prefix_len (λ t. not (bytes_eq (text_of p t.kind) name)) p.sample_type in
          place_below (length p.sample_type) k c (nat_lt k (length p.sample_type)) refl is

  column_below : (text : List ℕ) (c : ℕ) → column_named p text ≡ Some c → c < length p.sample_type
  column_below text c = by (list_all is_ascii_digit text)
    where
      by : (b : Bool) → (if b then column_at p text else type_named p text) ≡ Some c → c < length p.sample_type
      by true is = place_below (length p.sample_type) (digits_value 10 text) c (nat_lt (digits_value 10 text) (length p.sample_type)) refl is
      by false is = named_below text c is

  column_bound : (text : List ℕ) (column : Option ℕ) → column_of p text ≡ Some column → IsColumnOf p column
  column_bound [] column is =
      subst (IsColumnOf p) (same_Some (default_column p) column is)
      (first_below (length p.sample_type) (type_named p (text_of p p.default_sample_type)) (named_below (text_of p p.default_sample_type)))
  column_bound (b ∷ text) column is = asked_below (length p.sample_type) (column_named p (b ∷ text)) (column_below (b ∷ text)) column is

  module _ (presentation : Presentation) (s : Showing) where
    unit_bound : (column : Option ℕ) (wanted : Option (Option Shown)) → IsColumnOf p column → in_unit column wanted ≡ Ok s → IsColumnOf p s.column
    unit_bound column None bound is = absurd cc
    unit_bound column (Some wanted) bound is =
        let same : ◌≡◌ {A = Showing} (record { column = column; wanted = wanted }) s = cc in subst (λ (t : Showing). IsColumnOf p t.column) same bound

    in_bound : (o : Option (Option ℕ)) → ((column : Option ℕ) → o ≡ Some column → IsColumnOf p column) → in_column p presentation o ≡ Ok s → IsColumnOf p s.column
    in_bound None known is = absurd cc
    in_bound (Some column) known is = unit_bound column (wanted_unit presentation.unit (unit_text p column)) (known column refl) is

    values_bound : in_column p presentation (column_of p presentation.sample_index) ≡ Ok s → IsColumnOf p s.column
    values_bound = in_bound (column_of p presentation.sample_index) (column_bound presentation.sample_index)

    -- what a report shows that stays
    showing_bound : (report : Report) → stays_saved report ≡ true → showing_for report p presentation ≡ Ok s → IsColumnOf p s.column
    showing_bound report stays = on_staying (λ r. showing_for r p presentation ≡ Ok s → IsColumnOf p s.column) values_bound values_bound (λ pattern. values_bound) values_bound values_bound report stays

-- ---- what a report comes to, where no pattern is refused

-- its text is made by no step
made_at_once : (finds : Finds) (l : Loaded) (report : Report) (config : Config) → stays_saved report ≡ true → (base : Option BaseKind) (s : Showing)
    → (x : Result (List ℕ) ReportRefusal) × GivesTaken (finish finds l base report config s) x
unfolding finish_on text_by
made_at_once finds l report config stays base s =
    on_staying (λ r. (x : Result (List ℕ) ReportRefusal) × GivesTaken (finish finds l base r config s) x) (_, refl) (_, refl) (λ pattern. (_, refl)) (_, refl) (_, refl) report stays

-- it is counted
staying_counted : (report : Report) → stays_saved report ≡ true → is_counted report ≡ true
staying_counted report stays = on_staying (λ r. is_counted r ≡ true) refl refl (λ pattern. refl) refl refl report stays

module _ (finds : Finds) (l : Loaded) (report : Report) (config : Config) (counted : is_counted report ≡ true) (base : Option BaseKind) where
  abbrev over : Loaded
  over = basis_of report l config.presentation

  -- refused for its column or its unit
  refused_taken : (e : ReportRefusal) → showing_for report over.profile config.presentation ≡ Err e → GivesTaken (report_script finds l base report config) (reported_with [] (Err e))
  unfolding report_script report_settled prepare_on
  refused_taken e known =
      taken_then (prepare finds l report config) (report_settled finds l base report config) (Err e) (reported_with [] (Err e))
      (subst (λ k. GivesTaken (go_on (prepare_showing finds over report config.filtering) k) (Err e)) (sym known) refl) refl

  -- or made of what it shows
  made_taken : (s : Showing) (x : Result (List ℕ) ReportRefusal) → showing_for report over.profile config.presentation ≡ Ok s → GivesTaken (finish finds l base report config s) x
      → GivesTaken (report_script finds l base report config) (reported_with (settled_of finds over report config.filtering s).notes x)
  unfolding report_script report_settled prepare_on
  made_taken s x known made =
      let settled : Settled = settled_of finds over report config.filtering s in
      taken_then (prepare finds l report config) (report_settled finds l base report config) (Ok settled) (reported_with settled.notes x)
      (subst (λ k. GivesTaken (go_on (prepare_showing finds over report config.filtering) k) (Ok settled)) (sym known)
      (subst (λ script. GivesTaken script (Ok settled)) (sym (showing_counts finds over report config s counted)) (gives_counts finds over report config.filtering s)))
      (taken_then (finish finds l base report config s) (λ outcome. Give (reported_with settled.notes outcome)) x (reported_with settled.notes x) made refl)

  module _ (files : FileMap) (answers : List Answer) (taken : AllTaken answers) where
    comes_to : (notes : List ℕ) (x : Result (List ℕ) ReportRefusal) → GivesTaken (report_script finds l base report config) (reported_with notes x)
        → outcome_over finds l base report config files answers ≡ x
    comes_to notes x gives = ap (λ (r : Reported). r.outcome) (taken_course (report_script finds l base report config) (reported_with notes x) files [] [] answers taken gives)

-- a proto report comes to the bytes of what is saved, where no frames are made from labels
pub proto_taken : (finds : Finds) (l : Loaded) (base : Option BaseKind) (config : Config) → NamesNoKey config.presentation
    → (notes : List ℕ) × GivesTaken (report_script finds l base reports.Proto config) (reported_with notes (Ok (encode (saved_by finds l config.filtering))))
unfolding finish_on text_by
proto_taken finds l base config keyless =
    let shown : Showing = record { column = None; wanted = None } in
    let over : Loaded = basis_of reports.Proto l config.presentation in
    let notes : List ℕ = (settled_of finds over reports.Proto config.filtering shown).notes in (
      notes,
      subst (λ (q : Loaded). GivesTaken (report_script finds l base reports.Proto config) (reported_with notes (Ok (encode (saved_by finds q config.filtering))))) (plain_basis reports.Proto l config.presentation keyless)
          (made_taken finds l reports.Proto config refl base shown (Ok (encode (saved_by finds over config.filtering))) refl refl),
    )

-- ---- a saved profile and the one that it was saved of

-- Both scripts come to one outcome, where each pattern is taken: the first without notes, and the second with some.
pub record ComeToOne (first second : Script Reported) : Type 0 where
  pub notes : List ℕ
  pub outcome : Result (List ℕ) ReportRefusal
  pub silent : GivesTaken first (reported_with [] outcome)
  pub noted : GivesTaken second (reported_with notes outcome)

-- without filters there are no notes
unfiltered_silent : (c : Config) (matched : List Bool) → notes_by (unfiltered c).filtering matched ≡ []
unfolding notes_by note_unless
unfiltered_silent c matched = refl

module _ (finds : Finds) (l r : Loaded) (c : Config) (can : CanSave l.profile c.presentation) (is : IsSavedOf finds l c.filtering r) where
  abbrev d : Config
  d = unfiltered c

  figures_alike : (report : Report) → report_figures finds r report d ≡ report_figures finds l report c
  figures_alike report =
      ap (option_map (headed_figures r.profile (report_finders finds r report d.filtering) d)) (same_column l.profile r.profile (types_are finds l r report c can is) c.presentation.sample_index)
      ∙ by (column_of l.profile c.presentation.sample_index) (column_bound l.profile c.presentation.sample_index)
    where
      by : (o : Option (Option ℕ)) → ((column : Option ℕ) → o ≡ Some column → IsColumnOf l.profile column)
          → option_map (headed_figures r.profile (report_finders finds r report d.filtering) d) o ≡ option_map (headed_figures l.profile (report_finders finds l report c.filtering) c) o
      by None known = refl
      by (Some column) known = ap Some (figures_are finds l r report c can is column (known column refl) None)

  module _ (plain : IsPlain c.presentation) (report : Report) (stays : stays_saved report ≡ true) (base other : Option BaseKind) where
    alike : ReportAlike finds l r report c d
    alike = saved_reports finds l r report c stays can plain is

    -- what is shown is known of the profile that a report is made of
    own : (known : Result Showing ReportRefusal) → showing_for report l.profile c.presentation ≡ known → showing_for report (basis_of report l c.presentation).profile c.presentation ≡ known
    own known shows = ap (λ (q : Loaded). showing_for report q.profile c.presentation) (plain_basis report l c.presentation plain.keyless) ∙ shows

    saved_own : (known : Result Showing ReportRefusal) → showing_for report l.profile c.presentation ≡ known → showing_for report (basis_of report r d.presentation).profile d.presentation ≡ known
    saved_own known shows =
        ap (λ (q : Loaded). showing_for report q.profile d.presentation) (plain_basis report r d.presentation (record { roots = plain.keyless.roots; leaves = plain.keyless.leaves }))
        ∙ alike.shows ∙ shows

    one_outcome : (known : Result Showing ReportRefusal) → showing_for report l.profile c.presentation ≡ known → ComeToOne (report_script finds r other report d) (report_script finds l base report c)
    one_outcome (Err e) shows =
        let count = staying_counted report stays in
        record {
          notes = [];
          outcome = Err e;
          silent = refused_taken finds r report d count other e (saved_own (Err e) shows);
          noted = refused_taken finds l report c count base e (own (Err e) shows);
        }
    one_outcome (Ok s) shows =
        let count = staying_counted report stays in
        let made = made_at_once finds l report c stays base s in
        let theirs : GivesTaken (finish finds r other report d s) made.0 =
        subst (λ script. GivesTaken script made.0) (sym (alike.comes_to s (showing_bound l.profile c.presentation s report stays shows) base other)) made.1 in
        record {
          notes = (settled_of finds (basis_of report l c.presentation) report c.filtering s).notes;
          outcome = made.0;
          silent = subst (λ notes. GivesTaken (report_script finds r other report d) (reported_with notes made.0)) (unfiltered_silent c (matches_of (basis_of report r d.presentation).profile (report_finders finds (basis_of report r d.presentation) report d.filtering) d.filtering))
              (made_taken finds r report d count other s made.0 (saved_own (Ok s) shows) theirs);
          noted = made_taken finds l report c count base s made.0 (own (Ok s) shows) made.1;
        }

    -- Both come to one outcome.
    pub both : ComeToOne (report_script finds r other report d) (report_script finds l base report c)
    both = one_outcome (showing_for report l.profile c.presentation) refl

  -- They report alike.
  reports_alike : IsPlain c.presentation → ReportsAlike finds l r c
  reports_alike plain = record {
    figures = figures_alike;
    texts = λ report stays base other files answers others taken others_taken.
        let one = both plain report stays base other in
        let count = staying_counted report stays in
        comes_to finds r report d count other files others others_taken [] one.outcome one.silent
        ∙ sym (comes_to finds l report c count base files answers taken one.notes one.outcome one.noted);
  }

-- the filters alone tell what is saved
pub saved_same : (finds : Finds) (l : Loaded) (config c : Config) → HasFiltersOf config c → saved_by finds l c.filtering ≡ saved_by finds l config.filtering
saved_same finds l config c has = ap (λ filtering. saved_by finds l (record config { filtering = filtering }).filtering) has

-- what holds of the loaded profile and of the configuration
pub can_save : (p : Profile) (c : Config) → NoRuleFails p → AllByRecursion (λ m. m.start < 2 ^ 64) p.mapping → IsSource p → CountsFiltered c.presentation → CanSave p c.presentation
can_save p c valid starts source counts = record {
  valid = valid;
  starts = starts;
  settled = source.settled;
  least = source.least;
  plain = source.plain;
  relative = counts.relative;
  divide_by = counts.divide_by;
}

-- All of it, as it was written.
proto_text : (finds : Finds) (l : Loaded) (config : Config) (text : List ℕ) → IsCountable l.profile → IsProtoBy finds l config.filtering text → IsSavedText finds l config text
proto_text finds l config text countable is = record {
  bytes = is.bytes;
  again = is.again;
  lasts = is.lasts;
  sums = λ column within.
      omega (arith, saved_sizes l.profile (report_finders finds l reports.Proto config.filtering) config.filtering column is.valid within, countable.sums column within);
  reports = λ source c has counts plain r saved.
      reports_alike finds l r c (can_save l.profile c is.valid is.starts source counts)
      (record { profile = saved.profile ∙ sym (saved_same finds l config c has); drop = saved.drop; keep = saved.keep }) plain;
}

-- The text of a proto report, where no frames are made from labels.
pub saved_bytes : SavedBytes
saved_bytes finds l config text countable keyless is =
    proto_text finds l config text countable (subst (λ (q : Loaded). IsProtoBy finds q config.filtering text) (plain_basis reports.Proto l config.presentation keyless) is)
