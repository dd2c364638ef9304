-- What the writers of reports ask for, and what they leave.
use Rattle.std.proofs.Common.{◌≡◌, ℕ, Bool, true, false, List, [], ◌++◌, refl, sym, ap, ◌∙◌, subst}
use Rattle.std.specs.Prelude.{Option, Some, None, Result, Ok, Err, IfOk, unwrap_or, if◌then◌else◌}
use Rattle.pp_base.specs.declared.memory.Memory.{Memory}
use Rattle.pp_desk.specs.declared.stop.Stop.{Stop}
use Rattle.pp_desk.specs.Script.{Script, Give, Make, ◌>>=◌}
use Rattle.pp_desk.specs.Went.{Went}
use Rattle.pp_desk.specs.World.{World}
use Rattle.pp_desk.proofs.Going.{gives, wants, goes_give, stops_first}
use Rattle.pp_model.specs.declared.config.Config.{Config}
use Rattle.pp_model.specs.declared.loaded.Loaded.{Loaded}
use Rattle.pp_model.specs.declared.profile.Profile.{Profile}
use Rattle.pp_model.specs.declared.report.BaseKind.{BaseKind}
use Rattle.pp_model.specs.declared.report.Report.{Report}
use Rattle.pp_model.specs.declared.report.Report.TheVariants as reports
use Rattle.pp_model.specs.Finders.{Finders}
use Rattle.pp_units.specs.Head.{Facts}
use Rattle.pp_tables.specs.Encode.{encode}
use Rattle.pp_pattern.specs.Report.{Finds}
use Rattle.pp_source.specs.declared.refusal.ListRefusal.{ListRefusal}
use Rattle.pp_source.specs.Listing.{with_report, added_report}
use Rattle.pp_samples.specs.Comments.{comments_text}
use Rattle.pp_dump.specs.Saved.{saved}
use Rattle.pp_report.specs.declared.prepared.Counts.{Counts}
use Rattle.pp_report.specs.declared.prepared.Prepared.{Prepared}
use Rattle.pp_report.specs.declared.refusal.ReportRefusal.{ReportRefusal}
use Rattle.pp_report.specs.declared.refusal.ReportRefusal.TheVariants.{NoBase, NoMatch}
use Rattle.pp_report.specs.Base.{lacks_base}
use Rattle.pp_report.specs.Patterns.{report_finders}
use Rattle.pp_report.specs.Prepared.{Showing, showing, AreCounts, HasCounts, IsPrepared}
use Rattle.pp_report.specs.SavedText.{IsProtoOf}
use Rattle.pp_report.specs.Tagged.{basis_of}
use Rattle.pp_report.specs.Reports.{of_found, finish, finish_made, finish_on, finish_by, text_by, answer_of_text, answer_of_outcome}
use Rattle.pp_report.proofs.PreparingLemmas.{uncounted_comments}

-- what was written into an empty text
pub made_text : (new old text : List ℕ) → old ≡ [] → new ≡ old ++ text → new ≡ text
made_text new old text empty is = is ∙ ap (λ front. front ++ text) empty

-- the answer to a list report that was written
abbrev pub of_ended : List ℕ → Result (Unit {0}) ListRefusal → Result (List ℕ) ReportRefusal
of_ended out (Ok done) = Ok out
of_ended out (Err refusal) = Err NoMatch

-- scripts in a row, grouped either way
scripts_grouped : {A B C : Type 0} (s : Script A) (f : A → Script B) (g : B → Script C) → ((s >>= f) >>= g) ≡ (s >>= (λ x. f x >>= g))
unfolding ◌>>=◌
scripts_grouped (Give x) f g = refl
scripts_grouped (Make step script) f g = λ i. Make step (λ reply. scripts_grouped (script reply) f g i)

-- what a list report comes to, by what was written
abbrev outcome_by : List ℕ × Result (Unit {0}) ListRefusal → Result (List ℕ) ReportRefusal
outcome_by written = of_ended written.0 written.1

module _ (script : Script (Option (List ℕ))) where
  by_report : (report : Option (List ℕ)) → ◌≡◌ {A = Script (Result (List ℕ) ReportRefusal)} (Give (with_report [] report) >>= (λ written. Give (outcome_by written))) (Give (of_found report))
  unfolding ◌>>=◌
  by_report None = refl
  by_report (Some text) = refl

  -- the outcome is that of what is added to an empty text
  list_is : (added_report [] script >>= (λ written. Give (outcome_by written))) ≡ (script >>= (λ report. Give (of_found report)))
  unfolding added_report
  list_is =
      scripts_grouped script (λ report. Give (with_report [] report)) (λ written. Give (outcome_by written))
      ∙ ap (λ next. script >>= next) (λ i report. by_report report i)

  module _ (a b : World) (before : List ℕ) (empty : before ≡ []) where
    -- the list report was stopped
    pub list_stopped : (s : Stop) → Went a b (added_report before script) (Err s) → Went a b (script >>= (λ report. Give (of_found report))) (Err s)
    list_stopped s went =
        subst (λ x. Went a b x (Err s)) list_is
        (stops_first a b (added_report [] script) (λ written. Give (outcome_by written)) s (subst (λ front. Went a b (added_report front script) (Err s)) empty went))

    -- it was written, or found nothing
    pub list_written : (out : List ℕ) (ended : Result (Unit {0}) ListRefusal) → Went a b (added_report before script) (Ok (out, ended))
        → Went a b (script >>= (λ report. Give (of_found report))) (Ok (of_ended out ended))
    list_written out ended went =
        subst (λ x. Went a b x (Ok (of_ended out ended))) list_is
        (goes_give a b (added_report [] script) (λ written. Give (outcome_by written)) (out, ended) (of_ended out ended)
        (subst (λ front. Went a b (added_report front script) (Ok (out, ended))) empty went) refl)

module _ (finds : Finds) (l : Loaded) (report : Report) (config : Config) where
  -- a comments report has counted nothing
  finish_comments : (w : World) (s : Showing) (text : List ℕ) → report ≡ reports.Comments → text ≡ comments_text l.profile
      → Went w w (finish_on finds l report config s) (Ok (Ok text))
  unfolding finish_on text_by
  finish_comments w s text comments is =
      subst (λ r. Went {T = Result (List ℕ) ReportRefusal} w w (finish_by l.profile (report_finders finds l r config.filtering) config s r) (Ok (Ok text))) (sym comments)
      (subst (λ t. Went {T = Result (List ℕ) ReportRefusal} w w (Give (Ok (comments_text l.profile))) (Ok (Ok t))) (sym is) (gives w (Ok (comments_text l.profile))))

  -- what was counted, where something was
  counts_at : (column : Option ℕ) (all : Option Counts) (counts : Counts) → all ≡ Some counts → HasCounts finds l report config column all
      → AreCounts finds l report config column counts
  counts_at column all counts is has = subst (λ c. HasCounts finds l report config column c) is has

  -- a report without counts is one of comments
  is_comments : (column : Option ℕ) (all : Option Counts) → all ≡ None → HasCounts finds l report config column all → report ≡ reports.Comments
  is_comments column all is has = uncounted_comments report (subst (λ c. HasCounts finds l report config column c) is has)

module _ (finds : Finds) (l : Loaded) (base : Option BaseKind) (report : Report) (config : Config) (s : Showing) (a b : World) where
  by_lack : (lacks : Bool) → lacks_base base l.profile report ≡ lacks → (r : Result (Result (List ℕ) ReportRefusal) Stop)
      → Went a b (if lacks then Give (Err NoBase) else finish_made finds l report config s) r → Went a b (finish finds l base report config s) r
  by_lack lacks is r went = subst (λ (no : Bool). Went a b (if no then Give (Err NoBase) else finish_made finds l report config s) r) (sym is) went

-- a report that lacks its base is refused
pub finish_lacks : (finds : Finds) (l : Loaded) (base : Option BaseKind) (report : Report) (config : Config) (s : Showing) (w : World) → lacks_base base l.profile report ≡ true
    → Went {T = Result (List ℕ) ReportRefusal} w w (finish finds l base report config s) (Ok (Err NoBase))
finish_lacks finds l base report config s w lacks = by_lack finds l base report config s w w true lacks (Ok (Err NoBase)) (gives w (Err NoBase))

module _ (finds : Finds) (l : Loaded) (report : Report) (config : Config) (prepared : Prepared) (is : IsPrepared finds l report config prepared)
    (over : Loaded) (made_of : over ≡ unwrap_or prepared.tagged l) where
  pub over_basis : over ≡ basis_of report l config.presentation
  over_basis = made_of ∙ is.basis

  -- what was counted is of the profile that the report is made of
  pub counts_over : (counts : Counts) → prepared.counts ≡ Some counts → AreCounts finds over report config prepared.shows.column counts
  counts_over counts some =
      subst (λ q. AreCounts finds q report config prepared.shows.column counts) (sym over_basis)
      (counts_at finds (basis_of report l config.presentation) report config prepared.shows.column prepared.counts counts some is.settled.has_counts)

  module _ (base : Option BaseKind) (a b : World) (has : lacks_base base l.profile report ≡ false) where
    -- how its text went is how the report went
    pub finish_over : (r : Result (Result (List ℕ) ReportRefusal) Stop) → Went a b (finish_on finds over report config (showing prepared.shows)) r
        → Went a b (finish finds l base report config (showing prepared.shows)) r
    finish_over r went =
        by_lack finds l base report config (showing prepared.shows) a b false has r
        (subst (λ q. Went a b (finish_on finds q report config (showing prepared.shows)) r) over_basis went)

  module _ (none : prepared.counts ≡ None) (base : Option BaseKind) (w : World) (has : lacks_base base l.profile report ≡ false) where
    comments_report : report ≡ reports.Comments
    comments_report = is_comments finds (basis_of report l config.presentation) report config prepared.shows.column prepared.counts none is.settled.has_counts

    by_comments : (text : Result (List ℕ) Memory) → IfOk text (λ t. t ≡ comments_text over.profile) → Went w w (finish_on finds over report config (showing prepared.shows)) (answer_of_text text)
    by_comments (Ok text) made = finish_comments finds over report config w (showing prepared.shows) text comments_report made
    by_comments (Err e) made = wants w _

    -- nothing was counted of a report that is one of comments
    pub finish_uncounted : (text : Result (List ℕ) Memory) (r : Result (Result (List ℕ) ReportRefusal) Stop) → IfOk text (λ t. t ≡ comments_text over.profile)
        → r ≡ answer_of_text text → Went w w (finish finds l base report config (showing prepared.shows)) r
    finish_uncounted text r made answer = finish_over base w w has r (subst (λ x. Went w w (finish_on finds over report config (showing prepared.shows)) x) (sym answer) (by_comments text made))

-- the text of a saved profile
module _ (w : World) (p : Profile) (f : Finders) (config : Config) (column : Option ℕ) (h : Facts) where
  saved_gives : (text : Result (List ℕ) Memory) → IfOk text (IsProtoOf p f config.filtering) → Went w w (text_by p f config column h reports.Proto) (answer_of_text text)
  unfolding text_by
  saved_gives (Ok text) is =
      subst (λ t. Went {T = Result (List ℕ) ReportRefusal} w w (Give (Ok (encode (saved p f config.filtering)))) (Ok (Ok t))) (sym is.bytes) (gives w (Ok (encode (saved p f config.filtering))))
  saved_gives (Err e) is = wants w _

  pub finish_proto : (report : Report) (text : Result (List ℕ) Memory) (r : Result (Result (List ℕ) ReportRefusal) Stop) → report ≡ reports.Proto
      → r ≡ answer_of_text text → IfOk text (IsProtoOf p f config.filtering) → Went w w (text_by p f config column h report) r
  finish_proto report text r proto made is =
      subst (λ x. Went w w (text_by p f config column h x) r) (sym proto) (subst (λ x. Went w w (text_by p f config column h reports.Proto) x) (sym made) (saved_gives text is))

-- a report that reads no file gives what it comes to, whatever the outside
pub text_gives : (w : World) (wanted : List ℕ) (text : Result (List ℕ) Memory) → IfOk text (λ t. t ≡ wanted)
    → Went {T = Result (List ℕ) ReportRefusal} w w (Give (Ok wanted)) (answer_of_text text)
text_gives w wanted (Ok text) is = subst (λ t. Went {T = Result (List ℕ) ReportRefusal} w w (Give (Ok t)) (Ok (Ok text))) is (gives w (Ok text))
text_gives w wanted (Err e) is = wants w _

pub outcome_gives : (w : World) (wanted : Result (List ℕ) ReportRefusal) (outcome : Result (Result (List ℕ) ReportRefusal) Memory) → IfOk outcome (λ o. o ≡ wanted)
    → Went w w (Give wanted) (answer_of_outcome outcome)
outcome_gives w wanted (Ok outcome) is = subst (λ o. Went w w (Give o) (Ok outcome)) is (gives w outcome)
outcome_gives w wanted (Err e) is = wants w _

-- what search needs for the texts of reports
pub ruleset answering = (text_gives, outcome_gives)
