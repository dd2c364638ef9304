-- How the stages went that settle what a report is made of.
use Rattle.std.proofs.Common.{◌≡◌, ℕ, Bool, true, false, List, [], append-nil, refl, sym, ap, ◌∙◌, subst}
use Rattle.std.specs.Prelude.{Result, Ok, Err, Option, Some, None, unwrap_or, if◌then◌else◌}
use Rattle.std.proofs.lemmas.Bool.{true≢false}
use Rattle.pp_base.specs.Front.{IsFront}
use Rattle.pp_desk.specs.declared.stop.Stop.{Stop}
use Rattle.pp_desk.specs.declared.stop.Stop.TheVariants as stops
use Rattle.pp_desk.specs.Asking.{go_on}
use Rattle.pp_desk.specs.Script.{Give}
use Rattle.pp_desk.specs.Went.{Went}
use Rattle.pp_desk.specs.World.{World}
use Rattle.pp_desk.proofs.AskingLemmas.{asking_stops, asking_refused, asking_second, asking_gives}
use Rattle.pp_desk.proofs.Going.{gives, wants}
use Rattle.pp_model.specs.declared.config.Config.{Config}
use Rattle.pp_model.specs.declared.loaded.Loaded.{Loaded}
use Rattle.pp_model.specs.declared.report.BaseKind.{BaseKind}
use Rattle.pp_model.specs.declared.report.Report.{Report}
use Rattle.pp_model.specs.declared.report.Report.TheVariants as reports
use Rattle.pp_model.specs.declared.verdicts.Verdicts.{Verdicts}
use Rattle.pp_model.specs.declared.filtering.Filtering.{Filtering}
use Rattle.pp_model.specs.declared.presentation.Presentation.{Presentation}
use Rattle.pp_model.specs.Conditions.{IsColumnOf}
use Rattle.pp_model.specs.Rules.{IsCompact}
use Rattle.pp_model.specs.Sizes.{IsCountable}
use Rattle.pp_pattern.specs.Report.{Finds, AreVerdictsOf}
use Rattle.pp_pseudo.specs.Basis.{framed_for}
use Rattle.pp_count.specs.declared.counted.Counted.{Counted}
use Rattle.pp_count.specs.Counted.{IsCountedOf}
use Rattle.pp_report.specs.declared.prepared.Counts.{Counts}
use Rattle.pp_report.specs.declared.prepared.Prepared.{Prepared}
use Rattle.pp_report.specs.declared.refusal.ReportRefusal.{ReportRefusal}
use Rattle.pp_report.specs.declared.shows.Shows.{Shows}
use Rattle.pp_report.specs.Notes.{notes_by}
use Rattle.pp_model.specs.ReportFacts.{own_pattern, is_counted}
use Rattle.pp_report.specs.Patterns.{report_finders, ask_patterns}
use Rattle.pp_report.specs.Prepared.{Settled, Showing, showing, settled_of, counts_settled, notes_of, prepare_on, prepare_counts, prepare_showing, AreCountsNoted, IsPrepared, showing_for}
use Rattle.pp_report.specs.Tagged.{basis_of}
use Rattle.pp_report.proofs.PatternLemmas.{report_holds, can_count}

module _ (finds : Finds) (l : Loaded) (report : Report) (filtering : Filtering) (s : Showing) (a b : World) where
  -- the patterns were stopped
  pub counts_stop : (stop : Stop) → Went a b (ask_patterns finds l report filtering) (Err stop)
      → Went a b (prepare_counts finds l report filtering s) (counts_settled s (Err stop))
  unfolding prepare_counts
  counts_stop stop went = asking_stops a b (ask_patterns finds l report filtering) _ stop went

  module _ (judged : Result Verdicts ReportRefusal) (went : Went a b (ask_patterns finds l report filtering) (Ok judged)) where
    -- one was refused
    pub counts_refused : (r : ReportRefusal) → judged ≡ Err r
        → Went a b (prepare_counts finds l report filtering s) (counts_settled s (Ok (Err r)))
    unfolding prepare_counts
    counts_refused r is =
        asking_refused a b (ask_patterns finds l report filtering) _ r (subst (λ j. Went a b (ask_patterns finds l report filtering) (Ok j)) is went)

    module _ (v : Verdicts) (is : judged ≡ Ok v) where
      asked : Went a b (ask_patterns finds l report filtering) (Ok (Ok v))
      asked = subst (λ j. Went a b (ask_patterns finds l report filtering) (Ok j)) is went

      -- memory was wanting after them
      pub counts_want : Went a b (prepare_counts finds l report filtering s) (counts_settled s (Err stops.Memory))
      unfolding prepare_counts
      counts_want = asking_second a b (ask_patterns finds l report filtering) _ b v (Err stops.Memory) asked (wants b _)

      -- all samples were counted
      pub counts_all : (made : Counts × List ℕ) → made.1 ≡ notes_of finds l report filtering
          → Went a b (prepare_counts finds l report filtering s) (counts_settled s (Ok (Ok made)))
      unfolding prepare_counts
      counts_all made notes =
          asking_second a b (ask_patterns finds l report filtering) _ b v (Ok (Ok (record { showing = s; notes = made.1 }))) asked
          (subst (λ text. Went {T = Result Settled ReportRefusal} b b (Give (Ok (settled_of finds l report filtering s))) (Ok (Ok (record { showing = s; notes = text })))) (sym notes)
          (asking_gives b (settled_of finds l report filtering s)))

-- what was counted by the verdicts of the report's patterns
pub all_counted : (finds : Finds) (l : Loaded) (report : Report) (config : Config) (column : Option ℕ) (v : Verdicts)
    → AreVerdictsOf finds config.filtering (own_pattern report) l v → IsCompact l.profile → IsCountable l.profile → IsColumnOf l.profile column
    → (counted : Counted) → IsCountedOf l v config column counted → (made : Counts × List ℕ)
    → made ≡ (record { verdicts = v; counted = counted }, notes_by config.filtering counted.matched.slots)
    → AreCountsNoted finds l report config column made
all_counted finds l report config column v are compact countable below counted sums made is =
    let holds = report_holds finds l report config.filtering v are compact in
    subst (AreCountsNoted finds l report config column) (sym is) (record {
      counts = record { holds = holds; can = can_count finds l report config.filtering v are column countable below; are = sums };
      notes = ap (notes_by config.filtering) (sums.matches (report_finders finds l report config.filtering) holds);
    })

-- a list is a front of itself
front_same : (a b : List ℕ) → a ≡ b → IsFront a b
front_same a b same = ([], sym same ∙ sym (append-nil a))

-- of all reports comments alone isn't counted
pub uncounted_comments : (report : Report) → is_counted report ≡ false → report ≡ reports.Comments
uncounted_comments reports.Top uncounted = absurd (true≢false uncounted)
uncounted_comments reports.Tree uncounted = absurd (true≢false uncounted)
uncounted_comments (reports.Peek pattern) uncounted = absurd (true≢false uncounted)
uncounted_comments reports.Traces uncounted = absurd (true≢false uncounted)
uncounted_comments reports.Tags uncounted = absurd (true≢false uncounted)
uncounted_comments reports.Raw uncounted = absurd (true≢false uncounted)
uncounted_comments reports.Comments uncounted = refl
uncounted_comments reports.Proto uncounted = absurd (true≢false uncounted)
uncounted_comments (reports.List pattern) uncounted = absurd (true≢false uncounted)
uncounted_comments reports.Folded uncounted = absurd (true≢false uncounted)
uncounted_comments reports.Table uncounted = absurd (true≢false uncounted)
uncounted_comments reports.Compare uncounted = absurd (true≢false uncounted)
uncounted_comments reports.Changes uncounted = absurd (true≢false uncounted)
uncounted_comments reports.Account uncounted = absurd (true≢false uncounted)

module _ (finds : Finds) (l : Loaded) (report : Report) (config : Config) where
  -- one that is asks for its patterns
  pub showing_counts : (s : Showing) → is_counted report ≡ true → prepare_showing finds l report config.filtering s ≡ prepare_counts finds l report config.filtering s
  unfolding prepare_showing
  showing_counts s counted =
      ap (λ (yes : Bool). if yes then prepare_counts finds l report config.filtering s else Give (Ok (record { showing = s; notes = [] }))) counted

  -- it is known what the report shows
  prepare_shown : (a b : World) (s : Showing) (answer : Result (Result Settled ReportRefusal) Stop) → Ok s ≡ showing_for report l.profile config.presentation
      → Went a b (prepare_showing finds l report config.filtering s) answer → Went a b (prepare_on finds l report config) answer
  unfolding prepare_on
  prepare_shown a b s answer known went = subst (λ k. Went a b (go_on (prepare_showing finds l report config.filtering) k) answer) known went

  -- it is refused at once
  pub prepare_refused : (w : World) (r : ReportRefusal) → Err r ≡ showing_for report l.profile config.presentation
      → Went w w (prepare_on finds l report config) (Ok (Err r))
  unfolding prepare_on
  prepare_refused w r known =
      subst (λ k. Went {T = Result Settled ReportRefusal} w w (go_on (prepare_showing finds l report config.filtering) k) (Ok (Err r))) known (gives w (Err r))

  -- one that isn't counted asks for nothing
  pub prepare_uncounted : (w : World) (s : Showing) → is_counted report ≡ false → Ok s ≡ showing_for report l.profile config.presentation
      → Went w w (prepare_on finds l report config) (Ok (Ok (record { showing = s; notes = [] })))
  unfolding prepare_showing
  prepare_uncounted w s uncounted known =
      let settled : Settled = record { showing = s; notes = [] } in
      prepare_shown w w s (Ok (Ok settled)) known
      (subst (λ (counted : Bool). Went {T = Result Settled ReportRefusal} w w (if counted then prepare_counts finds l report config.filtering s else Give (Ok settled)) (Ok (Ok settled))) (sym uncounted)
      (asking_gives w settled))

  -- one that is, over a profile that is this one
  pub prepare_counted : (over : Loaded) → over ≡ l → (a b : World) (s : Showing) (answer : Result (Result Settled ReportRefusal) Stop) → is_counted report ≡ true
      → Ok s ≡ showing_for report l.profile config.presentation → Went a b (prepare_counts finds over report config.filtering s) answer → Went a b (prepare_on finds l report config) answer
  prepare_counted over same a b s answer counted known went =
      prepare_shown a b s answer known
      (subst (λ script. Went a b script answer) (sym (showing_counts s counted)) (subst (λ q. Went a b (prepare_counts finds q report config.filtering s) answer) same went))

module _ (l : Loaded) (report : Report) (presentation : Presentation) where
  -- a report that counts no samples is made of the loaded profile
  pub basis_uncounted : is_counted report ≡ false → l ≡ basis_of report l presentation
  unfolding basis_of
  basis_uncounted uncounted = ap (λ (yes : Bool). if yes then framed_for l presentation else l) (sym uncounted)

  -- and one that counts them of the one with frames
  pub basis_counted : is_counted report ≡ true → framed_for l presentation ≡ basis_of report l presentation
  unfolding basis_of
  basis_counted counted = ap (λ (yes : Bool). if yes then framed_for l presentation else l) (sym counted)

module _ (finds : Finds) (l : Loaded) (report : Report) (config : Config) (known : Shows)
    (shows : Ok (showing known) ≡ showing_for report (basis_of report l config.presentation).profile config.presentation) (prepared : Prepared) where
  -- nothing was counted
  pub none_prepared : is_counted report ≡ false → (base : Option BaseKind) → prepared ≡ record { base = base; notes = []; shows = known; counts = None; tagged = None }
      → IsPrepared finds l report config prepared
  none_prepared uncounted base is = subst (IsPrepared finds l report config) (sym is) (record {
    basis = basis_uncounted l report config.presentation uncounted;
    settled = record {
      shows_what = sym shows;
      has_counts = uncounted;
      notes_front = (notes_of finds (basis_of report l config.presentation) report config.filtering, refl);
    };
  })

  -- all was counted over the profile that the report is made of
  pub counts_prepared : (over : Loaded) → over ≡ basis_of report l config.presentation → (tagged : Option Loaded) → over ≡ unwrap_or tagged l
      → (base : Option BaseKind) (made : Counts × List ℕ) → AreCountsNoted finds over report config known.column made
      → prepared ≡ record { base = base; notes = made.1; shows = known; counts = Some made.0; tagged = tagged }
      → IsPrepared finds l report config prepared
  counts_prepared over same tagged framed base made counted is =
      let own = subst (λ q. AreCountsNoted finds q report config known.column made) same counted in
      subst (IsPrepared finds l report config) (sym is) (record {
        basis = sym framed ∙ same;
        settled = record {
          shows_what = sym shows;
          has_counts = own.counts;
          notes_front = front_same made.1 (notes_of finds (basis_of report l config.presentation) report config.filtering) own.notes;
        };
      })
