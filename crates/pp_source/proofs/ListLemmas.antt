-- The routines of a report, one after another, and the report.
use Rattle.std.proofs.Common.{◌≡◌, ℕ, ◌+◌, List, [], ◌∷◌, ◌++◌, length, drop, flat_map, Option, Some, None, refl, sym, ap, ◌∙◌, subst, append_assoc, arith}
use Rattle.std.specs.Prelude.{Bool, true, false, Result, Ok, Err, if◌then◌else◌}
use Rattle.std.proofs.lemmas.List.{drop-drop}
use Rattle.std.proofs.Math.Seq.{drop-append_seam}
use Rattle.pp_desk.specs.declared.stop.Stop.{Stop}
use Rattle.pp_desk.specs.declared.stop.Stop.TheVariants as stops
use Rattle.pp_desk.specs.World.{World}
use Rattle.pp_desk.specs.Script.{Script, Give}
use Rattle.pp_desk.specs.Went.{Went}
use Rattle.pp_desk.proofs.Going.{gives, wants, stops_first, goes_second, goes_give}
use Rattle.std.specs.List.{list_any}
use Rattle.pp_model.specs.Finders.{Finders}
use Rattle.pp_model.specs.FrameTexts.{Written}
use Rattle.pp_count.specs.Counted.{finds_own}
use Rattle.pp_units.specs.Head.{Facts}
use Rattle.pp_count.specs.Sums.{Seen}
use Rattle.pp_source.specs.declared.lines.FoundLine.{FoundLine}
use Rattle.pp_source.specs.declared.refusal.ListRefusal.{ListRefusal}
use Rattle.pp_source.specs.declared.source.FileSource.{FileSource}
use Rattle.pp_source.specs.Ledgers.{lines_texts}
use Rattle.pp_source.specs.Listing.{added_report, list_found, list_lines, with_report}
use Rattle.pp_source.specs.Routines.{found_lines, runs}
use Rattle.pp_source.proofs.Matching.{is_some_item, match_is}
use Rattle.pp_source.specs.SourceText.{file_of, routine_text}
use Rattle.pp_model.specs.declared.environment.Environment.{Environment}

-- what is left after the first part of what was left
pub left_after : (lines : List FoundLine) (start : ℕ) (first rest left : List FoundLine) → left ≡ drop start lines → left ≡ first ++ rest → drop (start + length first) lines ≡ rest
left_after lines start first rest left lent parts = sym (drop-drop (length first) start lines) ∙ ap (drop (length first)) (sym lent ∙ parts) ∙ drop-append_seam first rest

-- one more routine
pub routine_goes : (samples : List (Seen Written)) (h : Facts) (source : List ℕ → FileSource) (same : Written → Written → Bool) (lines first rest : List Written) (whole before out new : List ℕ)
    → runs same lines ≡ first ∷ runs same rest → new ≡ out ++ routine_text samples h (source (file_of first)) first
    → out ++ flat_map (λ ls. routine_text samples h (source (file_of ls)) ls) (runs same lines) ≡ before ++ whole
    → new ++ flat_map (λ ls. routine_text samples h (source (file_of ls)) ls) (runs same rest) ≡ before ++ whole
routine_goes samples h source same lines first rest whole before out new cut written so_far =
    ap (λ o. o ++ flat_map (λ ls. routine_text samples h (source (file_of ls)) ls) (runs same rest)) written
    ∙ append_assoc out (routine_text samples h (source (file_of first)) first) (flat_map (λ ls. routine_text samples h (source (file_of ls)) ls) (runs same rest))
    ∙ ap (λ rs. out ++ flat_map (λ ls. routine_text samples h (source (file_of ls)) ls) rs) (sym cut) ∙ so_far

-- The whole report, where a function is found.
pub report_found : (environment : Environment) (samples : List (Seen Written)) (h : Facts) (lines : List Written) (found : Bool) (a b : World) (text : List ℕ) → found ≡ true
    → Went a b (list_lines environment samples h lines) (Ok text) → Went a b (if found then list_found environment samples h lines else Give None) (Ok (Some text))
unfolding list_found
report_found environment samples h lines found a b text is went =
    subst (λ f. Went a b (if f then list_found environment samples h lines else Give None) (Ok (Some text))) (sym is) (goes_give a b (list_lines environment samples h lines) _ text (Some text) went refl)

pub report_stopped : (environment : Environment) (samples : List (Seen Written)) (h : Facts) (lines : List Written) (found : Bool) (a b : World) (stop : Stop) → found ≡ true
    → Went a b (list_lines environment samples h lines) (Err stop) → Went {T = Option (List ℕ)} a b (if found then list_found environment samples h lines else Give None) (Err stop)
unfolding list_found
report_stopped environment samples h lines found a b stop is went =
    subst (λ f. Went {T = Option (List ℕ)} a b (if f then list_found environment samples h lines else Give None) (Err stop)) (sym is) (stops_first a b (list_lines environment samples h lines) _ stop went)

-- nothing is found, and nothing read
pub report_none : (environment : Environment) (samples : List (Seen Written)) (h : Facts) (lines : List Written) (found : Bool) (a : World) → found ≡ false
    → Went a a (if found then list_found environment samples h lines else Give None) (Ok None)
report_none environment samples h lines found a is =
    subst (λ f. Went a a (if f then list_found environment samples h lines else Give None) (Ok None)) (sym is) (gives a None)

-- a report that is added to a text, or none
pub added : (before : List ℕ) (script : Script (Option (List ℕ))) (a b : World) (text : Option (List ℕ)) (new : List ℕ × Result (Unit {0}) ListRefusal) → new ≡ with_report before text
    → Went a b script (Ok text) → Went a b (added_report before script) (Ok new)
unfolding added_report
added before script a b text new is went = goes_give a b script _ text new went (ap Give (sym is))

pub added_stopped : (before : List ℕ) (script : Script (Option (List ℕ))) (a b : World) (stop : Stop) → Went a b script (Err stop) → Went a b (added_report before script) (Err stop)
unfolding added_report
added_stopped before script a b stop went = stops_first a b script _ stop went

pub added_wants : (before : List ℕ) (script : Script (Option (List ℕ))) (a b : World) (text : Option (List ℕ)) → Went a b script (Ok text) → Went a b (added_report before script) (Err stops.Memory)
unfolding added_report
added_wants before script a b text went = goes_second a b b script _ text (Err stops.Memory) went (wants b _)

-- lines without an item stand for no found line
pub no_lines : (f : Finders) (samples : List (Seen Written)) (lines : List FoundLine) → lines_texts lines ≡ found_lines f samples → length lines ≡ 0
    → list_any (λ (s : Seen Written). list_any (finds_own f) s.keys) samples ≡ false
no_lines f samples [] are none = match_is f samples ∙ ap is_some_item (sym are)
no_lines f samples (line ∷ lines) are none = absurd (omega (arith, none))

-- and lines with one for some
pub some_lines : (f : Finders) (samples : List (Seen Written)) (lines : List FoundLine) → lines_texts lines ≡ found_lines f samples → (length lines ≡ 0 → ⊥)
    → list_any (λ (s : Seen Written). list_any (finds_own f) s.keys) samples ≡ true
some_lines f samples [] are some = absurd (some (omega arith))
some_lines f samples (line ∷ lines) are some = match_is f samples ∙ ap is_some_item (sym are)

-- The whole report, by the lines that it was made of.
module _ (environment : Environment) (samples : List (Seen Written)) (h : Facts) (made lines : List Written) (are : made ≡ lines) (found : Bool) (is : found ≡ true) (a b : World) where
  pub made_found : (text : List ℕ) → Went a b (list_lines environment samples h made) (Ok text) → Went a b (if found then list_found environment samples h lines else Give None) (Ok (Some text))
  made_found text went = report_found environment samples h lines found a b text is (subst (λ ls. Went a b (list_lines environment samples h ls) (Ok text)) are went)

  pub made_stopped : (stop : Stop) → Went a b (list_lines environment samples h made) (Err stop) → Went {T = Option (List ℕ)} a b (if found then list_found environment samples h lines else Give None) (Err stop)
  made_stopped stop went = report_stopped environment samples h lines found a b stop is (subst (λ ls. Went a b (list_lines environment samples h ls) (Err stop)) are went)

-- The report that is added, as it was given.
module _ (before : List ℕ) (script : Script (Option (List ℕ))) (a b : World) (given text : Option (List ℕ)) (is : given ≡ text) (went : Went a b script (Ok given)) where
  so_went : Went a b script (Ok text)
  so_went = subst (λ o. Went a b script (Ok o)) is went

  pub given_added : (new : List ℕ × Result (Unit {0}) ListRefusal) → new ≡ with_report before text → Went a b (added_report before script) (Ok new)
  given_added new added_is = added before script a b text new added_is so_went

  pub given_wants : Went a b (added_report before script) (Err stops.Memory)
  given_wants = added_wants before script a b text so_went
