-- The matches of ranges of samples, one after the other.
use Rattle.std.proofs.Common.{◌≡◌, ℕ, zero, suc, ◌+◌, ◌<◌, ◌≤◌, Bool, true, false, ◌||◌, List, [], ◌∷◌, ◌++◌, length, drop, get_or, map, All, Option, Some, None, refl, sym, ap, ◌∙◌, append_assoc, add-one, arith}
use Rattle.std.specs.List.{list_any}
use Rattle.std.specs.Option.{ForSome, option_map_or}
use Rattle.std.proofs.Math.Seq.{drop-nil}
use Rattle.std.proofs.lemmas.Bool.{false≢true}
use Rattle.std.proofs.lemmas.List.{append-nil, drop_all}
use Rattle.std.proofs.lemmas.List.Elements.{All-drop}
use Rattle.std.proofs.lemmas.List.Folds.{list_any-append, list_any_none}
use Rattle.pp_model.specs.declared.frame.Frame.{Frame}
use Rattle.pp_model.specs.declared.profile.Sample.{Sample}
use Rattle.pp_model.specs.declared.profile.Profile.{Profile}
use Rattle.pp_model.specs.declared.filtering.Filtering.{Filtering}
use Rattle.pp_model.specs.Conditions.{RefersTo}
use Rattle.pp_model.specs.Finders.{Finder, Finders}
use Rattle.pp_model.specs.Frames.{stack_of}
use Rattle.pp_model.specs.FrameTexts.{written}
use Rattle.pp_model.specs.Judged.{judged}
use Rattle.pp_model.specs.Rules.{IsCompact}
use Rattle.pp_model.proofs.FrameLemmas.{frames_of_profile}
use Rattle.pp_stack.specs.Filters.{AreVerdicts, finds_frame, is_prunable, load_pruned}
use Rattle.pp_stack.specs.Runs.{pruned_frames, pruned_len}
use Rattle.pp_stack.specs.declared.table.VerdictTable.{VerdictTable}
use Rattle.pp_stack.specs.Tables.{verdict_place, IsVerdictTable}
use Rattle.pp_tags.specs.TagFilters.{filter_in_force, selects_or}
use Rattle.pp_count.specs.declared.scope.Scope.{Scope}
use Rattle.pp_count.specs.Filters.{FindsNoFrame}
use Rattle.pp_count.specs.Matches.{stack_has, label_has, frame_match, key_match, matches_among, no_matches, either}
use Rattle.pp_count.specs.Scope.{profile_in_scope, config_of, HasMatches}

-- the slots that are left, with the next one apart
either_drop : (slots others : List Bool) (i : ℕ) (d : Bool) → i < length slots
    → either (drop i slots) (drop i others) ≡ (get_or slots i d || get_or others i false) ∷ either (drop (suc i) slots) (drop (suc i) others)
either_drop [] others i d here = absurd (omega (arith, here))
either_drop (a ∷ slots) others zero d here = refl
either_drop (a ∷ slots) [] (suc i) d here = ap (either (drop i slots)) (sym (drop-nil i)) ∙ either_drop slots [] i d (omega (arith, here))
either_drop (a ∷ slots) (b ∷ others) (suc i) d here = either_drop slots others i d (omega (arith, here))

-- one more slot
pub either_more : (slots others so_far : List Bool) (i : ℕ) (d : Bool) → i < length slots
    → either slots others ≡ so_far ++ either (drop i slots) (drop i others)
    → either slots others ≡ (so_far ++ (get_or slots i d || get_or others i false) ∷ []) ++ either (drop (i + 1) slots) (drop (i + 1) others)
either_more slots others so_far i d here is =
    is ∙ ap (λ rest. so_far ++ rest) (either_drop slots others i d here)
    ∙ ap (λ j. so_far ++ (get_or slots i d || get_or others i false) ∷ either (drop j slots) (drop j others)) (sym (add-one i))
    ∙ sym (append_assoc so_far ((get_or slots i d || get_or others i false) ∷ []) (either (drop (i + 1) slots) (drop (i + 1) others)))

-- past the last slot
pub either_all : (slots others so_far : List Bool) (i : ℕ) → length slots ≤ i
    → either slots others ≡ so_far ++ either (drop i slots) (drop i others) → so_far ≡ either slots others
either_all slots others so_far i past is =
    sym (is ∙ ap (λ xs. so_far ++ either xs (drop i others)) (drop_all i slots past) ∙ append-nil so_far)

none_at : (found : List Bool) → list_any (λ b. b) found ≡ false → (i : ℕ) → get_or found i false ≡ false
none_at [] none i = refl
none_at (true ∷ found) none i = absurd (false≢true (sym none))
none_at (false ∷ found) none zero = refl
none_at (false ∷ found) none (suc i) = none_at found none i

-- a table without a yes is that of a pattern that finds no frame
pub no_line : (p : Profile) (texts : List Bool) (table : VerdictTable) → IsVerdictTable p texts table → list_any (λ b. b) table.found ≡ false → FindsNoFrame p texts
no_line p texts table has none find are x is = sym ((has x is).is find are) ∙ none_at table.found none (verdict_place table x)

module _ (p : Profile) (f : Finders) where
  frame-append : (pattern : Option Finder) (a b : List Sample) → (frame_match p f pattern a || frame_match p f pattern b) ≡ frame_match p f pattern (a ++ b)
  frame-append None a b = refl
  frame-append (Some find) a b = sym (list_any-append (stack_has p f find) a b)

  key-append : (pattern : Option Finder) (a b : List Sample) → (key_match p pattern a || key_match p pattern b) ≡ key_match p pattern (a ++ b)
  key-append None a b = refl
  key-append (Some find) a b = sym (list_any-append (label_has p find) a b)

  frame-none : (pattern : Option Finder) → false ≡ frame_match p f pattern []
  frame-none None = refl
  frame-none (Some find) = refl

  key-none : (pattern : Option Finder) → false ≡ key_match p pattern []
  key-none None = refl
  key-none (Some find) = refl

  -- no samples have no matches
  pub none_match : (filtering : Filtering) → no_matches ≡ matches_among p f filtering []
  none_match filtering i =
      frame-none f.focus i ∷ frame-none f.ignore i ∷ frame-none f.hide i ∷ frame-none f.show i ∷ frame-none f.show_from i
      ∷ false ∷ false ∷ true ∷ key-none f.tagshow i ∷ key-none f.taghide i ∷ []

  -- the matches of two ranges are those of either
  pub either_match : (filtering : Filtering) (a b : List Sample) → either (matches_among p f filtering a) (matches_among p f filtering b) ≡ matches_among p f filtering (a ++ b)
  either_match filtering a b i =
      frame-append f.focus a b i ∷ frame-append f.ignore a b i ∷ frame-append f.hide a b i ∷ frame-append f.show a b i ∷ frame-append f.show_from a b i
      ∷ sym (list_any-append (selects_or false p (filter_in_force filtering.tagfocus) f.tagfocus) a b) i
      ∷ sym (list_any-append (selects_or false p (filter_in_force filtering.tagignore) f.tagignore) a b) i
      ∷ true ∷ key-append f.tagshow a b i ∷ key-append f.taghide a b i ∷ []

  -- a pattern that finds no frame of the profile finds none in its stacks
  frames_missed : (find : Finder) (stack : List Frame) → All (λ x. finds_frame find (written p x) ≡ false) stack
      → list_any (λ x. finds_frame find (written p x)) (load_pruned (written p) f stack) ≡ false
  frames_missed find stack missed =
      let found : Frame → Bool = λ x. finds_frame find (written p x) in
      elim f.drop as (λ o. list_any found (option_map_or (λ by. pruned_frames (λ x. is_prunable by f.keep (written p x)) stack) o stack) ≡ false) [
        | None ↦ list_any_none found stack missed
        | Some by ↦ list_any_none found (pruned_frames (λ x. is_prunable by f.keep (written p x)) stack) (All-drop (λ x. found x ≡ false) (pruned_len (λ x. is_prunable by f.keep (written p x)) stack) stack missed)
      ]

  none_found : IsCompact p → (texts : List Bool) (find : Finder) → FindsNoFrame p texts → AreVerdicts p texts find
      → (samples : List Sample) → All (RefersTo p) samples → list_any (stack_has p f find) samples ≡ false
  none_found compact texts find none are samples refer =
      list_any_none (stack_has p f find) samples
      (λ k d here. frames_missed find (stack_of p (get_or samples k d))
      (λ j e below. none find are (get_or (stack_of p (get_or samples k d)) j e)
      (frames_of_profile p 0 (get_or samples k d).location_id compact.locations (refer k d here) j e below)))

  -- it has no match
  pub none_matched : IsCompact p → (texts : Option (List Bool)) → ForSome texts (FindsNoFrame p) → (pattern : Option Finder) → texts ≡ judged p pattern
      → (samples : List Sample) → All (RefersTo p) samples → false ≡ frame_match p f pattern samples
  none_matched compact texts none None are samples refer = refl
  none_matched compact texts none (Some find) are samples refer =
      sym (none_found compact (map find p.text) find (none (map find p.text) are) refl samples refer)

-- the matches so far, with those of the part of the samples that follow
pub matches_more : (scope : Scope) (a b : List Sample) (slots others new : List Bool) → new ≡ either slots others
    → HasMatches scope a slots → HasMatches scope b others → HasMatches scope (a ++ b) new
matches_more scope a b slots others new joined before next all f holds =
    joined ∙ (λ i. either (before all f holds i) (next all f holds i)) ∙ either_match (profile_in_scope scope) f (config_of scope).filtering a b
