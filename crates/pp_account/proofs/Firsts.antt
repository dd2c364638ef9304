-- The first filter to drop a sample is there where the filters drop it.
use Rattle.std.proofs.Common.{◌≡◌, Bool, true, false, not, ◌&&◌, ◌||◌, cond, List, [], ◌∷◌, refl, sym, ap, ◌∙◌}
use Rattle.std.specs.Prelude.{Option, Some, None, is_some, option_map, filter}
use Rattle.std.specs.Option.{option_map_or}
use Rattle.std.proofs.lemmas.Bool.{false≢true}
use Rattle.pp_model.specs.declared.profile.Sample.{Sample}
use Rattle.pp_model.specs.declared.profile.Profile.{Profile}
use Rattle.pp_model.specs.declared.verdicts.Slot.{Slot}
use Rattle.pp_model.specs.declared.verdicts.Slot.TheVariants as slots
use Rattle.pp_model.specs.declared.filtering.Filtering.{Filtering}
use Rattle.pp_model.specs.Finders.{Finder, Finders}
use Rattle.pp_model.specs.Frames.{stack_of}
use Rattle.pp_model.specs.FrameTexts.{Written, written}
use Rattle.pp_stack.specs.Filters.{finds_frame, load_pruned, not_hidden, frames_shown, cut, shown_from, pruned_from, is_emptied, has_no_items, kept_frames, frames_of_sample}
use Rattle.pp_tags.specs.TagFilters.{filter_in_force, selects_or}
use Rattle.pp_count.specs.Seeing.{filtered_stack}
use Rattle.pp_account.specs.First.{finds_or, first_of_stack, first_of_tags, first_filter, slot_else}

-- what is emptied in two steps is emptied in the first or in the second
pub emptied_parts : (a b c : Bool) → (a ≡ true → b ≡ true) → (b ≡ true → c ≡ true) → (not a && c) ≡ ((not a && b) || (not b && c))
emptied_parts true true c first second = refl
emptied_parts true false c first second = absurd (false≢true (first refl))
emptied_parts false true true first second = refl
emptied_parts false true false first second = absurd (false≢true (second refl))
emptied_parts false false true first second = refl
emptied_parts false false false first second = refl

module _ {X : Type 0} (told : X → Written) (f : Finders) where
  -- a filter of frames leaves none where there are none
  pub hidden_none : (stack : List X) → has_no_items stack ≡ true → has_no_items (not_hidden told f stack) ≡ true
  hidden_none [] none = elim f.hide as (λ (o : Option Finder). has_no_items (option_map_or (λ find. filter (λ x. not (finds_frame find (told x))) []) o []) ≡ true) [
    | None ↦ refl
    | Some find ↦ refl
  ]
  hidden_none (x ∷ stack) none = absurd (false≢true none)

  pub shown_none : (stack : List X) → has_no_items stack ≡ true → has_no_items (frames_shown told f stack) ≡ true
  shown_none [] none = elim f.show as (λ (o : Option Finder). has_no_items (option_map_or (λ find. filter (λ x. finds_frame find (told x)) []) o []) ≡ true) [
    | None ↦ refl
    | Some find ↦ refl
  ]
  shown_none (x ∷ stack) none = absurd (false≢true none)

  pub cut_emptied : (stack : List X) → is_emptied stack (cut told f stack) ≡ (is_emptied stack (not_hidden told f stack) || is_emptied (not_hidden told f stack) (cut told f stack))
  cut_emptied stack = emptied_parts (has_no_items stack) (has_no_items (not_hidden told f stack)) (has_no_items (cut told f stack)) (hidden_none stack) (shown_none (not_hidden told f stack))

-- the stages of a stack, by what each of them says
staged : {X : Type 0} (change : List X → List X) (ignored focused hidden shown emptied : Bool) (from : Option (List X)) → emptied ≡ (hidden || shown)
    → is_some (cond (not ignored && focused) (cond emptied None (option_map change from)) None)
    ≡ not (is_some (cond ignored (Some slots.Ignore) (cond (not focused) (Some slots.Focus) (cond hidden (Some slots.Hide) (cond shown (Some slots.Show) (cond (not (is_some from)) (Some slots.ShowFrom) None))))))
staged change true focused hidden shown emptied from is = refl
staged change false false hidden shown emptied from is = refl
staged change false true true shown emptied from is = ap (λ b. is_some (cond b None (option_map change from))) is
staged change false true false true emptied from is = ap (λ b. is_some (cond b None (option_map change from))) is
staged change false true false false emptied None is = ap (λ b. is_some (cond b None (option_map change None))) is
staged change false true false false emptied (Some stack) is = ap (λ b. is_some (cond b None (option_map change (Some stack)))) is

pub stack_left : {X : Type 0} (told : X → Written) (f : Finders) (stack : List X) → is_some (kept_frames told f stack) ≡ not (is_some (first_of_stack told f stack))
stack_left told f stack =
    staged (pruned_from told f) (finds_or told f.ignore stack false) (finds_or told f.focus stack true)
    (is_emptied stack (not_hidden told f stack)) (is_emptied (not_hidden told f stack) (cut told f stack))
    (is_emptied stack (cut told f stack)) (shown_from told f (cut told f stack)) (cut_emptied told f stack)

-- and the tag filters after them
tagged : {A : Type 0} (focused ignored : Bool) (frames : Option A) (first : Option Slot) → is_some frames ≡ not (is_some first)
    → is_some (cond (focused && not ignored) frames None) ≡ not (is_some (slot_else first (cond (not focused) (Some slots.TagFocus) (cond ignored (Some slots.TagIgnore) None))))
tagged false ignored frames None is = refl
tagged false ignored frames (Some slot) is = refl
tagged true true frames None is = refl
tagged true true frames (Some slot) is = refl
tagged true false frames None is = is
tagged true false frames (Some slot) is = is

-- The filters leave exactly the samples that none of them is the first to drop.
pub left_or_dropped : (p : Profile) (f : Finders) (filtering : Filtering) (s : Sample) → is_some (filtered_stack p f filtering s) ≡ not (is_some (first_filter p f filtering s))
left_or_dropped p f filtering s =
    tagged (selects_or true p (filter_in_force filtering.tagfocus) f.tagfocus s) (selects_or false p (filter_in_force filtering.tagignore) f.tagignore s)
    (frames_of_sample p f s) (first_of_stack (written p) f (load_pruned (written p) f (stack_of p s)))
    (stack_left (written p) f (load_pruned (written p) f (stack_of p s)))

-- of a sample that is left there is no such filter
pub none_if_left : (p : Profile) (f : Finders) (filtering : Filtering) (s : Sample) → is_some (filtered_stack p f filtering s) ≡ true → None ≡ first_filter p f filtering s
none_if_left p f filtering s is = by_case (first_filter p f filtering s) (sym is ∙ left_or_dropped p f filtering s) where
  by_case : (o : Option Slot) → true ≡ not (is_some o) → None ≡ o
  by_case None h = refl
  by_case (Some slot) h = absurd (false≢true (sym h))

-- after hide, where it left something
pub after_hide : {X : Type 0} (told : X → Written) (f : Finders) (stack : List X) (emptied : Bool) → is_emptied stack (not_hidden told f stack) ≡ false
    → emptied ≡ is_emptied stack (cut told f stack) → emptied ≡ is_emptied (not_hidden told f stack) (cut told f stack)
after_hide told f stack emptied left is = is ∙ cut_emptied told f stack ∙ ap (λ b. b || is_emptied (not_hidden told f stack) (cut told f stack)) left
