-- The rows of an account add up.
use Rattle.std.proofs.Common.{◌≡◌, ℕ, zero, suc, ◌+◌, Bool, true, false, not, ◌&&◌, cond, ℤ, pos, ◌+ℤ◌, List, [], ◌∷◌, ◌++◌, length, map, take, drop, refl, sym, ap, ◌∙◌, arith, length-append}
use Rattle.std.specs.Prelude.{Option, Some, None, is_some, option_map, ◌==◌}
use Rattle.std.specs.List.{filter, flat_map, sum_by, cons_option}
use Rattle.std.specs.Option.{option_map_or}
use Rattle.std.specs.Ordering.{int_eq}
use Rattle.std.proofs.lemmas.Bool.{false≢true}
use Rattle.std.proofs.lemmas.Bool.Decides.{Decides-int_eq}
use Rattle.std.proofs.lemmas.Int.{ints}
use Rattle.std.proofs.lemmas.List.{take-append-drop}
use Rattle.pp_model.specs.declared.config.Config.{Config}
use Rattle.pp_model.specs.declared.frame.Frame.{Frame}
use Rattle.pp_model.specs.declared.profile.Sample.{Sample}
use Rattle.pp_model.specs.declared.profile.Profile.{Profile}
use Rattle.pp_model.specs.declared.verdicts.Slot.{Slot}
use Rattle.pp_model.specs.declared.verdicts.Slot.TheVariants as slots
use Rattle.pp_model.specs.declared.filtering.Filtering.{Filtering}
use Rattle.pp_model.specs.declared.presentation.Presentation.{Presentation}
use Rattle.pp_model.specs.Finders.{Finder, Finders}
use Rattle.pp_model.specs.Frames.{stack_of}
use Rattle.pp_model.specs.FrameTexts.{Written, written}
use Rattle.pp_stack.specs.Filters.{load_pruned, not_hidden, frames_shown, shown_from, is_emptied, has_no_items}
use Rattle.pp_tags.specs.TagFilters.{filter_in_force, selects_or}
use Rattle.pp_grain.specs.Keys.{key_cmp}
use Rattle.pp_count.specs.Base.{selected_all}
use Rattle.pp_count.specs.Column.{selected}
use Rattle.pp_count.specs.Counts.{filtered_samples, total_of}
use Rattle.pp_count.specs.Counted.{report_samples}
use Rattle.pp_count.specs.Seeing.{filtered_stack, seen, seen_with, seen_samples}
use Rattle.pp_count.specs.Sums.{Seen, flat, sum_where}
use Rattle.pp_graph.specs.Sampled.{is_heavy_cum}
use Rattle.pp_graph.specs.Trim.{all_report_keys, candidate_keys, report_keys, shown_keys}
use Rattle.pp_graph.specs.Trimmed.{int_sum}
use Rattle.pp_laws.specs.Figures.{has_frames}
use Rattle.pp_laws.proofs.AddingUp.{all_counted}
use Rattle.pp_account.specs.declared.portion.Portion.{Portion}
use Rattle.pp_account.specs.Account.{AccountRow, dropping, filter_row}
use Rattle.pp_account.specs.First.{finds_or, first_filter, slot_else, is_filter, is_in_force}
use Rattle.pp_laws.specs.Accounts.{portion_sum, SamplesAddUp, OthersDropNone, NodesAddUp, ValuesAddUp}
use Rattle.pp_account.specs.Nodes.{keys_portion, light_keys, keys_beyond, past_limit}
use Rattle.pp_account.specs.Portions.{portion_of, dropped_samples, is_bare, bare_samples}
use Rattle.pp_account.proofs.Each.{never_emptied}
use Rattle.pp_account.proofs.Firsts.{left_or_dropped}
use Rattle.pp_account.proofs.Noding.{candidates_are}

-- the first filter, by what each of them says
abbrev cascade : (ignored unfocused hidden unshown unstarted unselected selected : Bool) → Option Slot
cascade ignored unfocused hidden unshown unstarted unselected selected =
    slot_else
    (cond ignored (Some slots.Ignore) (cond unfocused (Some slots.Focus) (cond hidden (Some slots.Hide) (cond unshown (Some slots.Show) (cond unstarted (Some slots.ShowFrom) None)))))
    (cond unselected (Some slots.TagFocus) (cond selected (Some slots.TagIgnore) None))

-- it is one of these seven, or none
abbrev is_dropping : Option Slot → Bool
is_dropping None = true
is_dropping (Some slots.Ignore) = true
is_dropping (Some slots.Focus) = true
is_dropping (Some slots.Hide) = true
is_dropping (Some slots.Show) = true
is_dropping (Some slots.ShowFrom) = true
is_dropping (Some slots.TagFocus) = true
is_dropping (Some slots.TagIgnore) = true
is_dropping (Some _) = false

drops : (a b c d e g h : Bool) → is_dropping (cascade a b c d e g h) ≡ true
drops true b c d e g h = refl
drops false true c d e g h = refl
drops false false true d e g h = refl
drops false false false true e g h = refl
drops false false false false true g h = refl
drops false false false false false true h = refl
drops false false false false false false true = refl
drops false false false false false false false = refl

module _ (p : Profile) (f : Finders) (filtering : Filtering) where
  pub one_of_seven : (s : Sample) → is_dropping (first_filter p f filtering s) ≡ true
  one_of_seven s =
      let stack = load_pruned (written p) f (stack_of p s) in
      let left = not_hidden (written p) f stack in
      drops (finds_or (written p) f.ignore stack false) (not (finds_or (written p) f.focus stack true)) (is_emptied stack left)
      (is_emptied left (frames_shown (written p) f left)) (not (is_some (shown_from (written p) f (frames_shown (written p) f left))))
      (not (selects_or true p (filter_in_force filtering.tagfocus) f.tagfocus s)) (selects_or false p (filter_in_force filtering.tagignore) f.tagignore s)

-- the values of samples
abbrev worth : Presentation → Option ℕ → List Sample → ℤ
worth presentation column samples = selected_all column presentation.divide_by samples

-- one sample more ends in one place
module _ (s : Sample) (a b c d e g h left : List Sample) where
  abbrev counts : Option Slot → ℕ
  counts o =
      length (cond (is_filter slots.Ignore o) (s ∷ a) a) + (length (cond (is_filter slots.Focus o) (s ∷ b) b) + (length (cond (is_filter slots.Hide o) (s ∷ c) c)
      + (length (cond (is_filter slots.Show o) (s ∷ d) d) + (length (cond (is_filter slots.ShowFrom o) (s ∷ e) e) + (length (cond (is_filter slots.TagFocus o) (s ∷ g) g)
      + (length (cond (is_filter slots.TagIgnore o) (s ∷ h) h) + (length (cond (not (is_some o)) (s ∷ left) left) + 0)))))))

  count_step : (o : Option Slot) → is_dropping o ≡ true → (n : ℕ)
      → n ≡ length a + (length b + (length c + (length d + (length e + (length g + (length h + (length left + 0))))))) → suc n ≡ counts o
  count_step None is n so = omega (arith, so)
  count_step (Some slots.Ignore) is n so = omega (arith, so)
  count_step (Some slots.Focus) is n so = omega (arith, so)
  count_step (Some slots.Hide) is n so = omega (arith, so)
  count_step (Some slots.Show) is n so = omega (arith, so)
  count_step (Some slots.ShowFrom) is n so = omega (arith, so)
  count_step (Some slots.TagFocus) is n so = omega (arith, so)
  count_step (Some slots.TagIgnore) is n so = omega (arith, so)
  count_step (Some slots.PruneFrom) is n so = absurd (false≢true is)
  count_step (Some slots.TagShow) is n so = absurd (false≢true is)
  count_step (Some slots.TagHide) is n so = absurd (false≢true is)
  count_step (Some slots.Own) is n so = absurd (false≢true is)

  module _ (presentation : Presentation) (column : Option ℕ) where
    abbrev values : Option Slot → ℤ
    values o =
        worth presentation column (cond (is_filter slots.Ignore o) (s ∷ a) a) +ℤ (worth presentation column (cond (is_filter slots.Focus o) (s ∷ b) b) +ℤ (worth presentation column (cond (is_filter slots.Hide o) (s ∷ c) c)
        +ℤ (worth presentation column (cond (is_filter slots.Show o) (s ∷ d) d) +ℤ (worth presentation column (cond (is_filter slots.ShowFrom o) (s ∷ e) e) +ℤ (worth presentation column (cond (is_filter slots.TagFocus o) (s ∷ g) g)
        +ℤ (worth presentation column (cond (is_filter slots.TagIgnore o) (s ∷ h) h) +ℤ (worth presentation column (cond (not (is_some o)) (s ∷ left) left) +ℤ pos 0)))))))

    value_step : (o : Option Slot) → is_dropping o ≡ true → (z : ℤ)
        → z ≡ worth presentation column a +ℤ (worth presentation column b +ℤ (worth presentation column c +ℤ (worth presentation column d +ℤ (worth presentation column e +ℤ (worth presentation column g +ℤ (worth presentation column h +ℤ (worth presentation column left +ℤ pos 0)))))))
        → selected column presentation.divide_by s +ℤ z ≡ values o
    value_step None is z so = omega (arith, ints, so)
    value_step (Some slots.Ignore) is z so = omega (arith, ints, so)
    value_step (Some slots.Focus) is z so = omega (arith, ints, so)
    value_step (Some slots.Hide) is z so = omega (arith, ints, so)
    value_step (Some slots.Show) is z so = omega (arith, ints, so)
    value_step (Some slots.ShowFrom) is z so = omega (arith, ints, so)
    value_step (Some slots.TagFocus) is z so = omega (arith, ints, so)
    value_step (Some slots.TagIgnore) is z so = omega (arith, ints, so)
    value_step (Some slots.PruneFrom) is z so = absurd (false≢true is)
    value_step (Some slots.TagShow) is z so = absurd (false≢true is)
    value_step (Some slots.TagHide) is z so = absurd (false≢true is)
    value_step (Some slots.Own) is z so = absurd (false≢true is)

module _ (p : Profile) (f : Finders) (config : Config) (column : Option ℕ) where
  abbrev part : Slot → List Sample → List Sample
  part slot ss = dropped_samples p f config.filtering slot ss

  abbrev ends : List Sample → Portion
  ends ss = portion_sum (map (λ slot. portion_of config.presentation column (part slot ss)) dropping ++ portion_of config.presentation column (filtered_samples p f config.filtering ss) ∷ [])

  all_end : (ss : List Sample) → (length ss ≡ (ends ss).count) × (worth config.presentation column ss ≡ (ends ss).value)
  all_end [] = (refl, refl)
  all_end (s ∷ ss) =
      let rest = all_end ss in
      let left : List Sample = filtered_samples p f config.filtering ss in
      let first : Option Slot = first_filter p f config.filtering s in (
        count_step s (part slots.Ignore ss) (part slots.Focus ss) (part slots.Hide ss) (part slots.Show ss) (part slots.ShowFrom ss) (part slots.TagFocus ss) (part slots.TagIgnore ss) left
            first (one_of_seven p f config.filtering s) (length ss) rest.0
            ∙ ap (λ b. length (part slots.Ignore (s ∷ ss)) + (length (part slots.Focus (s ∷ ss)) + (length (part slots.Hide (s ∷ ss)) + (length (part slots.Show (s ∷ ss)) + (length (part slots.ShowFrom (s ∷ ss))
            + (length (part slots.TagFocus (s ∷ ss)) + (length (part slots.TagIgnore (s ∷ ss)) + (length (cond b (s ∷ left) left) + 0)))))))) (sym (left_or_dropped p f config.filtering s)),
        value_step s (part slots.Ignore ss) (part slots.Focus ss) (part slots.Hide ss) (part slots.Show ss) (part slots.ShowFrom ss) (part slots.TagFocus ss) (part slots.TagIgnore ss) left
            config.presentation column first (one_of_seven p f config.filtering s) (worth config.presentation column ss) rest.1
            ∙ ap (λ b. worth config.presentation column (part slots.Ignore (s ∷ ss)) +ℤ (worth config.presentation column (part slots.Focus (s ∷ ss)) +ℤ (worth config.presentation column (part slots.Hide (s ∷ ss)) +ℤ (worth config.presentation column (part slots.Show (s ∷ ss))
            +ℤ (worth config.presentation column (part slots.ShowFrom (s ∷ ss)) +ℤ (worth config.presentation column (part slots.TagFocus (s ∷ ss)) +ℤ (worth config.presentation column (part slots.TagIgnore (s ∷ ss)) +ℤ (worth config.presentation column (cond b (s ∷ left) left) +ℤ pos 0)))))))) (sym (left_or_dropped p f config.filtering s)),
      )

pub samples_add_up : SamplesAddUp
samples_add_up p f config column = λ i. record {
  count = (all_end p f config column p.sample).0 i;
  value = (all_end p f config column p.sample).1 i;
}

-- a filter that drops nothing isn't the first to drop a sample
not_ignore : (b c d e g h : Bool) → is_filter slots.Ignore (cascade false b c d e g h) ≡ false
not_ignore true c d e g h = refl
not_ignore false true d e g h = refl
not_ignore false false true e g h = refl
not_ignore false false false true g h = refl
not_ignore false false false false true h = refl
not_ignore false false false false false true = refl
not_ignore false false false false false false = refl

not_focus : (a c d e g h : Bool) → is_filter slots.Focus (cascade a false c d e g h) ≡ false
not_focus true c d e g h = refl
not_focus false true d e g h = refl
not_focus false false true e g h = refl
not_focus false false false true g h = refl
not_focus false false false false true h = refl
not_focus false false false false false true = refl
not_focus false false false false false false = refl

not_hide : (a b d e g h : Bool) → is_filter slots.Hide (cascade a b false d e g h) ≡ false
not_hide true b d e g h = refl
not_hide false true d e g h = refl
not_hide false false true e g h = refl
not_hide false false false true g h = refl
not_hide false false false false true h = refl
not_hide false false false false false true = refl
not_hide false false false false false false = refl

not_show : (a b c e g h : Bool) → is_filter slots.Show (cascade a b c false e g h) ≡ false
not_show true b c e g h = refl
not_show false true c e g h = refl
not_show false false true e g h = refl
not_show false false false true g h = refl
not_show false false false false true h = refl
not_show false false false false false true = refl
not_show false false false false false false = refl

not_show_from : (a b c d g h : Bool) → is_filter slots.ShowFrom (cascade a b c d false g h) ≡ false
not_show_from true b c d g h = refl
not_show_from false true c d g h = refl
not_show_from false false true d g h = refl
not_show_from false false false true g h = refl
not_show_from false false false false true h = refl
not_show_from false false false false false true = refl
not_show_from false false false false false false = refl

not_tagfocus : (a b c d e h : Bool) → is_filter slots.TagFocus (cascade a b c d e false h) ≡ false
not_tagfocus true b c d e h = refl
not_tagfocus false true c d e h = refl
not_tagfocus false false true d e h = refl
not_tagfocus false false false true e h = refl
not_tagfocus false false false false true h = refl
not_tagfocus false false false false false true = refl
not_tagfocus false false false false false false = refl

not_tagignore : (a b c d e g : Bool) → is_filter slots.TagIgnore (cascade a b c d e g false) ≡ false
not_tagignore true b c d e g = refl
not_tagignore false true c d e g = refl
not_tagignore false false true d e g = refl
not_tagignore false false false true e g = refl
not_tagignore false false false false true g = refl
not_tagignore false false false false false true = refl
not_tagignore false false false false false false = refl

unforced : {A B : Type 0} (o : Option A) (F : A → B) (other : B) → is_some o ≡ false → option_map_or F o other ≡ other
unforced None F other none = refl
unforced (Some x) F other none = absurd (false≢true (sym none))

filter_none : {X : Type 0} (t : X → Bool) (xs : List X) → ((x : X) → t x ≡ false) → filter t xs ≡ []
filter_none t [] none = refl
filter_none t (x ∷ xs) none = (λ i. cond (none x i) (x ∷ filter t xs) (filter t xs)) ∙ filter_none t xs none

module _ (p : Profile) (f : Finders) (filtering : Filtering) where
  abbrev stack_at : Sample → List Frame
  stack_at s = load_pruned (written p) f (stack_of p s)

  abbrev left_at : Sample → List Frame
  left_at s = not_hidden (written p) f (stack_at s)

  abbrev ignored : Sample → Bool
  ignored s = finds_or (written p) f.ignore (stack_at s) false

  abbrev unfocused : Sample → Bool
  unfocused s = not (finds_or (written p) f.focus (stack_at s) true)

  abbrev hidden : Sample → Bool
  hidden s = is_emptied (stack_at s) (left_at s)

  abbrev unshown : Sample → Bool
  unshown s = is_emptied (left_at s) (frames_shown (written p) f (left_at s))

  abbrev unstarted : Sample → Bool
  unstarted s = not (is_some (shown_from (written p) f (frames_shown (written p) f (left_at s))))

  abbrev unselected : Sample → Bool
  unselected s = not (selects_or true p (filter_in_force filtering.tagfocus) f.tagfocus s)

  abbrev rejected : Sample → Bool
  rejected s = selects_or false p (filter_in_force filtering.tagignore) f.tagignore s

  others : (slot : Slot) → is_in_force f filtering slot ≡ false → (s : Sample) → is_filter slot (first_filter p f filtering s) ≡ false
  others slots.Ignore none s =
      ap (λ b. is_filter slots.Ignore (cascade b (unfocused s) (hidden s) (unshown s) (unstarted s) (unselected s) (rejected s))) (unforced f.ignore _ false none)
      ∙ not_ignore (unfocused s) (hidden s) (unshown s) (unstarted s) (unselected s) (rejected s)
  others slots.Focus none s =
      ap (λ b. is_filter slots.Focus (cascade (ignored s) b (hidden s) (unshown s) (unstarted s) (unselected s) (rejected s))) (ap not (unforced f.focus _ true none))
      ∙ not_focus (ignored s) (hidden s) (unshown s) (unstarted s) (unselected s) (rejected s)
  others slots.Hide none s =
      ap (λ b. is_filter slots.Hide (cascade (ignored s) (unfocused s) b (unshown s) (unstarted s) (unselected s) (rejected s))) (ap (λ xs. is_emptied (stack_at s) xs) (unforced f.hide _ (stack_at s) none) ∙ never_emptied (stack_at s))
      ∙ not_hide (ignored s) (unfocused s) (unshown s) (unstarted s) (unselected s) (rejected s)
  others slots.Show none s =
      ap (λ b. is_filter slots.Show (cascade (ignored s) (unfocused s) (hidden s) b (unstarted s) (unselected s) (rejected s))) (ap (λ xs. is_emptied (left_at s) xs) (unforced f.show _ (left_at s) none) ∙ never_emptied (left_at s))
      ∙ not_show (ignored s) (unfocused s) (hidden s) (unstarted s) (unselected s) (rejected s)
  others slots.ShowFrom none s =
      ap (λ b. is_filter slots.ShowFrom (cascade (ignored s) (unfocused s) (hidden s) (unshown s) b (unselected s) (rejected s))) (ap (λ o. not (is_some o)) (unforced f.show_from _ (Some (frames_shown (written p) f (left_at s))) none))
      ∙ not_show_from (ignored s) (unfocused s) (hidden s) (unshown s) (unselected s) (rejected s)
  others slots.TagFocus none s =
      ap (λ b. is_filter slots.TagFocus (cascade (ignored s) (unfocused s) (hidden s) (unshown s) (unstarted s) b (rejected s))) (ap not (unforced (filter_in_force filtering.tagfocus) _ true none))
      ∙ not_tagfocus (ignored s) (unfocused s) (hidden s) (unshown s) (unstarted s) (rejected s)
  others slots.TagIgnore none s =
      ap (λ b. is_filter slots.TagIgnore (cascade (ignored s) (unfocused s) (hidden s) (unshown s) (unstarted s) (unselected s) b)) (unforced (filter_in_force filtering.tagignore) _ false none)
      ∙ not_tagignore (ignored s) (unfocused s) (hidden s) (unshown s) (unstarted s) (unselected s)
  others slots.PruneFrom none s = refl
  others slots.TagShow none s = refl
  others slots.TagHide none s = refl
  others slots.Own none s = refl

pub others_drop_none : OthersDropNone
others_drop_none p f filtering slot none = filter_none (λ s. is_filter slot (first_filter p f filtering s)) p.sample (others p f filtering slot none)

-- keys that pass a test, and the others
module _ (value : Written → ℤ) (t : Written → Bool) where
  apart_count : (ks : List Written) → length ks ≡ length (filter (λ k. not (t k)) ks) + length (filter t ks)
  apart_count [] = refl
  apart_count (k ∷ ks) = elim (t k) as (λ b. suc (length ks) ≡ length (cond (not b) (k ∷ filter (λ q. not (t q)) ks) (filter (λ q. not (t q)) ks)) + length (cond b (k ∷ filter t ks) (filter t ks))) [
    | true ↦ omega (arith, apart_count ks)
    | false ↦ omega (arith, apart_count ks)
  ]

  apart_value : (ks : List Written) → int_sum (map value ks) ≡ int_sum (map value (filter (λ k. not (t k)) ks)) +ℤ int_sum (map value (filter t ks))
  apart_value [] = refl
  apart_value (k ∷ ks) = elim (t k) as (λ b. value k +ℤ int_sum (map value ks)
      ≡ int_sum (map value (cond (not b) (k ∷ filter (λ q. not (t q)) ks) (filter (λ q. not (t q)) ks))) +ℤ int_sum (map value (cond b (k ∷ filter t ks) (filter t ks)))) [
        | true ↦ omega (arith, ints, apart_value ks)
        | false ↦ omega (arith, ints, apart_value ks)
      ]

  joined_value : (xs ys : List Written) → int_sum (map value (xs ++ ys)) ≡ int_sum (map value xs) +ℤ int_sum (map value ys)
  joined_value [] ys = omega (arith, ints)
  joined_value (x ∷ xs) ys = omega (arith, ints, joined_value xs ys)

  limit_count : (limit : ℕ) (ks : List Written) → length ks ≡ length (past_limit limit ks) + length (shown_keys limit ks)
  limit_count limit ks = elim (limit == 0) as (λ b. length ks ≡ length (cond b [] (drop limit ks)) + length (cond b ks (take limit ks))) [
    | true ↦ omega arith
    | false ↦ omega (arith, ap length (take-append-drop limit ks), length-append (take limit ks) (drop limit ks))
  ]

  limit_value : (limit : ℕ) (ks : List Written) → int_sum (map value ks) ≡ int_sum (map value (past_limit limit ks)) +ℤ int_sum (map value (shown_keys limit ks))
  limit_value limit ks = elim (limit == 0) as (λ b. int_sum (map value ks) ≡ int_sum (map value (cond b [] (drop limit ks))) +ℤ int_sum (map value (cond b ks (take limit ks)))) [
    | true ↦ omega (arith, ints)
    | false ↦ omega (arith, ints, ap (λ xs. int_sum (map value xs)) (take-append-drop limit ks), joined_value (take limit ks) (drop limit ks))
  ]

pub nodes_add_up : NodesAddUp
nodes_add_up p f config column limit =
    let samples : List (Seen Written) = report_samples p f config column in
    let value : Written → ℤ = flat key_cmp samples in
    let heavy : Written → Bool = is_heavy_cum key_cmp (total_of p f config column) config.presentation.nodefraction.billionths samples in
    let keys : List Written = all_report_keys p f config column in
    let shown : List Written = candidate_keys p f config column in
    let are : shown ≡ filter heavy keys = candidates_are p f config column in
    let counts : length keys ≡ length (light_keys p f config column) + (length (past_limit limit shown) + (length (shown_keys limit shown) + 0)) =
    omega (arith, apart_count value heavy keys, ap length are, limit_count value heavy limit shown) in
    let values : int_sum (map value keys) ≡ int_sum (map value (light_keys p f config column)) +ℤ (int_sum (map value (past_limit limit shown)) +ℤ (int_sum (map value (shown_keys limit shown)) +ℤ pos 0)) =
    omega (arith, ints, apart_value value heavy keys, ap (λ ks. int_sum (map value ks)) are, limit_value value heavy limit shown) in
    λ i. record { count = counts i; value = values i }

-- a sample that is left has a frame or is bare, unless its value is 0
bare_or_not : (none zero_value : Bool) (v : ℤ) (rest bare frames : ℤ) → (zero_value ≡ true → v ≡ pos 0) → rest ≡ frames +ℤ bare
    → v +ℤ rest ≡ (cond (not none) v (pos 0) +ℤ frames) +ℤ cond (not zero_value && none) (v +ℤ bare) bare
bare_or_not true true v rest bare frames is so = omega (arith, ints, is refl, so)
bare_or_not true false v rest bare frames is so = omega (arith, ints, so)
bare_or_not false true v rest bare frames is so = omega (arith, ints, so)
bare_or_not false false v rest bare frames is so = omega (arith, ints, so)

module _ (p : Profile) (f : Finders) (config : Config) (column : Option ℕ) where
  abbrev bares : List Sample → List Sample
  bares ss = bare_samples p f config column ss

  worth_if : (b : Bool) (s : Sample) (ss : List Sample) → worth config.presentation column (cond b (s ∷ ss) ss) ≡ cond b (selected column config.presentation.divide_by s +ℤ worth config.presentation column ss) (worth config.presentation column ss)
  worth_if true s ss = refl
  worth_if false s ss = refl

  left_values : (ss : List Sample) → worth config.presentation column (filtered_samples p f config.filtering ss) ≡ sum_where has_frames (seen_samples p f config column ss) +ℤ worth config.presentation column (bares ss)
  left_values [] = refl
  left_values (s ∷ ss) =
      let v : ℤ = selected column config.presentation.divide_by s in
      let left : List Sample = filtered_samples p f config.filtering ss in
      elim (filtered_stack p f config.filtering s) as (λ (o : Option (List Frame)). worth config.presentation column (cond (is_some o) (s ∷ left) left)
      ≡ sum_where has_frames (cons_option (option_map (seen_with p config column s) o) (seen_samples p f config column ss))
      +ℤ worth config.presentation column (cond (option_map_or (λ x. not (int_eq x.value (pos 0)) && has_no_items x.keys) (option_map (seen_with p config column s) o) false) (s ∷ bares ss) (bares ss))) [
        | None ↦ left_values ss
        | Some stack ↦
            let keys : List Written = (seen_with p config column s stack).keys in
            bare_or_not (has_no_items keys) (int_eq v (pos 0)) v (worth config.presentation column left) (worth config.presentation column (bares ss)) (sum_where has_frames (seen_samples p f config column ss))
            ((Decides-int_eq v (pos 0)).0) (left_values ss)
            ∙ ap (λ z. (cond (has_frames keys) v (pos 0) +ℤ sum_where has_frames (seen_samples p f config column ss)) +ℤ z) (sym (worth_if (not (int_eq v (pos 0)) && has_no_items keys) s (bares ss)))
      ]

pub values_add_up : ValuesAddUp
values_add_up p f config column =
    left_values p f config column p.sample
    ∙ ap (λ z. z +ℤ worth config.presentation column (bare_samples p f config column p.sample)) (sym (all_counted p f config column))
