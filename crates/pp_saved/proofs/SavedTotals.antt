-- The total of a saved profile is that of the samples which the filters left.
use Rattle.std.proofs.Common.{◌≡◌, ℕ, ◌+◌, Bool, true, false, ◌||◌, ◌&&◌, nat_abs, List, [], ◌∷◌, map, All, refl, sym, ap, ◌∙◌, subst}
use Rattle.std.specs.Prelude.{Option, Some, None, option_map, is_some, codes, bytes_eq, if◌then◌else◌, Contains}
use Rattle.std.specs.List.{AllByRecursion, filter, cons_option, list_any}
use Rattle.std.proofs.lemmas.Bool.{false≢true}
use Rattle.std.proofs.lemmas.List.Elements.{All-contains, All-weaker, All-from_recursion, recursion_from_All}
use Rattle.std.proofs.lemmas.List.Sums.{sum_by-cons}
use Rattle.std.proofs.lemmas.Option.{none-some, same_Some}
use Rattle.pp_base.proofs.Lists.{all_by}
use Rattle.pp_model.specs.declared.config.Config.{Config}
use Rattle.pp_model.specs.declared.frame.Frame.{Frame}
use Rattle.pp_model.specs.declared.profile.Sample.{Sample}
use Rattle.pp_model.specs.declared.profile.Profile.{Profile}
use Rattle.pp_model.specs.declared.filtering.Filtering.{Filtering}
use Rattle.pp_model.specs.Finders.{Finders}
use Rattle.pp_model.specs.Lookup.{text_of}
use Rattle.pp_model.specs.FrameTexts.{Written}
use Rattle.pp_tags.specs.TagFilters.{is_shown, shown_labels}
use Rattle.pp_tags.specs.Labels.{key_text}
use Rattle.pp_count.specs.Seeing.{filtered_stack, seen_with, seen_samples}
use Rattle.pp_count.specs.Sums.{Seen, absolute}
use Rattle.pp_count.specs.Counts.{is_base_label, is_base, filtered_samples, total_over, total_of}
use Rattle.pp_share.specs.Described.{LabelText, label_text}
use Rattle.pp_share.proofs.NumberedLemmas.{all_mapped}
use Rattle.pp_merge.proofs.SettledLemmas.{all_some, all_unmapped}
use Rattle.pp_dump.specs.Stacks.{StackText, whole_stack, left_stack, whole_stacks, left_stacks, without_values, KeepsStacks}
use Rattle.pp_laws.proofs.Within.{absolute_seen, plain_total, none_among}

any_map : {A B : Type 0} (test : B → Bool) (g : A → B) (xs : List A) → list_any test (map g xs) ≡ list_any (λ x. test (g x)) xs
any_map test g [] = refl
any_map test g (x ∷ xs) = ap (λ rest. test (g x) || rest) (any_map test g xs)

-- where none passes, none of those that are kept does
none_kept : {A : Type 0} (test keep : A → Bool) (xs : List A) → list_any test xs ≡ false → list_any test (filter keep xs) ≡ false
none_kept test keep [] none = refl
none_kept {A} test keep (x ∷ xs) none = by (test x) (keep x) refl none (none_kept test keep xs)
  where
    by : (b k : Bool) → test x ≡ b → (b || list_any test xs) ≡ false → (list_any test xs ≡ false → list_any test (filter keep xs) ≡ false)
        → list_any test (if k then x ∷ filter keep xs else filter keep xs) ≡ false
    by true k is more go = absurd (false≢true (sym more))
    by false true is more go = ap (λ b. b || list_any test (filter keep xs)) is ∙ go more
    by false false is more go = go more

none_each : {A : Type 0} (test : A → Bool) (xs : List A) → list_any test xs ≡ false → AllByRecursion (λ x. test x ≡ false) xs
none_each test [] none = tt
none_each {A} test (x ∷ xs) none = by (test x) refl none (none_each test xs)
  where
    by : (b : Bool) → test x ≡ b → (b || list_any test xs) ≡ false → (list_any test xs ≡ false → AllByRecursion (λ y. test y ≡ false) xs)
        → (test x ≡ false) × AllByRecursion (λ y. test y ≡ false) xs
    by true is more go = absurd (false≢true (sym more))
    by false is more go = (is, go more)

each_none : {A : Type 0} (test : A → Bool) (xs : List A) → AllByRecursion (λ x. test x ≡ false) xs → list_any test xs ≡ false
each_none test [] all = refl
each_none test (x ∷ xs) all = ap (λ b. b || list_any test xs) all.0 ∙ each_none test xs all.1

-- the label of a base, written out
abbrev base_text : LabelText → Bool
base_text l = bytes_eq l.key (codes "pprof::base") && bytes_eq l.text (codes "true")

-- the stack is that of a base's sample
abbrev of_base : StackText → Bool
of_base s = list_any base_text s.labels

-- it is of none
abbrev Plain : StackText → Type 0
Plain s = of_base s ≡ false

-- No sample of a profile that keeps the stacks is one of a base, where none of the profile's is.
pub none_of_base : (p : Profile) (f : Finders) (filtering : Filtering) (q : Profile) → KeepsStacks p f filtering q → list_any (is_base p) p.sample ≡ false → list_any (is_base q) q.sample ≡ false
none_of_base p f filtering q keeps plain =
    each_none (is_base q) q.sample
    (all_by (λ s. of_base (whole_stack q s).0 ≡ false) _ (λ s is. sym (any_map base_text (label_text (text_of q)) s.label) ∙ is) q.sample
    (all_unmapped (λ s. of_base s.0 ≡ false) (whole_stack q) q.sample
    (all_unmapped Plain (λ s. s.0) (whole_stacks q) (recursion_from_All Plain (without_values (whole_stacks q)) theirs))))
  where
    one : (s : Sample) (o : Option (List Frame)) → is_base p s ≡ false → (y : StackText × _) → option_map (left_stack p f s) o ≡ Some y → Plain y.0
    one s None is y found = absurd (none-some y found)
    one s (Some stack) is y found =
        subst (λ (x : StackText × _). Plain x.0) (same_Some (left_stack p f s stack) y found)
        (any_map base_text (label_text (text_of p)) (shown_labels p f s.label) ∙ none_kept (is_base_label p) (λ label. is_shown f (key_text p label)) s.label is)

    ours : AllByRecursion (λ s. Plain s.0) (left_stacks p f filtering)
    ours =
        all_some (λ s. Plain s.0) (λ s. option_map (left_stack p f s) (filtered_stack p f filtering s)) p.sample
        (all_by (λ s. is_base p s ≡ false) _ (λ s is y found. one s (filtered_stack p f filtering s) is y found) p.sample (none_each (is_base p) p.sample plain))

    left : All Plain (without_values (left_stacks p f filtering))
    left = All-from_recursion Plain (without_values (left_stacks p f filtering)) (all_mapped Plain (λ s. s.0) (left_stacks p f filtering) ours)

    theirs : All Plain (without_values (whole_stacks q))
    theirs =
        All-weaker (Contains (without_values (left_stacks p f filtering))) Plain (λ s there. All-contains Plain (without_values (left_stacks p f filtering)) s left there)
        (without_values (whole_stacks q)) keeps.each

-- Without a base, the total over filtered samples is what their absolute values add up to.
pub relative_total : (p : Profile) (f : Finders) (config : Config) (column : Option ℕ) → config.presentation.relative_percentages ≡ true → list_any (is_base p) p.sample ≡ false
    → total_of p f config column ≡ absolute (seen_samples p f config column p.sample)
relative_total p f config column relative plain =
    ap (λ (b : Bool). total_over p config.presentation column (if b then filtered_samples p f config.filtering p.sample else p.sample)) relative
    ∙ plain_total p config.presentation column (filtered_samples p f config.filtering p.sample) (none_among (is_base p) (λ s. is_some (filtered_stack p f config.filtering s)) p.sample plain)
    ∙ sym (absolute_seen p f config column p.sample)

-- Without a column nothing adds up.
pub nothing_adds_up : (p : Profile) (f : Finders) (config : Config) (xs : List Sample) → absolute (seen_samples p f config None xs) ≡ 0
nothing_adds_up p f config [] = refl
nothing_adds_up p f config (s ∷ xs) = by (filtered_stack p f config.filtering s) (nothing_adds_up p f config xs)
  where
    by : (o : Option (List Frame)) → absolute (seen_samples p f config None xs) ≡ 0
        → absolute (cons_option (option_map (seen_with p config None s) o) (seen_samples p f config None xs)) ≡ 0
    by None rest = rest
    by (Some stack) rest =
        sum_by-cons (λ (t : Seen Written). nat_abs t.value) (seen_with p config None s stack) (seen_samples p f config None xs)
        ∙ ap (λ n. 0 + n) rest
