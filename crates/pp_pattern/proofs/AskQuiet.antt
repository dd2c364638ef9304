-- What asking for patterns does: it passes each test that asking passes.
use Rattle.std.proofs.Common.{◌≡◌, ℕ, Bool, true, List, [], ◌∷◌, ◌++◌, Option, Some, None}
use Rattle.std.specs.Prelude.{Result, Ok, Err, unwrap_or}
use Rattle.pp_desk.specs.Asking.{Asking, ◌>>=◌, go_on}
use Rattle.pp_desk.specs.Script.{Step, Ask}
use Rattle.pp_desk.proofs.Quiet.{Only, only_then}
use Rattle.pp_model.specs.declared.profile.Profile.{Profile}
use Rattle.pp_model.specs.declared.verdicts.Slot.{Slot}
use Rattle.pp_model.specs.declared.verdicts.Tag.{Tag}
use Rattle.pp_model.specs.declared.filtering.Filtering.{Filtering}
use Rattle.pp_model.specs.Lookup.{text_of}
use Rattle.pp_pattern.specs.Load.{judge_load, whole_name}
use Rattle.pp_pattern.specs.Patterns.{judge_pattern, judge_option, judge_part, judge_parts}
use Rattle.pp_pattern.specs.Report.{judge_frames, judge_filter, judge_tags, judge_names, judge_with, judge, Finds}
use Rattle.pp_tags.specs.declared.tag_filter.TagFilter.{TagFilter}
use Rattle.pp_tags.specs.TagFilters.{subjects}

module _ (test : Step → Bool) where
  only_on : {R A B : Type 0} (q : A → Asking R B) (x : Result A R) → ((x : A) → Only test (q x)) → Only test (go_on q x)
  only_on q (Ok x) n = n x
  only_on q (Err refused) n = tt

  -- one script that may be refused, and then another
  pub only_asking : {R A B : Type 0} (p : Asking R A) (q : A → Asking R B) → Only test p → ((x : A) → Only test (q x)) → Only test (p >>= q)
  unfolding ◌>>=◌
  only_asking p q o n = only_then test p (go_on q) o (λ x. only_on q x n)

  module _ (asks : (pattern : List ℕ) → test (Ask pattern) ≡ true) (finds : Finds) where
    only_pattern : {R : Type 0} (refused : R) (pattern : List ℕ) (texts : List (List ℕ)) → Only test (judge_pattern finds refused pattern texts)
    unfolding judge_pattern
    only_pattern refused pattern texts = (asks pattern, λ taken. tt)

    only_option : {R : Type 0} (refused : R) (texts : List (List ℕ)) (pattern : List ℕ) → Only test (judge_option finds refused texts pattern)
    unfolding judge_option
    only_option refused texts [] = tt
    only_option refused texts (b ∷ bs) = only_asking (judge_pattern finds refused (b ∷ bs) texts) _ (only_pattern refused (b ∷ bs) texts) (λ found. tt)

    only_part : {R : Type 0} (refused : R) (texts : List (List ℕ)) (part : List ℕ) → Only test (judge_part finds refused texts part)
    unfolding judge_part
    only_part refused texts [] = tt
    only_part refused texts (b ∷ bs) = only_pattern refused (b ∷ bs) texts

    only_parts : {R : Type 0} (refused : R) (texts : List (List ℕ)) (before : List (List Bool)) (parts : List (List ℕ)) → Only test (judge_parts finds refused texts before parts)
    unfolding judge_parts
    only_parts refused texts before [] = tt
    only_parts refused texts before (part ∷ parts) = only_asking (judge_part finds refused texts part) _ (only_part refused texts part) (λ found. only_parts refused texts (before ++ found ∷ []) parts)

    -- The two patterns of a profile.
    pub only_load : (p : Profile) → Only test (judge_load finds p)
    unfolding judge_load
    only_load p =
        only_asking (judge_option finds _ p.text (whole_name (text_of p p.drop_frames))) _ (only_option _ p.text (whole_name (text_of p p.drop_frames)))
        (λ drop. only_asking (judge_option finds _ p.text (whole_name (text_of p p.keep_frames))) _ (only_option _ p.text (whole_name (text_of p p.keep_frames))) (λ keep. tt))

    only_frames : (filtering : Filtering) (texts : List (List ℕ)) → Only test (judge_frames finds filtering texts)
    unfolding judge_frames
    only_frames filtering texts =
        only_asking (judge_option finds _ texts filtering.focus) _ (only_option _ texts filtering.focus)
        (λ _. only_asking (judge_option finds _ texts filtering.ignore) _ (only_option _ texts filtering.ignore)
        (λ _. only_asking (judge_option finds _ texts filtering.hide) _ (only_option _ texts filtering.hide)
        (λ _. only_asking (judge_option finds _ texts filtering.show) _ (only_option _ texts filtering.show)
        (λ _. only_asking (judge_option finds _ texts filtering.show_from) _ (only_option _ texts filtering.show_from) (λ _. tt)))))

    only_filter : (slot : Slot) (p : Profile) (tags : List Tag) (filter : Option TagFilter) → Only test (judge_filter finds slot p tags filter)
    unfolding judge_filter
    only_filter slot p tags None = tt
    only_filter slot p tags (Some f) = only_parts _ (subjects p tags f.name) [] f.parts

    only_tags : (p : Profile) (focus ignore : Option TagFilter) → Only test (judge_tags finds p focus ignore)
    unfolding judge_tags
    only_tags p focus ignore =
        only_asking (judge_filter finds _ p _ focus) _ (only_filter _ p _ focus)
        (λ _. only_asking (judge_filter finds _ p _ ignore) _ (only_filter _ p _ ignore) (λ _. tt))

    only_names : (filtering : Filtering) (own : Option (List ℕ)) (texts : List (List ℕ)) → Only test (judge_names finds filtering own texts)
    unfolding judge_names
    only_names filtering own texts =
        only_asking (judge_option finds _ texts filtering.prune_from) _ (only_option _ texts filtering.prune_from)
        (λ _. only_asking (judge_option finds _ texts filtering.tagshow) _ (only_option _ texts filtering.tagshow)
        (λ _. only_asking (judge_option finds _ texts filtering.taghide) _ (only_option _ texts filtering.taghide)
        (λ _. only_asking (judge_option finds _ texts (unwrap_or own [])) _ (only_option _ texts (unwrap_or own [])) (λ _. tt))))

    only_with : (filtering : Filtering) (own : Option (List ℕ)) (p : Profile) (focus ignore : Option TagFilter) → Only test (judge_with finds filtering own p focus ignore)
    unfolding judge_with
    only_with filtering own p focus ignore =
        only_asking (judge_frames finds filtering p.text) _ (only_frames filtering p.text)
        (λ _. only_asking (judge_tags finds p focus ignore) _ (only_tags p focus ignore)
        (λ _. only_asking (judge_names finds filtering own p.text) _ (only_names filtering own p.text) (λ _. tt)))

    -- All patterns of a report.
    pub only_judge : (filtering : Filtering) (own : Option (List ℕ)) (p : Profile) → Only test (judge finds filtering own p)
    only_judge filtering own p = only_with filtering own p _ _
