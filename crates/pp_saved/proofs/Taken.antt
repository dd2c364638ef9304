-- What a report comes to where the matcher refuses no pattern: what it comes to once its patterns are known.
use Rattle.std.proofs.Common.{◌≡◌, ℕ, Bool, true, List, [], ◌∷◌, ◌++◌, refl, sym, ap, ◌∙◌, subst}
use Rattle.std.specs.Prelude.{Option, Some, None, Ok, Err, unwrap_or}
use Rattle.pp_base.specs.FileMap.{FileMap}
use Rattle.pp_base.specs.Judges.{Answer}
use Rattle.pp_desk.specs.declared.input_line.InputLine.{InputLine}
use Rattle.pp_desk.specs.Asking.{Asking, go_on}
use Rattle.pp_desk.specs.Asking as asking
use Rattle.pp_desk.specs.Course.{course}
use Rattle.pp_desk.specs.Script.{Script, Give, Make, WriteOut, WriteErr, ReadFile, WriteFile, Ask, NextLine, ◌>>=◌}
use Rattle.pp_model.specs.declared.loaded.Loaded.{Loaded}
use Rattle.pp_model.specs.declared.profile.Profile.{Profile}
use Rattle.pp_model.specs.declared.report.Report.{Report}
use Rattle.pp_model.specs.declared.verdicts.Slot.{Slot}
use Rattle.pp_model.specs.declared.verdicts.Tag.{Tag}
use Rattle.pp_model.specs.declared.verdicts.Verdicts.{Verdicts}
use Rattle.pp_model.specs.declared.filtering.Filtering.{Filtering}
use Rattle.pp_pattern.specs.Patterns.{judge_pattern, judge_option, judge_part, judge_parts}
use Rattle.pp_pattern.specs.Report.{Finds, judge_frames, judge_filter, judge_tags, judge_names, judge_with, judge}
use Rattle.pp_tags.specs.declared.tag_filter.TagFilter.{TagFilter}
use Rattle.pp_tags.specs.TagFilters.{subjects}
use Rattle.pp_report.specs.declared.refusal.ReportRefusal.{ReportRefusal}
use Rattle.pp_model.specs.ReportFacts.{own_pattern}
use Rattle.pp_report.specs.Patterns.{ask_patterns, of_judged}
use Rattle.pp_report.specs.Prepared.{Showing, Settled, prepare_counts, settled_of}
use Rattle.pp_saved.specs.SavedBytes.{AllTaken}

-- Where each pattern is taken, the script gives this value; it does nothing but ask.
abbrev pub GivesTaken : {T : Type 0} → Script T → T → Type 0
GivesTaken (Give x) value = value ≡ x
GivesTaken (Make (WriteOut bytes) script) value = ⊥
GivesTaken (Make (WriteErr bytes) script) value = ⊥
GivesTaken (Make (ReadFile path limit) script) value = ⊥
GivesTaken (Make (WriteFile path bytes) script) value = ⊥
GivesTaken (Make (Ask pattern) script) value = GivesTaken (script true) value
GivesTaken (Make NextLine script) value = ⊥

-- one script and then another
pub taken_then : {A B : Type 0} (p : Script A) (q : A → Script B) (x : A) (y : B) → GivesTaken p x → GivesTaken (q x) y → GivesTaken (p >>= q) y
unfolding ◌>>=◌
taken_then (Give z) q x y first next = subst (λ v. GivesTaken (q v) y) first next
taken_then (Make (WriteOut bytes) p) q x y first next = absurd first
taken_then (Make (WriteErr bytes) p) q x y first next = absurd first
taken_then (Make (ReadFile path limit) p) q x y first next = absurd first
taken_then (Make (WriteFile path bytes) p) q x y first next = absurd first
taken_then (Make (Ask pattern) p) q x y first next = taken_then (p true) q x y first next
taken_then (Make NextLine p) q x y first next = absurd first

-- the course of such a script
pub taken_course : {T : Type 0} (p : Script T) (x : T) (files : FileMap) (locked : List (List ℕ)) (lines : List InputLine) (answers : List Answer)
    → AllTaken answers → GivesTaken p x → (course p files locked lines answers).value ≡ x
taken_course (Give z) x files locked lines answers taken gives = sym gives
taken_course (Make (WriteOut bytes) p) x files locked lines answers taken gives = absurd gives
taken_course (Make (WriteErr bytes) p) x files locked lines answers taken gives = absurd gives
taken_course (Make (ReadFile path limit) p) x files locked lines answers taken gives = absurd gives
taken_course (Make (WriteFile path bytes) p) x files locked lines answers taken gives = absurd gives
taken_course (Make (Ask pattern) p) x files locked lines [] taken gives = taken_course (p true) x files locked lines [] taken gives
taken_course (Make (Ask pattern) p) x files locked lines (answer ∷ answers) taken gives =
    ap (λ (yes : Bool). (course (p yes) files locked lines answers).value) taken.0
    ∙ taken_course (p true) x files locked lines answers taken.1 gives
taken_course (Make NextLine p) x files locked lines answers taken gives = absurd gives

-- The script gives something and refuses nothing, where each pattern is taken.
abbrev Gives : {R A : Type 0} → Asking R A → Type 0
Gives (Give (Ok x)) = Unit {0}
Gives (Give (Err refused)) = ⊥
Gives (Make (WriteOut bytes) script) = ⊥
Gives (Make (WriteErr bytes) script) = ⊥
Gives (Make (ReadFile path limit) script) = ⊥
Gives (Make (WriteFile path bytes) script) = ⊥
Gives (Make (Ask pattern) script) = Gives (script true)
Gives (Make NextLine script) = ⊥

-- what it gives
given : {R A : Type 0} (p : Asking R A) → Gives p → (x : A) × GivesTaken p (Ok x)
given (Give (Ok x)) gives = (x, refl)
given (Give (Err refused)) gives = absurd gives
given (Make (WriteOut bytes) p) gives = absurd gives
given (Make (WriteErr bytes) p) gives = absurd gives
given (Make (ReadFile path limit) p) gives = absurd gives
given (Make (WriteFile path bytes) p) gives = absurd gives
given (Make (Ask pattern) p) gives = given (p true) gives
given (Make NextLine p) gives = absurd gives

-- one script that may be refused, and then another
both : {R A B : Type 0} (p : Asking R A) (q : A → Asking R B) → Gives p → ((x : A) → Gives (q x)) → Gives (asking.◌>>=◌ p q)
unfolding asking.◌>>=◌ ◌>>=◌
both (Give (Ok x)) q first next = next x
both (Give (Err refused)) q first next = absurd first
both (Make (WriteOut bytes) p) q first next = absurd first
both (Make (WriteErr bytes) p) q first next = absurd first
both (Make (ReadFile path limit) p) q first next = absurd first
both (Make (WriteFile path bytes) p) q first next = absurd first
both (Make (Ask pattern) p) q first next = both (p true) q first next
both (Make NextLine p) q first next = absurd first

module _ (finds : Finds) where
  gives_pattern : {R : Type 0} (refused : R) (pattern : List ℕ) (texts : List (List ℕ)) → Gives (judge_pattern finds refused pattern texts)
  unfolding judge_pattern
  gives_pattern refused pattern texts = tt

  gives_option : {R : Type 0} (refused : R) (texts : List (List ℕ)) (pattern : List ℕ) → Gives (judge_option finds refused texts pattern)
  unfolding judge_option
  gives_option refused texts [] = tt
  gives_option refused texts (b ∷ bs) = both (judge_pattern finds refused (b ∷ bs) texts) _ (gives_pattern refused (b ∷ bs) texts) (λ found. tt)

  gives_part : {R : Type 0} (refused : R) (texts : List (List ℕ)) (part : List ℕ) → Gives (judge_part finds refused texts part)
  unfolding judge_part
  gives_part refused texts [] = tt
  gives_part refused texts (b ∷ bs) = gives_pattern refused (b ∷ bs) texts

  gives_parts : {R : Type 0} (refused : R) (texts : List (List ℕ)) (before : List (List Bool)) (parts : List (List ℕ)) → Gives (judge_parts finds refused texts before parts)
  unfolding judge_parts
  gives_parts refused texts before [] = tt
  gives_parts refused texts before (part ∷ parts) =
      both (judge_part finds refused texts part) _ (gives_part refused texts part) (λ found. gives_parts refused texts (before ++ found ∷ []) parts)

  gives_frames : (filtering : Filtering) (texts : List (List ℕ)) → Gives (judge_frames finds filtering texts)
  unfolding judge_frames
  gives_frames filtering texts =
      both (judge_option finds _ texts filtering.focus) _ (gives_option _ texts filtering.focus)
      (λ _. both (judge_option finds _ texts filtering.ignore) _ (gives_option _ texts filtering.ignore)
      (λ _. both (judge_option finds _ texts filtering.hide) _ (gives_option _ texts filtering.hide)
      (λ _. both (judge_option finds _ texts filtering.show) _ (gives_option _ texts filtering.show)
      (λ _. both (judge_option finds _ texts filtering.show_from) _ (gives_option _ texts filtering.show_from) (λ _. tt)))))

  gives_filter : (slot : Slot) (p : Profile) (tags : List Tag) (filter : Option TagFilter) → Gives (judge_filter finds slot p tags filter)
  unfolding judge_filter
  gives_filter slot p tags None = tt
  gives_filter slot p tags (Some f) = gives_parts _ (subjects p tags f.name) [] f.parts

  gives_tags : (p : Profile) (focus ignore : Option TagFilter) → Gives (judge_tags finds p focus ignore)
  unfolding judge_tags
  gives_tags p focus ignore =
      both (judge_filter finds _ p _ focus) _ (gives_filter _ p _ focus)
      (λ _. both (judge_filter finds _ p _ ignore) _ (gives_filter _ p _ ignore) (λ _. tt))

  gives_names : (filtering : Filtering) (own : Option (List ℕ)) (texts : List (List ℕ)) → Gives (judge_names finds filtering own texts)
  unfolding judge_names
  gives_names filtering own texts =
      both (judge_option finds _ texts filtering.prune_from) _ (gives_option _ texts filtering.prune_from)
      (λ _. both (judge_option finds _ texts filtering.tagshow) _ (gives_option _ texts filtering.tagshow)
      (λ _. both (judge_option finds _ texts filtering.taghide) _ (gives_option _ texts filtering.taghide)
      (λ _. both (judge_option finds _ texts (unwrap_or own [])) _ (gives_option _ texts (unwrap_or own [])) (λ _. tt))))

  gives_with : (filtering : Filtering) (own : Option (List ℕ)) (p : Profile) (focus ignore : Option TagFilter) → Gives (judge_with finds filtering own p focus ignore)
  unfolding judge_with
  gives_with filtering own p focus ignore =
      both (judge_frames finds filtering p.text) _ (gives_frames filtering p.text)
      (λ _. both (judge_tags finds p focus ignore) _ (gives_tags p focus ignore)
      (λ _. both (judge_names finds filtering own p.text) _ (gives_names filtering own p.text) (λ _. tt)))

  module _ (l : Loaded) (report : Report) (filtering : Filtering) where
    -- all patterns of a report
    gives_judge : Gives (judge finds filtering (own_pattern report) l.profile)
    gives_judge = gives_with filtering (own_pattern report) l.profile _ _

    asked : (x : Verdicts) × GivesTaken (ask_patterns finds l report filtering) (Ok x)
    unfolding ask_patterns
    asked =
        let judged = given (judge finds filtering (own_pattern report) l.profile) gives_judge in
        (judged.0, taken_then (judge finds filtering (own_pattern report) l.profile) (λ answer. Give (of_judged answer)) (Ok judged.0) (Ok judged.0) judged.1 refl)

    -- What is settled once all patterns were taken.
    pub gives_counts : (s : Showing) → GivesTaken (prepare_counts finds l report filtering s) (Ok (settled_of finds l report filtering s))
    unfolding prepare_counts asking.◌>>=◌
    gives_counts s =
        let first = asked in
        let next : Verdicts → Asking ReportRefusal Settled = λ _. Give (Ok (settled_of finds l report filtering s)) in
        taken_then (ask_patterns finds l report filtering) (go_on next) (Ok first.0) (Ok (settled_of finds l report filtering s)) first.1 refl
