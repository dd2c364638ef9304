-- What the own pattern finds, by keys and over all samples.
use Rattle.std.proofs.Common.{◌≡◌, ℕ, Bool, true, false, cond, not, ◌&&◌, ◌||◌, pos, List, [], ◌∷◌, map, All, Option, Some, None, Result, Ok, Err, IfOk, refl, sym, ap, ◌∙◌}
use Rattle.std.specs.List.{filter, filter_map, cons_option, list_any, slice_get}
use Rattle.std.specs.Option.{option_map_or, option_map, is_some}
use Rattle.std.specs.Ordering.{eq_by_cmp, int_eq}
use Rattle.std.proofs.lemmas.Bool.{false≢true}
use Rattle.std.proofs.lemmas.Option.{none-some, same_Some}
use Rattle.std.proofs.lemmas.List.Elements.{All-head, All-tail}
use Rattle.pp_base.proofs.Booleans.{same_bool}
use Rattle.pp_model.specs.declared.config.Config.{Config}
use Rattle.pp_model.specs.declared.frame.Frame.{Frame}
use Rattle.pp_model.specs.declared.profile.Profile.{Profile}
use Rattle.pp_model.specs.declared.profile.Sample.{Sample}
use Rattle.pp_model.specs.Finders.{Finder, Finders}
use Rattle.pp_model.specs.FrameTexts.{Written, written}
use Rattle.pp_model.specs.Judged.{judged}
use Rattle.pp_model.specs.Rules.{IsCompact}
use Rattle.pp_grain.specs.declared.key.Key.{Key}
use Rattle.pp_grain.specs.Keys.{key_cmp, key_written, key_texts, IsKeyOf}
use Rattle.pp_grain.specs.Sight.{same_key}
use Rattle.pp_grain.proofs.CallerLemmas.{same_keys}
use Rattle.pp_grain.proofs.SightLemmas.{key_decides}
use Rattle.pp_stack.specs.Filters.{frames_of_sample}
use Rattle.pp_count.specs.Column.{selected}
use Rattle.pp_count.specs.Counted.{report_frames, finds_own, has_own_match}
use Rattle.pp_count.specs.Seeing.{counted_frames, framed_with, framed_samples, filtered_stack, filtered_from, passes_tags}
use Rattle.pp_count.specs.Sums.{Seen, weighed}
use Rattle.pp_count.proofs.Kept.{kept_samples}
use Rattle.pp_count.proofs.Ties.{tied, tied_self}
use Rattle.pp_tree.specs.Peek.{is_found_key}
use Rattle.pp_tree.specs.Found.{is_own_of, holds_key, is_own_frame, has_own_frame, has_own_sample, has_own_number}
use Rattle.pp_tree.proofs.Marking.{has_same}

pub any_implies : {X : Type 0} (t u : X → Bool) → ((x : X) → t x ≡ true → u x ≡ true) → (xs : List X) → list_any t xs ≡ true → list_any u xs ≡ true
any_implies t u implies [] some = some
any_implies t u implies (x ∷ xs) some =
    elim (t x) as (λ b. t x ≡ b → (b || list_any t xs) ≡ true → (u x || list_any u xs) ≡ true) [
      | true ↦ λ e s. ap (λ b. b || list_any u xs) (implies x e)
      | false ↦ λ e s.
          ap (λ b. u x || b) (any_implies t u implies xs s)
          ∙ elim (u x) as (λ b. (b || true) ≡ true) [ true ↦ refl | false ↦ refl ]
    ] refl some

any-filter_map : {X Y : Type 0} (t : Y → Bool) (h : X → Option Y) (xs : List X) → list_any t (filter_map h xs) ≡ list_any (λ x. option_map_or t (h x) false) xs
any-filter_map t h [] = refl
any-filter_map t h (x ∷ xs) =
    elim (h x) as (λ o. list_any t (cons_option o (filter_map h xs)) ≡ (option_map_or t o false || list_any (λ y. option_map_or t (h y) false) xs)) [
      | None ↦ any-filter_map t h xs
      | Some y ↦ ap (λ b. t y || b) (any-filter_map t h xs)
    ]

-- what a pattern finds, where its verdicts are there
pub own_finder : (p : Profile) (pattern : Option Finder) (own : Option (List Bool)) (verdicts : List Bool) → own ≡ judged p pattern → own ≡ Some verdicts
    → (find : Finder) × (pattern ≡ Some find) × (verdicts ≡ map find p.text)
own_finder p None own verdicts is there = absurd (none-some verdicts (sym is ∙ there))
own_finder p (Some find) own verdicts is there = (find, refl, same_Some _ _ (sym there ∙ is))

module _ (p : Profile) (f : Finders) (config : Config) (column : Option ℕ) where
  -- a key that is found is that of a frame that is found
  pub key_match : (k : Written) → is_found_key p f config column k ≡ true → has_own_match p f config column ≡ true
  key_match k some = any_implies (λ (s : Seen Written). list_any (is_own_of f config.grouping k) s.keys) (λ (s : Seen Written). list_any (finds_own f) s.keys)
      (λ s e. any_implies (is_own_of f config.grouping k) (finds_own f) (λ w t. first (finds_own f w) (eq_by_cmp key_cmp k (key_texts config.grouping.grain config.grouping.showcolumns w)) t) s.keys e) (report_frames p f config column) some where
        first : (a b : Bool) → (a && b) ≡ true → a ≡ true
        first true b e = refl
        first false b e = e

  own_in : (ws : List Written) → list_any (finds_own f) ws ≡ true → (k : Written) × (list_any (is_own_of f config.grouping k) ws ≡ true)
  own_in [] some = absurd (false≢true some)
  own_in (w ∷ ws) some =
      elim (finds_own f w) as (λ b. finds_own f w ≡ b → (b || list_any (finds_own f) ws) ≡ true → (k : Written) × (list_any (is_own_of f config.grouping k) (w ∷ ws) ≡ true)) [
        | true ↦ λ e s.
            let k : Written = key_texts config.grouping.grain config.grouping.showcolumns w in
            let here : list_any (is_own_of f config.grouping k) (w ∷ ws) ≡ true = λ i. (e i && tied_self k i) || list_any (is_own_of f config.grouping k) ws in
            (k, here)
        | false ↦ λ e s.
            let rest = own_in ws s in
            let there : list_any (is_own_of f config.grouping rest.0) (w ∷ ws) ≡ true =
            ap (λ b. is_own_of f config.grouping rest.0 w || b) rest.1 ∙ elim (is_own_of f config.grouping rest.0 w) as (λ b. (b || true) ≡ true) [ true ↦ refl | false ↦ refl ] in
            (rest.0, there)
      ] refl some

  own_among : (ss : List (Seen Written)) → list_any (λ s. list_any (finds_own f) s.keys) ss ≡ true → (k : Written) × (list_any (λ s. list_any (is_own_of f config.grouping k) s.keys) ss ≡ true)
  own_among [] some = absurd (false≢true some)
  own_among (s ∷ ss) some =
      elim (list_any (finds_own f) s.keys) as (λ b. list_any (finds_own f) s.keys ≡ b → (b || list_any (λ t. list_any (finds_own f) t.keys) ss) ≡ true
      → (k : Written) × (list_any (λ t. list_any (is_own_of f config.grouping k) t.keys) (s ∷ ss) ≡ true)) [
        | true ↦ λ e r.
            let here = own_in s.keys e in
            let is : list_any (λ (t : Seen Written). list_any (is_own_of f config.grouping here.0) t.keys) (s ∷ ss) ≡ true =
            ap (λ b. b || list_any (λ (t : Seen Written). list_any (is_own_of f config.grouping here.0) t.keys) ss) here.1 in
            (here.0, is)
        | false ↦ λ e r.
            let rest = own_among ss r in
            let is : list_any (λ (t : Seen Written). list_any (is_own_of f config.grouping rest.0) t.keys) (s ∷ ss) ≡ true =
            ap (λ b. list_any (is_own_of f config.grouping rest.0) s.keys || b) rest.1 ∙ elim (list_any (is_own_of f config.grouping rest.0) s.keys) as (λ b. (b || true) ≡ true) [ true ↦ refl | false ↦ refl ] in
            (rest.0, is)
      ] refl some

  -- no key is found where no frame is
  pub no_match : ((k : Written) → is_found_key p f config column k ≡ false) → has_own_match p f config column ≡ false
  no_match none = elim (has_own_match p f config column) as (λ b. has_own_match p f config column ≡ b → b ≡ false) [
    | true ↦ λ e. let found = own_among (report_frames p f config column) e in absurd (false≢true (sym (none found.0) ∙ found.1))
    | false ↦ λ e. refl
  ] refl

  -- no frame is found where the pattern isn't in force
  pub no_own : (own : Option (List Bool)) → own ≡ judged p f.own → own ≡ None → has_own_match p f config column ≡ false
  no_own own is none = no_match (λ k. nothing k (report_frames p f config column)) where
    not_in_force : (pattern : Option Finder) → own ≡ judged p pattern → pattern ≡ None
    not_in_force None e = refl
    not_in_force (Some find) e = absurd (none-some (map find p.text) (sym none ∙ e))

    none_found : (k : Written) (ws : List Written) → list_any (is_own_of f config.grouping k) ws ≡ false
    none_found k [] = refl
    none_found k (w ∷ ws) =
        (λ i. (option_map_or (λ find. find w.function) (not_in_force f.own is i) false && eq_by_cmp key_cmp k (key_texts config.grouping.grain config.grouping.showcolumns w)) || list_any (is_own_of f config.grouping k) ws)
        ∙ none_found k ws

    nothing : (k : Written) (ss : List (Seen Written)) → list_any (λ s. list_any (is_own_of f config.grouping k) s.keys) ss ≡ false
    nothing k [] = refl
    nothing k (s ∷ ss) = (λ i. none_found k s.keys i || list_any (λ (t : Seen Written). list_any (is_own_of f config.grouping k) t.keys) ss) ∙ nothing k ss

  module _ (find : Finder) (own_is : f.own ≡ Some find) where
    own_frames : (k : Written) (fs : List Frame) → list_any (is_own_of f config.grouping k) (map (written p) fs) ≡ list_any (is_own_frame p config.grouping find k) fs
    own_frames k [] = refl
    own_frames k (x ∷ fs) = λ i.
        (option_map_or (λ find. find (written p x).function) (own_is i) false && eq_by_cmp key_cmp k (key_texts config.grouping.grain config.grouping.showcolumns (written p x)))
        || own_frames k fs i

    whole : (b : Bool) (o : Option (List Frame)) (stack : List Frame) → cond b o None ≡ Some stack → o ≡ Some stack
    whole true o stack e = e
    whole false o stack e = absurd (none-some stack e)

    over_samples : (k : Written) (ss : List Sample)
        → list_any (has_own_sample p f config column find k) (filter (λ s. is_some (filtered_stack p f config.filtering s)) ss)
        ≡ list_any (λ s. list_any (is_own_of f config.grouping k) s.keys) (weighed (framed_samples p f config column ss))
    over_samples k [] = refl
    over_samples k (s ∷ ss) =
        elim (filtered_stack p f config.filtering s) as (λ o. filtered_stack p f config.filtering s ≡ o
        → list_any (has_own_sample p f config column find k) (cond (is_some o) (s ∷ filter (λ t. is_some (filtered_stack p f config.filtering t)) ss) (filter (λ t. is_some (filtered_stack p f config.filtering t)) ss))
        ≡ list_any (λ t. list_any (is_own_of f config.grouping k) t.keys) (weighed (cons_option (option_map (framed_with p config column s) o) (framed_samples p f config column ss)))) [
          | None ↦ λ e. over_samples k ss
          | Some stack ↦ λ e.
              let frames : frames_of_sample p f s ≡ Some stack = whole (passes_tags p f config.filtering s) (frames_of_sample p f s) stack e in
              ap (λ o. (not (int_eq (selected column config.presentation.divide_by s) (pos 0)) && option_map_or (has_own_frame p config.grouping find k) o false)
              || list_any (has_own_sample p f config column find k) (filter (λ t. is_some (filtered_stack p f config.filtering t)) ss)) frames
              ∙ (λ i. (not (int_eq (selected column config.presentation.divide_by s) (pos 0)) && sym (own_frames k (counted_frames config.grouping.noinlines stack)) i) || over_samples k ss i)
              ∙ one (not (int_eq (selected column config.presentation.divide_by s) (pos 0))) (framed_with p config column s stack) (weighed (framed_samples p f config column ss))
        ] refl where
          one : (b : Bool) (x : Seen Written) (rest : List (Seen Written))
              → ((b && list_any (is_own_of f config.grouping k) x.keys) || list_any (λ t. list_any (is_own_of f config.grouping k) t.keys) rest)
              ≡ list_any (λ t. list_any (is_own_of f config.grouping k) t.keys) (cond b (x ∷ rest) rest)
          one true x rest = refl
          one false x rest = refl

    -- over the samples that the filters leave, by their numbers
    pub own_key_is : (kept : List ℕ) → kept ≡ filtered_from p f config.filtering 0 p.sample → (k : Written)
        → list_any (has_own_number p f config column find k) kept ≡ is_found_key p f config column k
    own_key_is kept is k =
        sym (any-filter_map (has_own_sample p f config column find k) (slice_get p.sample) kept)
        ∙ ap (list_any (has_own_sample p f config column find k)) (kept_samples p f config.filtering kept is)
        ∙ over_samples k p.sample

    -- the keys that are gathered over them are those that are found
    pub keys_found : (numbers kept : List ℕ) (keys : List Key) → numbers ≡ kept → kept ≡ filtered_from p f config.filtering 0 p.sample
        → ((k : Written) → holds_key p keys k ≡ list_any (has_own_number p f config column find k) numbers)
        → (k : Written) → holds_key p keys k ≡ is_found_key p f config column k
    keys_found numbers kept keys lent is gathered k = gathered k ∙ own_key_is numbers (lent ∙ is) k

-- names among keys, by texts
module _ (p : Profile) (compact : IsCompact p) (keys : List Key) (of_profile : All (IsKeyOf p) keys) where
  same_there : (key : Key) → IsKeyOf p key → (ks : List Key) → All (IsKeyOf p) ks → holds_key p ks (key_written p key) ≡ true → list_any (same_key key) ks ≡ true
  same_there key own [] all some = some
  same_there key own (x ∷ ks) all some =
      elim (eq_by_cmp key_cmp (key_written p key) (key_written p x)) as (λ b. eq_by_cmp key_cmp (key_written p key) (key_written p x) ≡ b
      → (b || holds_key p ks (key_written p key)) ≡ true → (same_key key x || list_any (same_key key) ks) ≡ true) [
        | true ↦ λ e s.
            let is : key ≡ x = same_keys p key x compact own (All-head (IsKeyOf p) x ks all) (tied (key_written p key) (key_written p x) e) in
            ap (λ b. b || list_any (same_key key) ks) ((key_decides key x).1 is)
        | false ↦ λ e s.
            ap (λ b. same_key key x || b) (same_there key own ks (All-tail (IsKeyOf p) x ks all) s)
            ∙ elim (same_key key x) as (λ b. (b || true) ≡ true) [ true ↦ refl | false ↦ refl ]
      ] refl some

  pub names_marked : (test : Written → Bool) → ((k : Written) → holds_key p keys k ≡ test k) → (names : List Key) → All (IsKeyOf p) names
      → map (λ key. list_any (same_key key) keys) names ≡ map (λ key. test (key_written p key)) names
  names_marked test is [] all = refl
  names_marked test is (key ∷ names) all = λ i.
      (same_bool (list_any (same_key key) keys) (holds_key p keys (key_written p key)) (λ e. has_same p keys key (key_written p key) e (tied_self (key_written p key)))
      (λ e. same_there key (All-head (IsKeyOf p) key names all) keys of_profile e) ∙ is (key_written p key)) i
      ∷ names_marked test is names (All-tail (IsKeyOf p) key names all) i

-- marks in another form
pub then_marked : {E : Type 0} (r : Result (List Bool) E) (a b : List Bool) → IfOk r (λ marks. marks ≡ a) → a ≡ b → IfOk r (λ marks. marks ≡ b)
then_marked (Ok marks) a b are is = are ∙ is
then_marked (Err e) a b are is = tt
