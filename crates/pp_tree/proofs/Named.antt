-- What the own pattern finds, by the functions of keys.
use Rattle.std.proofs.Common.{◌≡◌, ℕ, zero, suc, ◌<◌, Bool, true, false, ◌&&◌, ◌||◌, List, [], ◌∷◌, length, map, get_or, All, Option, Some, refl, sym, ap, ◌∙◌, arith}
use Rattle.std.specs.List.{list_any, slice_index_or}
use Rattle.std.specs.Option.{option_map_or}
use Rattle.std.specs.Ordering.{eq_by_cmp}
use Rattle.std.proofs.lemmas.Bool.{false≢true}
use Rattle.std.proofs.lemmas.List.{get_or-map}
use Rattle.std.proofs.lemmas.List.Elements.{All-head, All-tail}
use Rattle.pp_model.specs.declared.config.Config.{Config}
use Rattle.pp_model.specs.declared.grouping.Grain.{Grain}
use Rattle.pp_model.specs.declared.grouping.Grain.TheVariants.{Functions, FileFunctions, Files, Lines, Addresses}
use Rattle.pp_model.specs.declared.profile.Profile.{Profile}
use Rattle.pp_model.specs.Finders.{Finder, Finders}
use Rattle.pp_model.specs.FrameTexts.{Written}
use Rattle.pp_grain.specs.declared.key.Key.{Key}
use Rattle.pp_grain.specs.Keys.{key_cmp, key_written, key_texts, IsKeyOf}
use Rattle.pp_stack.proofs.ToldLemmas.{list_any-map}
use Rattle.pp_count.specs.Counted.{report_frames, report_samples, finds_own, has_own_match}
use Rattle.pp_count.specs.Counts.{AreSumsOf}
use Rattle.pp_count.specs.declared.sums.Sums.{Sums}
use Rattle.pp_count.specs.Sums.{Seen, has, occurs, renamed}
use Rattle.pp_count.proofs.CallerLemmas.{key_of_written, keyed_report}
use Rattle.pp_count.proofs.Ties.{tied, tied_self}
use Rattle.pp_tree.specs.Found.{is_own_of, keeps_function}
use Rattle.pp_tree.specs.Peek.{is_found_key}
use Rattle.pp_tree.proofs.Owned.{any_implies, key_match, no_match}

or-true : (b : Bool) → (b || true) ≡ true
or-true true = refl
or-true false = refl

function_kept : (grain : Grain) (columns : Bool) (w : Written) → keeps_function grain ≡ true → (key_texts grain columns w).function ≡ w.function
function_kept Functions columns w keeps = refl
function_kept FileFunctions columns w keeps = refl
function_kept Files columns w keeps = absurd (false≢true keeps)
function_kept Lines columns w keeps = refl
function_kept Addresses columns w keeps = refl

module _ (p : Profile) (f : Finders) (config : Config) (column : Option ℕ) where
  -- a frame that is found has a key that occurs
  own_occurs : (k : Written) (ws : List Written) → list_any (is_own_of f config.grouping k) ws ≡ true → has key_cmp k (map (key_of_written config.grouping) ws) ≡ true
  own_occurs k ws some =
      list_any-map (key_of_written config.grouping) (eq_by_cmp key_cmp k) ws
      ∙ any_implies (is_own_of f config.grouping k) (λ w. eq_by_cmp key_cmp k (key_of_written config.grouping w)) (λ w e. second (finds_own f w) (eq_by_cmp key_cmp k (key_of_written config.grouping w)) e) ws some where
        second : (a b : Bool) → (a && b) ≡ true → b ≡ true
        second true b e = e
        second false b e = absurd (false≢true e)

  -- a key that is found occurs
  pub found_occurs : (k : Written) → is_found_key p f config column k ≡ true → occurs key_cmp (report_samples p f config column) k ≡ true
  found_occurs k some =
      sym (ap (λ ss. occurs key_cmp ss k) (keyed_report p f config column))
      ∙ list_any-map (renamed (key_of_written config.grouping)) (λ (s : Seen Written). has key_cmp k s.keys) (report_frames p f config column)
      ∙ any_implies (λ (s : Seen Written). list_any (is_own_of f config.grouping k) s.keys) (λ (s : Seen Written). has key_cmp k (map (key_of_written config.grouping) s.keys))
      (λ s e. own_occurs k s.keys e) (report_frames p f config column) some

  module _ (keeps : keeps_function config.grouping.grain ≡ true) (k : Written) where
    -- a frame with the key is found where the key's function is
    own_by_key : (w : Written) → is_own_of f config.grouping k w ≡ (finds_own f k && eq_by_cmp key_cmp k (key_of_written config.grouping w))
    own_by_key w = elim (eq_by_cmp key_cmp k (key_of_written config.grouping w)) as (λ b. eq_by_cmp key_cmp k (key_of_written config.grouping w) ≡ b → (finds_own f w && b) ≡ (finds_own f k && b)) [
      | true ↦ λ e.
          let same : w.function ≡ k.function = sym (ap (λ (x : Written). x.function) (tied k (key_of_written config.grouping w) e) ∙ function_kept config.grouping.grain config.grouping.showcolumns w keeps) in
          ap (λ (text : List ℕ). option_map_or (λ (find : Finder). find text) f.own false && true) same
      | false ↦ λ e. none (finds_own f w) ∙ sym (none (finds_own f k))
    ] refl where
      none : (b : Bool) → (b && false) ≡ false
      none true = refl
      none false = refl

    in_sample : (b : Bool) → finds_own f k ≡ b → (ws : List Written) → list_any (is_own_of f config.grouping k) ws ≡ (b && has key_cmp k (map (key_of_written config.grouping) ws))
    in_sample true e [] = refl
    in_sample false e [] = refl
    in_sample true e (w ∷ ws) = λ i. (own_by_key w ∙ ap (λ b. b && eq_by_cmp key_cmp k (key_of_written config.grouping w)) e) i || in_sample true e ws i
    in_sample false e (w ∷ ws) = λ i. (own_by_key w ∙ ap (λ b. b && eq_by_cmp key_cmp k (key_of_written config.grouping w)) e) i || in_sample false e ws i

    in_samples : (b : Bool) → finds_own f k ≡ b → (ss : List (Seen Written))
        → list_any (λ s. list_any (is_own_of f config.grouping k) s.keys) ss ≡ (b && occurs key_cmp (map (renamed (key_of_written config.grouping)) ss) k)
    in_samples true e [] = refl
    in_samples false e [] = refl
    in_samples true e (s ∷ ss) = λ i. in_sample true e s.keys i || in_samples true e ss i
    in_samples false e (s ∷ ss) = λ i. in_sample false e s.keys i || in_samples false e ss i

    -- a key that occurs is found where the pattern finds its function
    found_by_key : occurs key_cmp (report_samples p f config column) k ≡ true → is_found_key p f config column k ≡ finds_own f k
    found_by_key there =
        in_samples (finds_own f k) refl (report_frames p f config column)
        ∙ ap (λ ss. finds_own f k && occurs key_cmp ss k) (keyed_report p f config column) ∙ ap (λ b. finds_own f k && b) there ∙ all (finds_own f k) where
          all : (b : Bool) → (b && true) ≡ b
          all true = refl
          all false = refl

-- a name is one of the names
name_there : (p : Profile) (names : List Key) (i : ℕ) (d : Key) → i < length names → list_any (eq_by_cmp key_cmp (key_written p (get_or names i d))) (map (key_written p) names) ≡ true
name_there p [] i d here = absurd (omega (arith, here))
name_there p (x ∷ names) zero d here = ap (λ b. b || list_any (eq_by_cmp key_cmp (key_written p x)) (map (key_written p) names)) (tied_self (key_written p x))
name_there p (x ∷ names) (suc i) d here =
    ap (λ b. eq_by_cmp key_cmp (key_written p (get_or names i d)) (key_written p x) || b) (name_there p names i d (omega (arith, here)))
    ∙ or-true (eq_by_cmp key_cmp (key_written p (get_or names i d)) (key_written p x))

-- The verdicts on the functions of keys that occur are what is found of these.
verdicts_found : (p : Profile) (find : Finder) (test : Written → Bool) (names : List Key) → All (IsKeyOf p) names → All (λ key. test (key_written p key) ≡ find (key_written p key).function) names
    → map (λ key. slice_index_or (map find p.text) key.function false) names ≡ map (λ key. test (key_written p key)) names
verdicts_found p find test [] of_profile tests = refl
verdicts_found p find test (key ∷ names) of_profile tests = λ i.
    (get_or-map find p.text key.function [] false (All-head (IsKeyOf p) key names of_profile).function ∙ sym (All-head (λ k. test (key_written p k) ≡ find (key_written p k).function) key names tests)) i
    ∷ verdicts_found p find test names (All-tail (IsKeyOf p) key names of_profile) (All-tail (λ k. test (key_written p k) ≡ find (key_written p k).function) key names tests) i

module _ (p : Profile) (f : Finders) (config : Config) (column : Option ℕ) (sums : Sums) (are : AreSumsOf p (report_samples p f config column) sums) where
  pub named_found : (find : Finder) → f.own ≡ Some find → keeps_function config.grouping.grain ≡ true → All (IsKeyOf p) sums.names
      → map (λ key. slice_index_or (map find p.text) key.function false) sums.names ≡ map (λ key. is_found_key p f config column (key_written p key)) sums.names
  named_found find own keeps of_profile = verdicts_found p find (is_found_key p f config column) sums.names of_profile (λ i d here.
      let k : Written = key_written p (get_or sums.names i d) in
      found_by_key p f config column keeps k (sym (are.occur k) ∙ name_there p sums.names i d here)
      ∙ ap (λ (o : Option Finder). option_map_or (λ (find : Finder). find k.function) o false) own)

  -- a mark of a key that is found
  mark_there : (names : List Key) (k : Written) → list_any (eq_by_cmp key_cmp k) (map (key_written p) names) ≡ true → is_found_key p f config column k ≡ true
      → list_any (λ mark. mark) (map (λ key. is_found_key p f config column (key_written p key)) names) ≡ true
  mark_there [] k there found = there
  mark_there (x ∷ names) k there found =
      elim (eq_by_cmp key_cmp k (key_written p x)) as (λ b. eq_by_cmp key_cmp k (key_written p x) ≡ b → (b || list_any (eq_by_cmp key_cmp k) (map (key_written p) names)) ≡ true
      → (is_found_key p f config column (key_written p x) || list_any (λ mark. mark) (map (λ key. is_found_key p f config column (key_written p key)) names)) ≡ true) [
        | true ↦ λ e t.
            ap (λ b. b || list_any (λ mark. mark) (map (λ key. is_found_key p f config column (key_written p key)) names))
            (sym (ap (is_found_key p f config column) (tied k (key_written p x) e)) ∙ found)
        | false ↦ λ e t.
            ap (λ b. is_found_key p f config column (key_written p x) || b) (mark_there names k t found) ∙ or-true (is_found_key p f config column (key_written p x))
      ] refl there

  -- where no name is marked, no frame is found
  pub none_marked : (found : List Bool) → found ≡ map (λ key. is_found_key p f config column (key_written p key)) sums.names → list_any (λ mark. mark) found ≡ false
      → has_own_match p f config column ≡ false
  none_marked found is none = no_match p f config column (λ k. elim (is_found_key p f config column k) as (λ b. is_found_key p f config column k ≡ b → b ≡ false) [
    | true ↦ λ e. absurd (false≢true (sym (ap (list_any (λ mark. mark)) (sym is) ∙ none) ∙ mark_there sums.names k (are.occur k ∙ found_occurs p f config column k e) e))
    | false ↦ λ e. refl
  ] refl)

  -- where a name is marked, a frame is found
  pub some_marked : (names : List Key) → list_any (λ mark. mark) (map (λ key. is_found_key p f config column (key_written p key)) names) ≡ true → has_own_match p f config column ≡ true
  some_marked [] some = absurd (false≢true some)
  some_marked (x ∷ names) some =
      elim (is_found_key p f config column (key_written p x)) as (λ b. is_found_key p f config column (key_written p x) ≡ b
      → (b || list_any (λ mark. mark) (map (λ key. is_found_key p f config column (key_written p key)) names)) ≡ true → has_own_match p f config column ≡ true) [
        | true ↦ λ e s. key_match p f config column (key_written p x) e
        | false ↦ λ e s. some_marked names s
      ] refl some
