-- The keys that the own pattern finds, as they are gathered.
use Rattle.std.proofs.Common.{◌≡◌, ℕ, ◌+◌, ◌<◌, ◌≤◌, Bool, true, false, cond, not, ◌&&◌, ◌||◌, List, [], ◌∷◌, ◌++◌, length, map, drop, take, get_or, All, Option, Some, None, Result, Ok, Err, IfOk, pos, refl, sym, ap, subst, ◌∙◌}
use Rattle.std.specs.List.{list_any, slice_get}
use Rattle.std.specs.Option.{option_map_or}
use Rattle.std.proofs.lemmas.Option.{get_or_from_slice_get, slice_get_within}
use Rattle.std.proofs.lemmas.Bool.{false≢true}
use Rattle.std.proofs.lemmas.List.{drop_more, drop_all, take_more, map-append, get_or_default}
use Rattle.std.proofs.lemmas.List.Elements.{All-push}
use Rattle.pp_model.specs.declared.config.Config.{Config}
use Rattle.pp_model.specs.declared.frame.Frame.{Frame}
use Rattle.pp_model.specs.declared.profile.Profile.{Profile}
use Rattle.pp_model.specs.declared.profile.Sample.{Sample}
use Rattle.pp_model.specs.declared.grouping.Grouping.{Grouping}
use Rattle.pp_model.specs.Conditions.{RefersTo}
use Rattle.pp_model.specs.Rules.{NoRuleFails}
use Rattle.pp_model.proofs.RuleLemmas.{item_refers}
use Rattle.pp_model.specs.Finders.{Finder, Finders}
use Rattle.pp_model.specs.FrameTexts.{Written, written}
use Rattle.std.specs.Ordering.{eq_by_cmp, int_eq}
use Rattle.std.proofs.lemmas.Bool.Decides.{Decides-int_eq}
use Rattle.std.proofs.Math.Bool.{or-false}
use Rattle.pp_grain.specs.declared.key.Key.{Key}
use Rattle.pp_grain.specs.Keys.{key_cmp, key_written, frame_counts, IsKeyOf}
use Rattle.pp_grain.specs.Sight.{same_key, with_key}
use Rattle.pp_grain.proofs.SightLemmas.{key_decides}
use Rattle.pp_stack.specs.Filters.{frames_of_sample}
use Rattle.pp_count.specs.Column.{selected}
use Rattle.pp_count.specs.Seeing.{counted_frames, key_of_frame}
use Rattle.pp_count.proofs.CountedFrames.{counts_here}
use Rattle.pp_tree.specs.Found.{holds_key, is_own_frame, is_own_at, has_own_frame, has_own_sample, has_own_number, no_frame}
use Rattle.pp_tree.proofs.Shown.{any-append}

or-assoc : (a b c : Bool) → (a || (b || c)) ≡ ((a || b) || c)
or-assoc true b c = refl
or-assoc false b c = refl

-- what follows from the first changes nothing
absorbed : (a b : Bool) → (b ≡ true → a ≡ true) → a ≡ (a || b)
absorbed true b implies = refl
absorbed false true implies = implies refl
absorbed false false implies = refl

module _ (p : Profile) where
  -- a key that is there as indices is there in texts
  pub has_same : (keys : List Key) (key : Key) (k : Written) → list_any (same_key key) keys ≡ true → eq_by_cmp key_cmp k (key_written p key) ≡ true → holds_key p keys k ≡ true
  has_same [] key k there e = absurd (false≢true there)
  has_same (x ∷ keys) key k there e =
      elim (same_key key x) as (λ b. same_key key x ≡ b → (b || list_any (same_key key) keys) ≡ true → holds_key p (x ∷ keys) k ≡ true) [
        | true ↦ λ same t. ap (λ b. b || holds_key p keys k) (ap (λ y. eq_by_cmp key_cmp k (key_written p y)) (sym ((key_decides key x).0 same)) ∙ e)
        | false ↦ λ apart t.
            ap (λ b. eq_by_cmp key_cmp k (key_written p x) || b) (has_same keys key k t e)
            ∙ elim (eq_by_cmp key_cmp k (key_written p x)) as (λ b. (b || true) ≡ true) [ true ↦ refl | false ↦ refl ]
      ] refl there

  -- one more key
  pub has_more : (keys new : List Key) (key : Key) (k : Written) → new ≡ with_key keys key → holds_key p new k ≡ (holds_key p keys k || eq_by_cmp key_cmp k (key_written p key))
  has_more keys new key k is =
      ap (λ ks. holds_key p ks k) is
      ∙ elim (list_any (same_key key) keys) as (λ b. list_any (same_key key) keys ≡ b → holds_key p (cond b keys (keys ++ key ∷ [])) k ≡ (holds_key p keys k || eq_by_cmp key_cmp k (key_written p key))) [
        | true ↦ λ there. absorbed (holds_key p keys k) (eq_by_cmp key_cmp k (key_written p key)) (λ e. has_same keys key k there e)
        | false ↦ λ none.
            ap (list_any (eq_by_cmp key_cmp k)) (map-append (key_written p) keys (key ∷ []))
            ∙ any-append (eq_by_cmp key_cmp k) (map (key_written p) keys) (key_written p key ∷ [])
            ∙ ap (λ b. holds_key p keys k || b) (or-false (eq_by_cmp key_cmp k (key_written p key)))
      ] refl

  pub keys_more : (keys new : List Key) (key : Key) → new ≡ with_key keys key → IsKeyOf p key → All (IsKeyOf p) keys → All (IsKeyOf p) new
  keys_more keys new key is of_profile all =
      subst (λ ks. All (IsKeyOf p) ks) (sym is)
      (elim (list_any (same_key key) keys) as (λ b. All (IsKeyOf p) (cond b keys (keys ++ key ∷ []))) [ true ↦ all | false ↦ All-push (IsKeyOf p) keys key all of_profile ])

  module _ (grouping : Grouping) (find : Finder) (stack : List Frame) where
    -- the frames so far are added, and those that are left
    abbrev pub AddedTo : List Key → ℕ → List Key → Type 0
    AddedTo old i keys = (k : Written)
        → (holds_key p keys k || list_any (is_own_frame p grouping find k) (counted_frames grouping.noinlines (drop i stack)))
        ≡ (holds_key p old k || has_own_frame p grouping find k stack)

    pub added_more : (old keys new : List Key) (i : ℕ) → i < length stack
        → ((k : Written) → holds_key p new k ≡ (holds_key p keys k || is_own_at p grouping find k stack i))
        → AddedTo old i keys → AddedTo old (i + 1) new
    added_more old keys new i here is so_far = λ k.
        let f : Frame = get_or stack i no_frame in
        let rest : List Frame = counted_frames grouping.noinlines (drop (i + 1) stack) in
        let own : Frame → Bool = is_own_frame p grouping find k in
        let step : list_any own (counted_frames grouping.noinlines (drop i stack)) ≡ ((frame_counts stack i grouping.noinlines && own f) || list_any own rest) =
        ap (list_any own) (sym (counts_here stack i grouping.noinlines f here (get_or_default stack i no_frame f here)))
        ∙ one own (frame_counts stack i grouping.noinlines) f rest in
        ap (λ b. b || list_any own rest) (is k)
        ∙ sym (or-assoc (holds_key p keys k) (frame_counts stack i grouping.noinlines && own f) (list_any own rest))
        ∙ ap (λ b. holds_key p keys k || b) (sym step) ∙ so_far k where
          one : (own : Frame → Bool) (b : Bool) (f : Frame) (rest : List Frame) → list_any own (cond b (f ∷ rest) rest) ≡ ((b && own f) || list_any own rest)
          one own true f rest = refl
          one own false f rest = refl

    pub added_all : (old keys : List Key) (i : ℕ) → length stack ≤ i → AddedTo old i keys
        → (k : Written) → holds_key p keys k ≡ (holds_key p old k || has_own_frame p grouping find k stack)
    added_all old keys i past so_far k =
        sym (or-false (holds_key p keys k)) ∙ ap (λ fs. holds_key p keys k || list_any (is_own_frame p grouping find k) (counted_frames grouping.noinlines fs)) (sym (drop_all i stack past)) ∙ so_far k

-- The items so far pass or don't.
module _ (test : Written → ℕ → Bool) (p : Profile) where
  abbrev pub GatheredTo : List ℕ → ℕ → List Key → Type 0
  GatheredTo numbers i keys = (k : Written) → (holds_key p keys k || list_any (test k) (drop i numbers)) ≡ list_any (test k) numbers

  pub gathered_more : (numbers : List ℕ) (i d : ℕ) (keys new : List Key) → i < length numbers
      → ((k : Written) → holds_key p new k ≡ (holds_key p keys k || test k (get_or numbers i d)))
      → GatheredTo numbers i keys → GatheredTo numbers (i + 1) new
  gathered_more numbers i d keys new here is so_far = λ k.
      ap (λ b. b || list_any (test k) (drop (i + 1) numbers)) (is k)
      ∙ sym (or-assoc (holds_key p keys k) (test k (get_or numbers i d)) (list_any (test k) (drop (i + 1) numbers)))
      ∙ ap (λ ns. holds_key p keys k || list_any (test k) ns) (sym (drop_more numbers i d here)) ∙ so_far k

  pub gathered_all : (numbers : List ℕ) (i : ℕ) (keys : List Key) → length numbers ≤ i → GatheredTo numbers i keys
      → (k : Written) → holds_key p keys k ≡ list_any (test k) numbers
  gathered_all numbers i keys past so_far k =
      sym (or-false (holds_key p keys k)) ∙ ap (λ ns. holds_key p keys k || list_any (test k) ns) (sym (drop_all i numbers past)) ∙ so_far k

-- the marks so far, with one more
pub marked_more : (names keys : List Key) (i : ℕ) (marks : List Bool) (key : Key) (mark : Bool) → slice_get names i ≡ Some key → mark ≡ list_any (same_key key) keys
    → marks ≡ map (λ x. list_any (same_key x) keys) (take i names) → marks ++ mark ∷ [] ≡ map (λ x. list_any (same_key x) keys) (take (i + 1) names)
marked_more names keys i marks key mark at is so_far =
    (λ j. so_far j ++ is j ∷ [])
    ∙ sym (map-append (λ x. list_any (same_key x) keys) (take i names) (key ∷ []))
    ∙ ap (map (λ x. list_any (same_key x) keys)) (sym (take_more names i key (slice_get_within names i key at) ∙ ap (λ k. take i names ++ k ∷ []) (get_or_from_slice_get names i key key at)))

module _ (p : Profile) (grouping : Grouping) (find : Finder) where
  -- what is asked of the frame at the place, where it counts and is found
  pub own_here : (stack read : List Frame) (place : ℕ) (d : Frame) (key : Key) (k : Written) → read ≡ stack → place < length stack
      → frame_counts stack place grouping.noinlines ≡ true → find (written p (get_or read place d)).function ≡ true → key_written p key ≡ key_of_frame p grouping (get_or read place d)
      → eq_by_cmp key_cmp k (key_written p key) ≡ is_own_at p grouping find k stack place
  own_here stack read place d key k lent here counted found texts =
      let f : Frame = get_or stack place no_frame in
      let same : get_or read place d ≡ f = ap (λ fs. get_or fs place d) lent ∙ get_or_default stack place d no_frame here in
      ap (eq_by_cmp key_cmp k) (texts ∙ ap (key_of_frame p grouping) same)
      ∙ sym (λ i. counted i && ((ap (λ (x : Frame). find (written p x).function) (sym same) ∙ found) i && eq_by_cmp key_cmp k (key_of_frame p grouping f)))

-- what is asked may be asked in another form
pub found_as : {T E : Type 0} (r : Result T E) (new old a b : Written → Bool) → ((k : Written) → a k ≡ b k)
    → IfOk r (λ _. (k : Written) → new k ≡ (old k || a k)) → IfOk r (λ _. (k : Written) → new k ≡ (old k || b k))
found_as (Err e) new old a b same h = tt
found_as (Ok x) new old a b same h = λ k. h k ∙ ap (λ c. old k || c) (same k)

-- no sample has the number
pub not_read : (p : Profile) (f : Finders) (config : Config) (column : Option ℕ) (find : Finder) (n : ℕ) → slice_get p.sample n ≡ None
    → (a : Bool) (k : Written) → a ≡ (a || has_own_number p f config column find k n)
not_read p f config column find n none a k =
    sym (or-false a) ∙ ap (λ b. a || b) (sym (ap (λ o. option_map_or (has_own_sample p f config column find k) o false) none))

module _ (p : Profile) (f : Finders) (config : Config) (column : Option ℕ) (find : Finder) (n : ℕ) (s : Sample) (there : slice_get p.sample n ≡ Some s) where
  -- the sample's stack is dropped
  pub dropped : frames_of_sample p f s ≡ None → (a : Bool) (k : Written) → a ≡ (a || has_own_number p f config column find k n)
  dropped none a k =
      sym (or-false a)
      ∙ ap (λ b. a || b) (sym (ap (λ o. option_map_or (has_own_sample p f config column find k) o false) there
      ∙ ap (λ o. not (int_eq (selected column config.presentation.divide_by s) (pos 0)) && option_map_or (has_own_frame p config.grouping find k) o false) none
      ∙ and-false (not (int_eq (selected column config.presentation.divide_by s) (pos 0))))) where
        and-false : (b : Bool) → (b && false) ≡ false
        and-false true = refl
        and-false false = refl

  -- its value is 0
  pub without_value : selected column config.presentation.divide_by s ≡ pos 0 → (a : Bool) (k : Written) → a ≡ (a || has_own_number p f config column find k n)
  without_value zero a k =
      sym (or-false a)
      ∙ ap (λ b. a || b) (sym (ap (λ o. option_map_or (has_own_sample p f config column find k) o false) there
      ∙ ap (λ z. not (int_eq z (pos 0)) && option_map_or (has_own_frame p config.grouping find k) (frames_of_sample p f s) false) zero))

  -- it is there, and the value isn't 0
  pub asked : (stack : List Frame) → frames_of_sample p f s ≡ Some stack → (selected column config.presentation.divide_by s ≡ pos 0 → ⊥) → (k : Written)
      → has_own_frame p config.grouping find k stack ≡ has_own_number p f config column find k n
  asked stack is some k =
      sym (ap (λ o. option_map_or (has_own_sample p f config column find k) o false) there
      ∙ (λ i. not (nonzero i) && option_map_or (has_own_frame p config.grouping find k) (is i) false)) where
        nonzero : int_eq (selected column config.presentation.divide_by s) (pos 0) ≡ false
        nonzero = elim (int_eq (selected column config.presentation.divide_by s) (pos 0)) as (λ b. int_eq (selected column config.presentation.divide_by s) (pos 0) ≡ b → b ≡ false) [
          | true ↦ λ e. absurd (some ((Decides-int_eq (selected column config.presentation.divide_by s) (pos 0)).0 e))
          | false ↦ λ e. refl
        ] refl

-- a sample that is there refers to locations of the profile
pub is_member : (p q : Profile) (n : ℕ) (s : Sample) → q ≡ p → NoRuleFails q → slice_get p.sample n ≡ Some s → RefersTo p s
is_member p q n s same valid there =
    item_refers p q p.sample n s same (ap (λ (r : Profile). r.sample) (sym same)) (sym (get_or_from_slice_get p.sample n s s there)) (slice_get_within p.sample n s there) valid
