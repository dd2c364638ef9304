-- Reports of an aggregated profile.
use Rattle.std.proofs.Common.{◌≡◌, ℕ, Bool, true, false, cond, List, [], ◌∷◌, map, Option, Some, None, option_map, refl, sym, ap, subst, ◌∙◌}
use Rattle.std.specs.List.{filter, filter_map, cons_option, list_any}
use Rattle.std.specs.Option.{is_some, option_map_or}
use Rattle.pp_model.specs.declared.config.Config.{Config}
use Rattle.pp_model.specs.declared.frame.Frame.{Frame}
use Rattle.pp_model.specs.declared.profile.Profile.{Profile}
use Rattle.pp_model.specs.declared.profile.Sample.{Sample}
use Rattle.pp_model.specs.Finders.{Finder, Finders}
use Rattle.pp_model.specs.FrameTexts.{Written, written}
use Rattle.pp_model.specs.Frames.{stack_of}
use Rattle.pp_model.specs.Lookup.{text_at}
use Rattle.pp_model.proofs.FirstText.{text_zero}
use Rattle.pp_stack.specs.Filters.{finds_frame, load_pruned, filtered, frames_of_sample}
use Rattle.pp_stack.proofs.ToldLemmas.{list_any-map}
use Rattle.pp_count.specs.Column.{selected}
use Rattle.pp_count.specs.Sums.{Seen, renamed, weighed}
use Rattle.pp_count.specs.Seeing.{counted_frames, passes_tags, filtered_stack, framed_with, framed_samples, numbers_from}
use Rattle.pp_count.specs.Counts.{AreSumsOf, total_over}
use Rattle.pp_count.specs.Counted.{report_samples, report_frames, finds_own}
use Rattle.pp_count.specs.Matches.{frame_match, key_match, tag_match, matches_of}
use Rattle.pp_count.proofs.CallerLemmas.{key_of_written, weighed-renamed, keyed_report}
use Rattle.pp_count.proofs.Keyed.{map_twice}
use Rattle.pp_aggregate.specs.declared.aggregating.Kept.{Kept}
use Rattle.pp_aggregate.specs.Aggregated.{aggregated}
use Rattle.pp_aggregate.specs.Left.{left_of_frame, keeps_keys, keeps_counted, finds_in_force, names_in_force, prunes, Stays, FindsLeft, AsksNoFrame, patterns_stay, FramesStay}
use Rattle.pp_aggregate.specs.Laws.{KeysStay, AreLeft, FramesAreLeft, SamplesStay, SumsStay}
use Rattle.pp_aggregate.proofs.FilterLemmas.{FindSame, by_answers, same_pruned, same_filtered, unfiltered}
use Rattle.pp_aggregate.proofs.KeyLemmas.{key_left}
use Rattle.pp_aggregate.proofs.StackLemmas.{frames_whole, frame_whole, counted_left}

-- what is seen of samples, with something else in the place of keys
seen_mapped : {X J K : Type 0} (f : J → K) (g : X → Option (Seen J)) (xs : List X)
    → filter_map (λ x. option_map (renamed f) (g x)) xs ≡ map (renamed f) (filter_map g xs)
seen_mapped f g [] = refl
seen_mapped f g (x ∷ xs) =
    (λ i. cons_option (option_map (renamed f) (g x)) (seen_mapped f g xs i))
    ∙ elim (g x) as (λ o. cons_option (option_map (renamed f) o) (map (renamed f) (filter_map g xs)) ≡ map (renamed f) (cons_option o (filter_map g xs))) [
      | None ↦ refl
      | Some s ↦ refl
    ]

module _ (keep : Kept) (p : Profile) (f : Finders) (config : Config) (column : Option ℕ) (empty : text_at p 0 ≡ []) where
  abbrev kept : Profile
  kept = aggregated keep p

  -- what is seen of a sample
  abbrev framed : Profile → Sample → Option (Seen Written)
  framed q s = option_map (framed_with q config column s) (filtered_stack q f config.filtering s)

  -- The sample is dropped as before, or has what is left of its frames that count.
  record IsLeft (s : Sample) : Type 0 where
    some : is_some (filtered_stack kept f config.filtering s) ≡ is_some (filtered_stack p f config.filtering s)
    frames : framed kept s ≡ option_map (renamed (left_of_frame keep)) (framed p s)

  -- of one stack
  stack_left : (s : Sample) (o : Option (List Frame)) → ((x : Frame) → written kept x ≡ left_of_frame keep (written p x))
      → option_map (framed_with kept config column s) o ≡ option_map (renamed (left_of_frame keep)) (option_map (framed_with p config column s) o)
  stack_left s None each = refl
  stack_left s (Some stack) each = λ i. Some (record {
    value = selected column config.presentation.divide_by s;
    keys = ((λ j. map (λ x. each x j) (counted_frames config.grouping.noinlines stack)) ∙ sym (map_twice (left_of_frame keep) (written p) (counted_frames config.grouping.noinlines stack))) i;
  })

  -- With inlined frames patterns find the same.
  find_same : keep.inline_frames ≡ true → FindsLeft keep p f → FindSame (written kept) (written p) f
  find_same whole left = record {
    drop = stays (prunes f) left.drop;
    focus = stays (finds_in_force f.focus) left.focus;
    ignore = stays (finds_in_force f.ignore) left.ignore;
    hide = stays (finds_in_force f.hide) left.hide;
    show = stays (finds_in_force f.show) left.show;
    show_from = stays (finds_in_force f.show_from) left.show_from;
    prune_from = stays (names_in_force f.prune_from) left.prune_from;
  }
    where
      stays : (test : Written → Bool) → Stays keep p test → (x : Frame) → test (written kept x) ≡ test (written p x)
      stays test same x = ap test (frame_whole keep p empty whole x) ∙ same x

  whole_left : keep.inline_frames ≡ true → FindsLeft keep p f → (s : Sample) → IsLeft s
  whole_left whole left s =
      let stacks : frames_of_sample kept f s ≡ frames_of_sample p f s =
      ap (filtered (written kept) f) (frames_whole keep p empty whole 0 s.location_id)
      ∙ same_filtered (written kept) (written p) f (find_same whole left) (stack_of p s) in
      let same : filtered_stack kept f config.filtering s ≡ filtered_stack p f config.filtering s = ap (λ o. cond (passes_tags p f config.filtering s) o None) stacks in
      record {
        some = ap is_some same;
        frames = ap (option_map (framed_with kept config column s)) same ∙ stack_left s (filtered_stack p f config.filtering s) (frame_whole keep p empty whole);
      }

  -- the pattern has a match where it had one
  abbrev Matches : Option Finder → Type 0
  Matches pattern = frame_match kept f pattern p.sample ≡ frame_match p f pattern p.sample

  match_whole : keep.inline_frames ≡ true → FindsLeft keep p f → (pattern : Option Finder)
      → ((x : Frame) → finds_in_force pattern (written kept x) ≡ finds_in_force pattern (written p x)) → Matches pattern
  match_whole whole left pattern same =
      (λ i. option_map_or (λ find. list_any (λ s. list_any (λ x. finds_frame find (written kept x)) (pruned_same s i)) p.sample) pattern false)
      ∙ by_answers (written kept) (written p) finds_frame (λ test. list_any (λ s. list_any test (load_pruned (written p) f (stack_of p s))) p.sample) false pattern same
    where
      pruned_same : (s : Sample) → load_pruned (written kept) f (stack_of kept s) ≡ load_pruned (written p) f (stack_of p s)
      pruned_same s =
          ap (load_pruned (written kept) f) (frames_whole keep p empty whole 0 s.location_id)
          ∙ same_pruned (written kept) (written p) f (find_same whole left) (stack_of p s)

  match_none : (pattern : Option Finder) → pattern ≡ None → Matches pattern
  match_none pattern none =
      ap (λ o. frame_match kept f o p.sample) none ∙ sym (ap (λ o. frame_match p f o p.sample) none)

  matches_left : FramesStay keep p f config.grouping → matches_of kept f config.filtering ≡ matches_of p f config.filtering
  matches_left stay = by keep.inline_frames refl stay.patterns
    where
      all : Matches f.focus → Matches f.ignore → Matches f.hide → Matches f.show → Matches f.show_from → matches_of kept f config.filtering ≡ matches_of p f config.filtering
      all focus ignore hide show show_from = λ i.
          focus i ∷ ignore i ∷ hide i ∷ show i ∷ show_from i
          ∷ tag_match p config.filtering.tagfocus f.tagfocus p.sample ∷ tag_match p config.filtering.tagignore f.tagignore p.sample
          ∷ true ∷ key_match p f.tagshow p.sample ∷ key_match p f.taghide p.sample ∷ []

      by : (b : Bool) → keep.inline_frames ≡ b → patterns_stay b keep p f → matches_of kept f config.filtering ≡ matches_of p f config.filtering
      by true is left =
          let same = find_same is left in
          let each = match_whole is left in
          all (each f.focus same.focus) (each f.ignore same.ignore) (each f.hide same.hide) (each f.show same.show) (each f.show_from same.show_from)
      by false is none =
          all (match_none f.focus none.focus) (match_none f.ignore none.ignore) (match_none f.hide none.hide) (match_none f.show none.show)
          (match_none f.show_from none.show_from)

  -- without them
  last_left : keeps_counted keep config.grouping ≡ true → AsksNoFrame f → (s : Sample) → IsLeft s
  last_left counted none s =
      let before : filtered_stack p f config.filtering s ≡ cond (passes_tags p f config.filtering s) (Some (stack_of p s)) None =
      ap (λ o. cond (passes_tags p f config.filtering s) o None) (unfiltered (written p) f (stack_of p s) none) in
      let after : filtered_stack kept f config.filtering s ≡ cond (passes_tags p f config.filtering s) (Some (stack_of kept s)) None =
      ap (λ o. cond (passes_tags p f config.filtering s) o None) (unfiltered (written kept) f (stack_of kept s) none) in
      record {
        some = ap is_some after ∙ by_tags (passes_tags p f config.filtering s) ∙ sym (ap is_some before);
        frames =
            ap (option_map (framed_with kept config column s)) after
            ∙ framed_tags (passes_tags p f config.filtering s) (counted_left keep p empty config.grouping.noinlines 0 s.location_id counted)
            ∙ sym (ap (λ o. option_map (renamed (left_of_frame keep)) (option_map (framed_with p config column s) o)) before);
      }
    where
      by_tags : (b : Bool) → is_some (cond b (Some (stack_of kept s)) None) ≡ is_some (cond b (Some (stack_of p s)) None)
      by_tags true = refl
      by_tags false = refl

      framed_tags : (b : Bool)
          → map (written kept) (counted_frames config.grouping.noinlines (stack_of kept s)) ≡ map (left_of_frame keep) (map (written p) (counted_frames config.grouping.noinlines (stack_of p s)))
          → option_map (framed_with kept config column s) (cond b (Some (stack_of kept s)) None)
          ≡ option_map (renamed (left_of_frame keep)) (option_map (framed_with p config column s) (cond b (Some (stack_of p s)) None))
      framed_tags true keys = λ i. Some (record { value = selected column config.presentation.divide_by s; keys = keys i })
      framed_tags false keys = refl

  -- either way
  each_left : FramesStay keep p f config.grouping → (s : Sample) → IsLeft s
  each_left stay = by keep.inline_frames refl stay.patterns
    where
      by : (b : Bool) → keep.inline_frames ≡ b → patterns_stay b keep p f → (s : Sample) → IsLeft s
      by true is patterns = whole_left is patterns
      by false is patterns = last_left stay.counted patterns

  module _ (stay : FramesStay keep p f config.grouping) where
    some_left : (s : Sample) → is_some (filtered_stack kept f config.filtering s) ≡ is_some (filtered_stack p f config.filtering s)
    some_left s = (each_left stay s).some

    pub frames_left : report_frames kept f config column ≡ map (renamed (left_of_frame keep)) (report_frames p f config column)
    frames_left =
        (λ i. weighed (filter_map (λ s. (each_left stay s).frames i) p.sample))
        ∙ ap weighed (seen_mapped (left_of_frame keep) (framed p) p.sample)
        ∙ weighed-renamed (left_of_frame keep) (framed_samples p f config column p.sample)

    pub are_left : AreLeft keep p f config column
    are_left = record {
      numbers = λ i. numbers_from (λ s. some_left s i) 0 p.sample;
      total = λ i. total_over p config.presentation column (cond config.presentation.relative_percentages (filter (λ s. some_left s i) p.sample) p.sample);
      frames = frames_left;
      matches = matches_left stay;
      own = λ functions.
          ap (list_any (λ s. list_any (finds_own f) s.keys)) frames_left
          ∙ list_any-map (renamed (left_of_frame keep)) (λ s. list_any (finds_own f) s.keys) (report_frames p f config column)
          ∙ (λ i. list_any (λ s. own_left functions s.keys i) (report_frames p f config column));
    }
      where
        own_left : keep.functions ≡ true → (ws : List Written) → list_any (finds_own f) (map (left_of_frame keep) ws) ≡ list_any (finds_own f) ws
        own_left functions ws =
            list_any-map (left_of_frame keep) (finds_own f) ws
            ∙ (λ i. list_any (λ w. option_map_or (λ find. find (cond (functions i) w.function [])) f.own false) ws)

    pub samples_stay : keeps_keys keep config.grouping.grain config.grouping.showcolumns ≡ true → report_samples kept f config column ≡ report_samples p f config column
    samples_stay all =
        sym (keyed_report kept f config column)
        ∙ ap (map (renamed (key_of_written config.grouping))) frames_left
        ∙ map_twice (renamed (key_of_written config.grouping)) (renamed (left_of_frame keep)) (report_frames p f config column)
        ∙ (λ i. map (λ s. keys_same s i) (report_frames p f config column))
        ∙ keyed_report p f config column
      where
        keys_same : (s : Seen Written) → renamed (key_of_written config.grouping) (renamed (left_of_frame keep) s) ≡ renamed (key_of_written config.grouping) s
        keys_same s = λ i. record {
          value = s.value;
          keys = (map_twice (key_of_written config.grouping) (left_of_frame keep) s.keys ∙ (λ j. map (λ w. key_left keep config.grouping.grain config.grouping.showcolumns w all j) s.keys)) i;
        }

pub frames_are_left : FramesAreLeft
frames_are_left keep p f config column valid stay = are_left keep p f config column (text_zero p valid) stay

pub samples_are_same : SamplesStay
samples_are_same keep p f config column valid stay all = samples_stay keep p f config column (text_zero p valid) stay all

-- sums by keys, over the same samples and the same texts
pub sums_are_same : SumsStay
sums_are_same keep p f config column sums valid stay all given =
    let own : AreSumsOf (aggregated keep p) (report_samples p f config column) sums = record {
      occur = given.occur;
      once = given.once;
      flat = given.flat;
      cum = given.cum;
    } in
    subst (λ (samples : List (Seen Written)). AreSumsOf (aggregated keep p) samples sums) (sym (samples_are_same keep p f config column valid stay all)) own

-- stacks that no filter cut
pub keys_are_same : KeysStay
keys_are_same keep p grouping s valid counted all =
    sym (map_twice key (written kept) (counted_frames grouping.noinlines (stack_of kept s)))
    ∙ ap (map key) (counted_left keep p (text_zero p valid) grouping.noinlines 0 s.location_id counted)
    ∙ map_twice key (left_of_frame keep) (map (written p) (counted_frames grouping.noinlines (stack_of p s)))
    ∙ (λ i. map (λ w. key_left keep grouping.grain grouping.showcolumns w all i) (map (written p) (counted_frames grouping.noinlines (stack_of p s))))
    ∙ map_twice key (written p) (counted_frames grouping.noinlines (stack_of p s))
  where
    kept : Profile
    kept = aggregated keep p

    key : Written → Written
    key = key_of_written grouping
