-- For crates above: the keys of a report's samples are those of their frames, and the parts of consecutive ranges can
-- be joined.
use Rattle.std.proofs.Common.{◌≡◌, ◌+◌, ◌==◌, ◌<◌, ◌^◌, true, false, cond, not, pos, nat_abs, ℕ, List, [], ◌∷◌, ◌++◌, length, map, Option, Some, None, option_map, refl, sym, ap, ◌∙◌, arith}
use Rattle.std.specs.List.{cons_option, sum_by}
use Rattle.std.specs.Ordering.{int_eq}
use Rattle.std.proofs.lemmas.List.Elements.{filter-append}
use Rattle.std.proofs.lemmas.List.Sums.{sum_by-append}
use Rattle.pp_model.specs.declared.config.Config.{Config}
use Rattle.pp_model.specs.declared.loaded.Loaded.{Loaded}
use Rattle.pp_model.specs.declared.verdicts.Verdicts.{Verdicts}
use Rattle.pp_grain.specs.declared.key.Key.{Key}
use Rattle.pp_count.specs.declared.part.KeySum.{KeySum}
use Rattle.pp_count.specs.declared.part.Part.{Part}
use Rattle.pp_count.specs.Column.{selected}
use Rattle.pp_count.specs.Joined.{AreWithin, AreConsecutive, CanJoin, samples_of_ranges, all_sums}
use Rattle.pp_count.specs.Parts.{sums_of}
use Rattle.pp_model.specs.declared.frame.Frame.{Frame}
use Rattle.pp_model.specs.declared.profile.Sample.{Sample}
use Rattle.pp_model.specs.declared.profile.Profile.{Profile}
use Rattle.pp_model.specs.declared.grouping.Grouping.{Grouping}
use Rattle.pp_model.specs.Finders.{Finders}
use Rattle.pp_model.specs.FrameTexts.{Written, written}
use Rattle.pp_grain.specs.Keys.{key_texts}
use Rattle.pp_count.specs.Sums.{Seen, weighed, renamed}
use Rattle.pp_count.specs.Seeing.{counted_frames, framed_with, framed_samples, filtered_stack, key_of_frame, seen_with, seen_samples, absolute_all}
use Rattle.pp_count.specs.Counted.{report_samples, report_frames}

-- what a frame that counts is in a report: its key
abbrev pub key_of_written : Grouping → Written → Written
key_of_written grouping = key_texts grouping.grain grouping.showcolumns

-- samples of value 0 are left out alike by keys and by what the keys stand for
pub weighed-renamed : {J K : Type 0} (f : J → K) (ss : List (Seen J)) → weighed (map (renamed f) ss) ≡ map (renamed f) (weighed ss)
weighed-renamed f [] = refl
weighed-renamed f (s ∷ ss) =
    elim (not (int_eq s.value (pos 0))) as (λ b. cond b (renamed f s ∷ weighed (map (renamed f) ss)) (weighed (map (renamed f) ss)) ≡ map (renamed f) (cond b (s ∷ weighed ss) (weighed ss))) [
      | true ↦ ap (λ r. renamed f s ∷ r) (weighed-renamed f ss)
      | false ↦ weighed-renamed f ss
    ]

module _ (p : Profile) (f : Finders) (config : Config) (column : Option ℕ) where
  keys_of_frames : (stack : List Frame) → map (key_of_written config.grouping) (map (written p) stack) ≡ map (key_of_frame p config.grouping) stack
  keys_of_frames [] = refl
  keys_of_frames (x ∷ stack) = ap (λ ks. key_of_frame p config.grouping x ∷ ks) (keys_of_frames stack)

  keyed_stack : (s : Sample) (stack : List Frame) → renamed (key_of_written config.grouping) (framed_with p config column s stack) ≡ seen_with p config column s stack
  keyed_stack s stack = ap (λ ks. record { value = (seen_with p config column s stack).value; keys = ks }) (keys_of_frames (counted_frames config.grouping.noinlines stack))

  keyed_option : (s : Sample) (o : Option (List Frame)) (ss : List (Seen Written))
      → map (renamed (key_of_written config.grouping)) (cons_option (option_map (framed_with p config column s) o) ss)
      ≡ cons_option (option_map (seen_with p config column s) o) (map (renamed (key_of_written config.grouping)) ss)
  keyed_option s None ss = refl
  keyed_option s (Some stack) ss = ap (λ r. r ∷ map (renamed (key_of_written config.grouping)) ss) (keyed_stack s stack)

  -- The samples by keys are the samples by frames, with each frame's key.
  pub keyed_frames : (samples : List Sample) → map (renamed (key_of_written config.grouping)) (framed_samples p f config column samples) ≡ seen_samples p f config column samples
  keyed_frames [] = refl
  keyed_frames (s ∷ samples) =
      keyed_option s (filtered_stack p f config.filtering s) (framed_samples p f config column samples)
      ∙ ap (cons_option (option_map (seen_with p config column s) (filtered_stack p f config.filtering s))) (keyed_frames samples)

  -- The samples that put frames into the report put keys into it, each frame its key.
  pub keyed_report : map (renamed (key_of_written config.grouping)) (report_frames p f config column) ≡ report_samples p f config column
  keyed_report =
      sym (weighed-renamed (key_of_written config.grouping) (framed_samples p f config column p.sample)) ∙ ap weighed (keyed_frames p.sample)

module _ (l : Loaded) (v : Verdicts) (config : Config) (column : Option ℕ) (names : List Key) where
  -- the sums of consecutive ranges are within the values of their samples
  consecutive_within : (ranges : List (List Sample)) (parts : List Part) (number : ℕ) → AreConsecutive l v config column names number ranges parts
      → (k : ℕ) → AreWithin (absolute_all column config.presentation.divide_by (samples_of_ranges ranges)) (sums_of k (all_sums parts))
  consecutive_within [] [] number are k = record { flat = omega arith; cum = omega arith }
  consecutive_within [] (part ∷ parts) number are k = absurd are
  consecutive_within (samples ∷ ranges) [] number are k = absurd are
  consecutive_within (samples ∷ ranges) (part ∷ parts) number are k =
      let size : Sample → ℕ = λ s. nat_abs (selected column config.presentation.divide_by s) in
      let rest = consecutive_within ranges parts (number + length samples) are.1 k in
      let split : sums_of k (part.sums ++ all_sums parts) ≡ sums_of k part.sums ++ sums_of k (all_sums parts) =
      filter-append (λ (e : KeySum). e.key == k) part.sums (all_sums parts) in
      let flat_of : KeySum → ℕ = λ e. nat_abs e.flat in
      let cum_of : KeySum → ℕ = λ e. nat_abs e.cum in
      record {
        flat = omega (
          arith,
          (are.0.within k).flat,
          rest.flat,
          ap (sum_by flat_of) split ∙ sum_by-append flat_of (sums_of k part.sums) (sums_of k (all_sums parts)),
          sum_by-append size samples (samples_of_ranges ranges),
        );
        cum = omega (
          arith,
          (are.0.within k).cum,
          rest.cum,
          ap (sum_by cum_of) split ∙ sum_by-append cum_of (sums_of k part.sums) (sums_of k (all_sums parts)),
          sum_by-append size samples (samples_of_ranges ranges),
        );
      }

  -- The parts of consecutive ranges can be joined where the values of the samples can be added up.
  pub can_join : (ranges : List (List Sample)) (parts : List Part) (number : ℕ) → AreConsecutive l v config column names number ranges parts
      → absolute_all column config.presentation.divide_by (samples_of_ranges ranges) < 2 ^ 63 → CanJoin parts
  can_join ranges parts number are fits = record {
    flat = λ k. omega (arith, fits, (consecutive_within ranges parts number are k).flat);
    cum = λ k. omega (arith, fits, (consecutive_within ranges parts number are k).cum);
  }
