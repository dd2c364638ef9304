-- What a whole walk comes to.
use Rattle.std.proofs.Common.{◌≡◌, ℕ, ◌<◌, ◌||◌, Bool, true, false, cond, not, pos, List, [], ◌∷◌, length, map, get_or, All, Option, refl, sym, ap, ◌∙◌, subst}
use Rattle.std.specs.Ordering.{eq_by_cmp, int_eq, nat_cmp}
use Rattle.std.proofs.lemmas.Bool.{false≢true}
use Rattle.std.proofs.lemmas.List.Elements.{All-filter, All-head, All-tail}
use Rattle.pp_model.specs.declared.config.Config.{Config}
use Rattle.pp_model.specs.declared.grouping.Grain.TheVariants.{Lines}
use Rattle.pp_model.specs.declared.profile.Profile.{Profile}
use Rattle.pp_model.specs.declared.grouping.Grouping.{Grouping}
use Rattle.pp_model.specs.Finders.{Finders}
use Rattle.pp_model.specs.FirstSight.{place_of}
use Rattle.pp_model.specs.FrameTexts.{Written}
use Rattle.pp_model.specs.Lookup.{text_at}
use Rattle.pp_model.specs.Rules.{IsCompact}
use Rattle.pp_grain.specs.declared.key.Key.{Key}
use Rattle.pp_grain.specs.Keys.{key_cmp, key_texts, key_written, IsKeyOf}
use Rattle.pp_grain.specs.Sight.{same_key}
use Rattle.pp_count.specs.Counted.{report_frames}
use Rattle.pp_count.specs.Counts.{samples_at}
use Rattle.pp_count.specs.Parts.{HasBelow}
use Rattle.pp_count.specs.Seeing.{filtered_from, seen_samples}
use Rattle.pp_count.specs.Sums.{Seen, weighed, renamed, has, occurs}
use Rattle.pp_count.specs.Table.{no_key, written_key}
use Rattle.pp_count.specs.Tally.{no_tally, tally_at}
use Rattle.pp_count.proofs.Based.{kept_seen}
use Rattle.pp_count.proofs.CallerLemmas.{keyed_report, weighed-renamed}
use Rattle.pp_count.proofs.Ties.{tied}
use Rattle.pp_source.specs.declared.found.FoundKeys.{FoundKeys}
use Rattle.pp_source.specs.declared.found.KeyPart.{KeyPart}
use Rattle.pp_source.specs.declared.found.KeyPart.TheVariants.{Routine, Line}
use Rattle.pp_source.specs.declared.tallies.KeyTallies.{KeyTallies}
use Rattle.pp_source.specs.Found.{IsFoundOf, is_among_keys, has_own_function, part_key, part_of}
use Rattle.pp_source.specs.Ledgers.{AreAdded, HasKey, HasKeyTallies, by_lines}
use Rattle.pp_source.specs.Tally.{new_number, IsTallyBy}
use Rattle.pp_source.proofs.Parts.{part_of_profile, part_told, ties_none, ties_there}
use Rattle.pp_source.proofs.Retelling.{no_tally_of, renamed_twice, tally_same}
use Rattle.pp_source.proofs.Tallying.{added_by}

-- a part of a line is that of the frame
part_of_line : (part : KeyPart) (w : Written) → part_of part (key_texts Lines false w) ≡ part_of part w
part_of_line Routine w = refl
part_of_line Line w = refl

parts_of_lines : (part : KeyPart) (ws : List Written) → map (part_of part) (map (key_texts Lines false) ws) ≡ map (part_of part) ws
parts_of_lines part [] = refl
parts_of_lines part (w ∷ ws) = λ i. part_of_line part w i ∷ parts_of_lines part ws i

parts_of_frames : (part : KeyPart) (ss : List (Seen Written)) → map (renamed (part_of part)) (map (renamed (key_texts Lines false)) ss) ≡ map (renamed (part_of part)) ss
parts_of_frames part [] = refl
parts_of_frames part (s ∷ ss) = λ i. record { value = s.value; keys = parts_of_lines part s.keys i } ∷ parts_of_frames part ss i

module _ (p : Profile) (config : Config) (by : config.grouping ≡ by_lines config.grouping) (column : Option ℕ) (kept : List ℕ) (names : List Key) (seen : List (Seen ℕ)) (part : KeyPart) where
  -- what is seen by lines has the parts of the report's frames
  pub parts_seen : (f : Finders) → kept ≡ filtered_from p f config.filtering 0 p.sample → map (renamed (written_key p names)) seen ≡ seen_samples p f config column (samples_at p kept)
      → map (renamed (λ n. part_of part (written_key p names n))) (weighed seen) ≡ map (renamed (part_of part)) (report_frames p f config column)
  parts_seen f kept_is are =
      let keyed : map (renamed (written_key p names)) (weighed seen) ≡ map (renamed (key_texts Lines false)) (report_frames p f config column) =
      sym (weighed-renamed (written_key p names) seen) ∙ ap weighed (are ∙ kept_seen p f config column kept kept_is) ∙ sym (keyed_report p f config column)
      ∙ ap (λ (by_key : Grouping). map (renamed (key_texts by_key.grain by_key.showcolumns)) (report_frames p f config column)) by in
      sym (renamed_twice (part_of part) (written_key p names) (weighed seen)) ∙ ap (map (renamed (part_of part))) keyed ∙ parts_of_frames part (report_frames p f config column)

module _ (p : Profile) (compact : IsCompact p) (zero_text : (text_at p 0 ≡ []) × (0 < length p.text)) (own : Option (List Bool)) (part : KeyPart) (keys : List Key) (of_p : All (IsKeyOf p) keys)
    (found : FoundKeys) (is : IsFoundOf own part keys found) where
  abbrev told : ℕ → Written
  told n = part_of part (written_key p keys n)

  -- what is told of a sample is told by a key
  known_in : (q : Written) (ns : List ℕ) → All (λ n. n < length keys) ns → has key_cmp q (map told ns) ≡ true → HasKey p q
  known_in q [] below there = absurd (false≢true there)
  known_in q (n ∷ ns) below there =
      elim (eq_by_cmp key_cmp q (told n)) as (λ b. eq_by_cmp key_cmp q (told n) ≡ b → (b || has key_cmp q (map told ns)) ≡ true → HasKey p q) [
        | true ↦ λ same _. record {
          key = part_key part (get_or keys n no_key);
          of_profile = part_of_profile p zero_text part (get_or keys n no_key) (of_p n no_key (All-head (λ m. m < length keys) n ns below));
          told = part_told p zero_text part (get_or keys n no_key) ∙ sym (tied q (told n) same);
        }
        | false ↦ λ _ more. known_in q ns (All-tail (λ m. m < length keys) n ns below) more
      ] refl there

  known : (q : Written) (ss : List (Seen ℕ)) → All (HasBelow (length keys)) ss → occurs key_cmp (map (renamed told) ss) q ≡ true → HasKey p q
  known q [] below there = absurd (false≢true there)
  known q (s ∷ ss) below there =
      elim (has key_cmp q (map told s.keys)) as (λ b. has key_cmp q (map told s.keys) ≡ b → (b || occurs key_cmp (map (renamed told) ss) q) ≡ true → HasKey p q) [
        | true ↦ λ here _. known_in q s.keys (All-head (HasBelow (length keys)) s ss below) here
        | false ↦ λ _ more. known q ss (All-tail (HasBelow (length keys)) s ss below) more
      ] refl there

  -- The tallies of what was found are those of these samples.
  pub has_tallies : (turn : ℕ) (seen : List (Seen ℕ)) (t : KeyTallies) (samples : List (Seen Written)) → All (HasBelow (length keys)) seen → t.names.keys ≡ found.names.keys
      → AreAdded found turn seen t.sums → map (renamed told) (weighed seen) ≡ samples → HasKeyTallies p own samples t
  has_tallies turn seen t samples below names_are added seen_is =
      let ss : List (Seen ℕ) = weighed seen in
      let ss_below : All (HasBelow (length keys)) ss = All-filter (λ (s : Seen ℕ). not (int_eq s.value (pos 0))) (HasBelow (length keys)) seen below in
      subst (λ r. HasKeyTallies p own r t) seen_is (record {
        tallies = λ k of_k own_k. by k of_k own_k (is_among_keys k found.names.keys) refl ss_below;
        known = λ q there. known q ss ss_below there;
      }) where
        by : (k : Key) → IsKeyOf p k → has_own_function own k ≡ true → (b : Bool) → is_among_keys k found.names.keys ≡ b → All (HasBelow (length keys)) (weighed seen)
            → IsTallyBy key_cmp (map (renamed told) (weighed seen)) (key_written p k) (cond (is_among_keys k t.names.keys) (tally_at t.sums (place_of same_key t.names.keys k)) no_tally)
        by k of_k own_k true there ss_below =
            rw (names_are, there)
            (tally_same key_cmp nat_cmp told (new_number found.numbers.items) (key_written p k) (place_of same_key found.names.keys k) (length keys)
            (λ n within. ties_there p zero_text own part keys of_p found is k n compact of_k there within) (weighed seen) _ ss_below (added_by found turn seen t.sums added (place_of same_key found.names.keys k)))
        by k of_k own_k false there ss_below =
            rw (names_are, there)
            (no_tally_of key_cmp told (key_written p k) (length keys) (λ n within. ties_none p zero_text own part keys of_p found is k n compact of_k own_k there within) (weighed seen) ss_below)
