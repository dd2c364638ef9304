-- What is known of each profile that a plan loads, by the definition of loading alone.
use Rattle.std.proofs.Common.{◌≡◌, ℕ, zero, suc, ◌+◌, ◌*◌, ◌/◌, ◌<◌, ◌≤◌, ◌-◌, ◌^◌, ℤ, Bool, true, false, List, [], ◌∷◌, map, length, take, drop, Option, Some, None, refl, sym, ap, ◌∙◌, subst, arith}
use Rattle.std.specs.Prelude.{◌&&◌, ◌==◌, Result, Ok, Err, IfOk, IfSome, is_some, nat_le, nat_lt, if◌then◌else◌}
use Rattle.std.specs.List.{AllByRecursion, enumerate_from}
use Rattle.std.specs.Option.{option_map_or}
use Rattle.std.proofs.lemmas.Bool.{and_parts, le-ltb, leb-true, lt-ltb, ltb-false}
use Rattle.std.proofs.lemmas.List.{length-append, length-map}
use Rattle.std.proofs.lemmas.List.Sums.{sum_by-append}
use Rattle.pp_base.specs.FileMap.{FileMap}
use Rattle.pp_base.specs.Judges.{Answer}
use Rattle.pp_base.specs.Results as results
use Rattle.pp_desk.specs.declared.input_line.InputLine.{InputLine}
use Rattle.pp_desk.specs.Asking as asking
use Rattle.pp_desk.specs.Course.{course}
use Rattle.pp_desk.specs.Script.{Give, Make}
use Rattle.pp_model.specs.declared.loaded.Loaded.{Loaded}
use Rattle.pp_model.specs.declared.profile.Location.{Location}
use Rattle.pp_model.specs.declared.profile.Profile.{Profile}
use Rattle.pp_model.specs.declared.report.BaseKind.{BaseKind}
use Rattle.pp_model.specs.Rules.{NoRuleFails, begins_empty}
use Rattle.pp_model.specs.Sizes.{IsCountable}
use Rattle.pp_model.proofs.FirstText.{no_fault}
use Rattle.pp_tables.specs.declared.refusal.ReadRefusal.{ReadRefusal}
use Rattle.pp_tables.specs.declared.refusal.ReadRefusal.TheVariants as reading
use Rattle.pp_tables.specs.Read.{is_gzip, read, read_message}
use Rattle.pp_tables.proofs.Bounds.{few}
use Rattle.pp_tables.proofs.Ranges.{read_fits}
use Rattle.pp_legacy.specs.declared.fault.LegacyKind.{LegacyKind}
use Rattle.pp_legacy.specs.declared.fault.LegacyKind.TheVariants.{BadHeader}
use Rattle.pp_legacy.specs.declared.header.Header.{Header}
use Rattle.pp_legacy.specs.declared.records.Cursor.{Cursor}
use Rattle.pp_legacy.specs.Header.{header, most_period}
use Rattle.pp_legacy.specs.Legacy.{is_legacy, legacy}
use Rattle.pp_legacy.specs.Records.{StackRecord, Entries, Found, entries_from, entries_in, in_front, onto, record_at}
use Rattle.pp_legacy.specs.Regions.{Region, regions}
use Rattle.pp_legacy.specs.Steps.{Reading, fault_unless}
use Rattle.pp_legacy.specs.Tables.{addresses_of, entry_sample, legacy_profile, location_of, mapping_of, numbered_mappings}
use Rattle.pp_legacy.specs.Words.{behind_words, whole_words, word_at}
use Rattle.pp_legacy.proofs.WordsLemmas.{eight_a_word}
use Rattle.pp_check.specs.FirstFault.{first_fault}
use Rattle.pp_check.proofs.Keeps.{keeps_rules}
use Rattle.pp_merge.specs.Merge.{contents, merged, too_large}
use Rattle.pp_merge.specs.Scale.{negated, normalized, normalized_sample, normalized_values}
use Rattle.pp_merge.proofs.MergeLemmas.{fits_contents}
use Rattle.pp_merge.proofs.NegatedLemmas.{still_valid}
use Rattle.pp_merge.proofs.SettledLemmas.{all_any, all_join}
use Rattle.pp_merge.proofs.WrittenValid.{valid_written}
use Rattle.pp_share.proofs.NumberedLemmas.{all_mapped}
use Rattle.pp_options.specs.declared.origin.Origin.{Origin}
use Rattle.pp_options.specs.declared.plan.Plan.{Plan}
use Rattle.pp_pattern.specs.declared.load.FramesRefused.{FramesRefused}
use Rattle.pp_pattern.specs.declared.load.FramesRefused.TheVariants as frames
use Rattle.pp_pattern.specs.Load.{judge_load}
use Rattle.pp_pattern.specs.Report.{Finds}
use Rattle.pp_load.specs.declared.reading.Read.{Read}
use Rattle.pp_load.specs.declared.refusal.LoadRefusal.{LoadRefusal}
use Rattle.pp_load.specs.declared.refusal.LoadRefusal.TheVariants as refusals
use Rattle.pp_load.specs.Combine.{agreeing, combined, joining, less_bases, merging, scaling, scaling_if, subtracting}
use Rattle.pp_load.specs.Decode.{checked, decoded, legacy_given, tables_given, tables_of}
use Rattle.pp_load.specs.Joining.{AreCountableProfiles, AreMergeable, AreOf, CanTakeOff, HasStarts, CanTakeOffOne, first_kinds}
use Rattle.pp_load.specs.Load.{load, read_all, read_base, read_bytes, read_next, read_plan}
use Rattle.pp_load.specs.Reads.{loaded_or, size_limit, with_verdicts}
use Rattle.pp_load.specs.Sources.{IsCountableRead, nothing_read, with_bytes, within_size_limit}
use Rattle.pp_load.specs.Steps as steps
use Rattle.pp_load.specs.Steps.{Loading, Loads}
use Rattle.pp_load.proofs.DecodeLemmas.{legacy_valid}
use Rattle.pp_load.proofs.GeneratedRows.{int_fits}
use Rattle.pp_load.proofs.JoiningLemmas.{bases_taken, front_joins, one_of, pair_joins, pair_of, scaled_pair}
use Rattle.pp_load.proofs.KindLemmas.{agreed, nothing_found}
use Rattle.pp_load.proofs.StartLemmas.{decoded_has, same_Ok}
use Rattle.pp_engine.proofs.Gives.{Gives, course_gives, gives_after, gives_then}
use Rattle.pp_alike.proofs.RegionLemmas.{IsSmall, regions_small}
use Rattle.pp_alike.proofs.MergedTells.{fitting, merged_fitting, negated_fitting, scaled_fitting}
use Rattle.pp_alike.proofs.TellsFitting.{HasNumbers, HasPlace, HasRange, TellsFitting}

-- ---- steps that may be refused

-- a reading that gave something
reading_is : {A B : Type 0} (f : A → Reading B) (r : Reading A) (y : B) → results.◌>>=◌ r f ≡ Ok y → (x : A) × (r ≡ Ok x) × (f x ≡ Ok y)
reading_is f (Ok x) y is = (x, refl, is)
reading_is f (Err e) y is = absurd cc

-- and one that went on where a test passed
passed : {B : Type 0} (test : Bool) (kind : LegacyKind) (word : ℕ) (f : Unit {0} → Reading B) (y : B) → results.◌>>=◌ (fault_unless test kind word) f ≡ Ok y → (test ≡ true) × (f tt ≡ Ok y)
passed true kind word f y is = (refl, is)
passed false kind word f y is = absurd cc

loading_is : {A B : Type 0} (f : A → Loading B) (r : Loading A) (y : B) → steps.◌>>=◌ r f ≡ Ok y → (x : A) × (r ≡ Ok x) × (f x ≡ Ok y)
unfolding steps.◌>>=◌
loading_is f (Ok x) y is = (x, refl, is)
loading_is f (Err e) y is = absurd cc

-- ---- CPU profiles of gperftools

-- the period of a header
nanos_small : (ws : List ℕ) (head : Header) → header ws ≡ Ok head → head.nanos < 2 ^ 63
unfolding header
nanos_small ws head is =
    let at_slots = reading_is _ (word_at ws 1) head is in
    let at_version = passed (nat_le 3 at_slots.0) BadHeader 1 _ head at_slots.2 in
    let of_version = reading_is _ (word_at ws 2) head at_version.1 in
    let at_period = passed (of_version.0 == 0) BadHeader 2 _ head of_version.2 in
    let of_period = reading_is _ (word_at ws 3) head at_period.1 in
    let period : ℕ = of_period.0 in
    let at_padding = passed (nat_le 1 period && nat_le period most_period) BadHeader 3 _ head of_period.2 in
    let of_padding = reading_is _ (word_at ws 4) head at_padding.1 in
    let at_first = passed (of_padding.0 == 0) BadHeader 4 _ head of_padding.2 in
    let of_first = reading_is _ (behind_words ws 2 at_slots.0) head at_first.1 in
    let most : period ≤ most_period = leb-true period most_period (and_parts (nat_le 1 period) (nat_le period most_period) at_padding.0).1 in
    let small : period * 1000 < 2 ^ 63 = omega (arith, most) in
    subst (λ (h : Header). h.nanos < 2 ^ 63) (same_Ok _ _ of_first.2) small

-- what stands behind a record is no more than what is left
few_behind : (more : ℕ) (ws : List ℕ) (nanos : ℕ) (at : Cursor) (found : Entries)
    → ((next : Cursor) (others : Entries) → entries_in more ws nanos next ≡ Ok others → length others.entries ≤ more)
    → (step : Found) → option_map_or (λ (p : StackRecord × Cursor). in_front p.0 (entries_in more ws nanos p.1)) step (Ok (record { entries = []; text = at.word + 3 })) ≡ Ok found → length found.entries ≤ suc more
few_behind more ws nanos at found each None given = subst (λ (e : Entries). length e.entries ≤ suc more) (same_Ok _ _ given) (omega arith)
few_behind more ws nanos at found each (Some p) given =
    let others = reading_is (λ (e : Entries). Ok (onto p.0 e)) (entries_in more ws nanos p.1) found given in
    let few : length others.0.entries ≤ more = each p.1 others.0 others.1 in
    subst (λ (e : Entries). length e.entries ≤ suc more) (same_Ok _ _ others.2) (omega (arith, few))

-- the entries are no more than words are left
entries_few : (more : ℕ) (ws : List ℕ) (nanos : ℕ) (at : Cursor) (found : Entries) → entries_in more ws nanos at ≡ Ok found → length found.entries ≤ more
unfolding entries_in
entries_few zero ws nanos at found is = absurd cc
entries_few (suc more) ws nanos at found is =
    let step = reading_is _ (record_at ws nanos at) found is in
    few_behind more ws nanos at found (λ next others given. entries_few more ws nanos next others given) step.0 step.2

-- the mappings of regions
mappings_ranged : (n : ℕ) (list : List Region) → AllByRecursion IsSmall list → AllByRecursion HasRange (map (λ p. mapping_of p.0 p.1) (enumerate_from n list))
mappings_ranged n [] all = tt
mappings_ranged n (r ∷ rs) all = ((all.0.start, all.0.limit, all.0.offset), mappings_ranged (n + 1) rs all.1)

-- ---- bytes that are decoded

-- What is known of a profile that bytes of this length were decoded to.
pub record IsDecoded (len : ℕ) (p : Profile) : Type 0 where
  pub valid : NoRuleFails p
  pub starts : HasStarts p
  pub types : length p.sample_type ≤ len
  pub samples : length p.sample ≤ len
  pub fits : TellsFitting p

legacy_long : (bytes : List ℕ) → is_legacy bytes ≡ true → 16 ≤ length bytes
legacy_long bytes is = leb-true 16 (length bytes) (and_parts _ _ is).0

legacy_decoded : (bytes : List ℕ) (p : Profile) → is_legacy bytes ≡ true → legacy bytes ≡ Ok p → HasStarts p → IsDecoded (length bytes) p
unfolding legacy legacy_profile
legacy_decoded bytes p long is starts =
    let ws : List ℕ = whole_words bytes in
    let headed = reading_is _ (header ws) p is in
    let head : Header = headed.0 in
    let behind = reading_is _ (entries_from ws head.nanos (record { word = head.first; counts = 0 })) p headed.2 in
    let found : Entries = behind.0 in
    let last = behind.2 in
    let regioned : List Region = regions (drop (8 * found.text) bytes) in
    let entries_most : length found.entries ≤ length ws + 1 = omega (arith, entries_few (length ws - head.first + 1) ws head.nanos (record { word = head.first; counts = 0 }) found behind.1) in
    let words_few : length ws ≡ length bytes / 8 = eight_a_word bytes in
    let some : 16 ≤ length bytes = legacy_long bytes long in
    record {
      valid = legacy_valid bytes p is;
      starts = starts;
      types = subst (λ (q : Profile). length q.sample_type ≤ length bytes) (same_Ok _ _ last) (omega (arith, some));
      samples = subst (λ (q : Profile). length q.sample ≤ length bytes) (same_Ok _ _ last) (omega (arith, some, entries_most, words_few, length-map found.entries (entry_sample (addresses_of found.entries))));
      fits = subst TellsFitting (same_Ok _ _ last) (record {
        functions = tt;
        mappings = mappings_ranged 0 regioned (regions_small (drop (8 * found.text) bytes));
        lines = all_mapped (λ (l : Location). AllByRecursion HasPlace l.line) (λ q. location_of (numbered_mappings regioned) q.0 q.1) (enumerate_from 0 (addresses_of found.entries))
            (all_any (λ q. AllByRecursion HasPlace (location_of (numbered_mappings regioned) q.0 q.1).line) (λ q. tt) (enumerate_from 0 (addresses_of found.entries)));
        labels = all_mapped HasNumbers (entry_sample (addresses_of found.entries)) found.entries (all_any (λ (e : StackRecord). HasNumbers (entry_sample (addresses_of found.entries) e)) (λ e. tt) found.entries);
        time_nanos = int_fits 0 (omega arith);
        duration_nanos = int_fits 0 (omega arith);
        period = int_fits head.nanos (nanos_small ws head headed.1);
      });
    }

read_decoded : (bytes : List ℕ) (p : Profile) → read bytes ≡ Ok p → NoRuleFails p → HasStarts p → IsDecoded (length bytes) p
read_decoded [] p is valid starts = absurd cc
read_decoded (b ∷ bytes) p is valid starts =
    let most = few (b ∷ bytes) (Ok p) (omega arith) (unpacked (is_gzip (b ∷ bytes)) is) in
    record { valid = valid; starts = starts; types = most.sample_types; samples = most.samples; fits = fitting p (read_fits (b ∷ bytes) p is) }
  where
    unpacked : (zipped : Bool) → (if zipped then Err reading.Compressed else read_message (b ∷ bytes)) ≡ Ok p → read_message (b ∷ bytes) ≡ Ok p
    unpacked true given = absurd cc
    unpacked false given = given

starts_of : (source : ℕ) (bytes : List ℕ) (p : Profile) → decoded source bytes ≡ Ok p → HasStarts p
unfolding Loads
starts_of source bytes p is = decoded_has source bytes p is

-- Whatever bytes are decoded to keeps the table rules, has no more samples than bytes, and tells numbers that fit.
pub is_decoded : (source : ℕ) (bytes : List ℕ) (p : Profile) → decoded source bytes ≡ Ok p → IsDecoded (length bytes) p
unfolding decoded tables_of steps.◌>>=◌
is_decoded source bytes p is = by (is_legacy bytes) refl is
  where
    of_legacy : is_legacy bytes ≡ true → (r : Reading Profile) → legacy bytes ≡ r → legacy_given source r ≡ Ok p → IsDecoded (length bytes) p
    of_legacy long (Ok q) found h = legacy_decoded bytes p long (found ∙ (cc)) (starts_of source bytes p is)
    of_legacy long (Err e) found h = absurd cc

    of_read : (r : Result Profile ReadRefusal) → read bytes ≡ r → steps.◌>>=◌ (tables_given source r) (checked source) ≡ Ok p → IsDecoded (length bytes) p
    of_read (Ok q) found h =
        let own = nothing_found (first_fault q) _ q p h in
        read_decoded bytes p (found ∙ ap (λ x. Ok x) own.1) (subst NoRuleFails own.1 (keeps_rules q own.0)) (starts_of source bytes p is)
    of_read (Err reading.Empty) found h = absurd cc
    of_read (Err reading.Compressed) found h = absurd cc
    of_read (Err (reading.Wire fault)) found h = absurd cc
    of_read (Err reading.Memory) found h = absurd cc

    by : (b : Bool) → is_legacy bytes ≡ b → (if b then legacy_given source (legacy bytes) else steps.◌>>=◌ (tables_given source (read bytes)) (checked source)) ≡ Ok p → IsDecoded (length bytes) p
    by true long h = of_legacy long (legacy bytes) refl h
    by false long h = of_read (read bytes) refl h

-- ---- profiles that become one

-- What is known of a profile that profiles become.
pub record IsLoadable (p : Profile) : Type 0 where
  pub valid : NoRuleFails p
  pub countable : IsCountable p
  pub alone : merged p [] ≡ p
  pub fits : TellsFitting p

-- merging gives such a profile
merging_gives : (list : List Profile) (r : Profile) → 0 < length list → AllByRecursion TellsFitting list → merging list ≡ Ok r → NoRuleFails r × TellsFitting r
unfolding merging
merging_gives [] r some fit is = absurd (omega (arith, some))
merging_gives (p ∷ ps) r some fit is =
    let same = (nothing_found (too_large (length p.sample_type) (p ∷ ps)) _ (merged p ps) r is).1 in
    (subst NoRuleFails same (valid_written (contents p ps) (fits_contents p ps)), subst TellsFitting same (merged_fitting p ps fit))

scaled_long : (source base : Profile) (column : ℕ) (values : List ℤ) → length (normalized_values source base column values) ≡ length values
scaled_long source base column [] = refl
scaled_long source base column (v ∷ values) = ap suc (scaled_long source base (column + 1) values)

scaled_valid : (source base : Profile) → NoRuleFails source → NoRuleFails (normalized source base)
scaled_valid source base valid =
    still_valid source source.text (normalized_sample source base) valid (no_fault (begins_empty source.text) valid.text_zero) (omega arith) (λ s. refl) (λ s. scaled_long source base 0 s.value) (λ s all. all)

module _ {A : Type 0} (P : A → Type 0) where
  fit_front : (n : ℕ) (xs : List A) → AllByRecursion P xs → AllByRecursion P (take n xs)
  fit_front zero [] all = tt
  fit_front zero (x ∷ xs) all = tt
  fit_front (suc n) [] all = tt
  fit_front (suc n) (x ∷ xs) all = (all.0, fit_front n xs all.1)

  fit_rest : (n : ℕ) (xs : List A) → AllByRecursion P xs → AllByRecursion P (drop n xs)
  fit_rest zero [] all = tt
  fit_rest zero (x ∷ xs) all = all
  fit_rest (suc n) [] all = tt
  fit_rest (suc n) (x ∷ xs) all = fit_rest n xs all.1

loadable : (list : List Profile) (r : Profile) → AreMergeable list → AllByRecursion TellsFitting list → merging list ≡ Ok r → IsLoadable r
loadable list r can fit is =
    let one = one_of list r can is in
    let known = merging_gives list r can.some fit is in
    record { valid = known.0; countable = one.ready.countable; alone = one.ready.alone; fits = known.1 }

-- the bases are taken off
subtracting_gives : (kind : BaseKind) (normalize : Bool) (source : Profile) (bases : List Profile) (p : Profile) → IsLoadable source → CanTakeOff source bases → AllByRecursion TellsFitting bases
    → subtracting kind normalize source bases ≡ Ok p → IsLoadable p
unfolding subtracting scaling_if scaling
subtracting_gives kind normalize source bases p own can fit is =
    let of_base = loading_is _ (merging bases) p is in
    let base : Profile = of_base.0 in
    let of_scaled = loading_is _ (scaling_if normalize source base) p of_base.2 in
    let one = one_of bases base can.joins of_base.1 in
    let known = merging_gives bases base can.joins.some fit of_base.1 in
    by normalize base of_scaled.0 of_scaled.1 of_scaled.2 (pair_of source base bases can one) known.0 known.1
  where
    -- what is left of a source that was scaled or not
    taken_off : (scaled base : Profile) → CanTakeOffOne scaled base → NoRuleFails scaled → TellsFitting scaled → NoRuleFails base → TellsFitting base → merging (scaled ∷ negated kind base ∷ []) ≡ Ok p → IsLoadable p
    taken_off scaled base pair valid fits base_valid base_fits given =
        loadable (scaled ∷ negated kind base ∷ []) p (pair_joins kind scaled base valid base_valid pair) (fits, (negated_fitting kind base base_fits, tt)) given

    by : (normalize : Bool) (base scaled : Profile) → scaling_if normalize source base ≡ Ok scaled → merging (scaled ∷ negated kind base ∷ []) ≡ Ok p → CanTakeOffOne source base → NoRuleFails base → TellsFitting base → IsLoadable p
    by true base scaled is given pair base_valid base_fits =
        let same = (nothing_found _ _ (normalized source base) scaled is).1 in
        taken_off (normalized source base) base (scaled_pair source base pair) (scaled_valid source base own.valid) (scaled_fitting source base own.fits) base_valid base_fits
        (ap (λ (q : Profile). merging (q ∷ negated kind base ∷ [])) same ∙ given)
    by false base scaled is given pair base_valid base_fits =
        taken_off source base pair own.valid own.fits base_valid base_fits (ap (λ (q : Profile). merging (q ∷ negated kind base ∷ [])) (same_Ok source scaled is) ∙ given)

combined_gives : (sources : ℕ) (kind : Option BaseKind) (normalize : Bool) (list : List Profile) (p : Profile) → AreCountableProfiles list → AllByRecursion TellsFitting list
    → 0 < sources → sources ≤ length list → is_some kind ≡ nat_lt sources (length list) → combined sources kind normalize list ≡ Ok p → IsLoadable p
unfolding combined joining less_bases
combined_gives sources kind normalize list p few fit some within bases is =
    let compared = loading_is _ (agreeing list) p is in
    let alike : AreOf (first_kinds list) list = agreed list (all_agree compared.0 compared.1) in
    let of_source = loading_is _ (merging (take sources list)) p compared.2 in
    let source : Profile = of_source.0 in
    let front : AreMergeable (take sources list) = front_joins sources list few alike some within in
    by kind source (loadable (take sources list) source front (fit_front TellsFitting sources list fit) of_source.1) (bases_taken kind sources list source few alike some bases (one_of (take sources list) source front of_source.1)) of_source.2
  where
    all_agree : (given : Unit {0}) → agreeing list ≡ Ok given → agreeing list ≡ Ok tt
    all_agree given agree = agree

    by : (kind : Option BaseKind) (source : Profile) → IsLoadable source → IfSome kind (λ _. CanTakeOff source (drop sources list)) → less_bases kind normalize source (drop sources list) ≡ Ok p → IsLoadable p
    by None source own can given = subst IsLoadable (same_Ok source p given) own
    by (Some kind) source own can given = subtracting_gives kind normalize source (drop sources list) p own can (fit_rest TellsFitting sources list fit) given

-- ---- files that are read

-- This number of profiles was read, and they can be counted.
record AreRead (n : ℕ) (read : Read) : Type 0 where
  few : IsCountableRead read
  fit : AllByRecursion TellsFitting read.profiles
  many : length read.profiles ≡ n

within_is : (read : Read) (len : ℕ) (given : Unit {0}) → within_size_limit read len ≡ Ok given → read.size + len ≤ size_limit
within_is read len given = by (nat_lt size_limit (read.size + len)) refl
  where
    by : (long : Bool) → nat_lt size_limit (read.size + len) ≡ long → (if long then Err (refusals.AllTooLong (length read.profiles)) else Ok tt) ≡ Ok given → read.size + len ≤ size_limit
    by true is h = absurd cc
    by false is h = ltb-false size_limit (read.size + len) is

one_more : (n : ℕ) (read more : Read) (bytes : List ℕ) → AreRead n read → with_bytes read bytes ≡ Ok more → AreRead (n + 1) more
unfolding with_bytes
one_more n read more bytes are is =
    let room = loading_is _ (within_size_limit read (length bytes)) more is in
    let of_profile = loading_is _ (decoded (length read.profiles) bytes) more room.2 in
    let p : Profile = of_profile.0 in
    let within : read.size + length bytes ≤ size_limit = within_is read (length bytes) room.0 room.1 in
    let limit : size_limit ≡ 268435456 = refl in
    let own = is_decoded (length read.profiles) bytes p of_profile.1 in
    subst (AreRead (n + 1)) (same_Ok _ _ of_profile.2) (record {
      few = record {
        bytes = within;
        valid = all_join NoRuleFails read.profiles (p ∷ []) are.few.valid (own.valid, tt);
        starts = all_join HasStarts read.profiles (p ∷ []) are.few.starts (own.starts, tt);
        columns = all_join (λ (q : Profile). length q.sample_type < 2 ^ 32) read.profiles (p ∷ []) are.few.columns (omega (arith, own.types, within, limit), tt);
        samples = omega (arith, are.few.samples, own.samples, sum_by-append (λ (q : Profile). length q.sample) read.profiles (p ∷ []));
      };
      fit = all_join TellsFitting read.profiles (p ∷ []) are.fit (own.fits, tt);
      many = omega (arith, are.many, length-append read.profiles (p ∷ []));
    })

-- what a script gives that may be refused, by what another one gives first
gives_asking : {A B : Type 0} (P : A → Type 0) (Q : B → Type 0) (script : asking.Asking LoadRefusal A) (next : A → asking.Asking LoadRefusal B)
    → Gives (λ r. IfOk r P) script → ((x : A) → P x → Gives (λ r. IfOk r Q) (next x)) → Gives (λ r. IfOk r Q) (asking.◌>>=◌ script next)
unfolding asking.◌>>=◌
gives_asking {A} P Q script next given each = gives_after (λ r. IfOk r P) (λ r. IfOk r Q) script (asking.go_on next) given by
  where
    by : (r : Result A LoadRefusal) → IfOk r P → Gives (λ r. IfOk r Q) (asking.go_on next r)
    by (Ok x) h = each x h
    by (Err e) h = tt

gives_any : {A : Type 0} (script : asking.Asking LoadRefusal A) → Gives (λ r. IfOk r (λ _. Unit {0})) script
gives_any (Give (Ok x)) = tt
gives_any (Give (Err e)) = tt
gives_any (Make step script) = λ reply. gives_any (script reply)

-- what holds of what is given
if_given : {A : Type 0} (P : A → Type 0) (r : Loading A) → ((x : A) → r ≡ Ok x → P x) → IfOk r P
if_given P (Ok x) each = each x refl
if_given P (Err e) each = tt

next_gives : (n : ℕ) (read : Read) (origin : Origin) → AreRead n read → Gives (λ r. IfOk r (AreRead (n + 1))) (read_next read origin)
unfolding read_next
next_gives n read origin are =
    gives_asking (λ _. Unit {0}) (AreRead (n + 1)) (read_bytes (length read.profiles) origin) (λ bytes. Give (with_bytes read bytes)) (gives_any _)
    (λ bytes _. if_given (AreRead (n + 1)) (with_bytes read bytes) (λ more is. one_more n read more bytes are is))

base_gives : (n : ℕ) (read : Read) (path : List ℕ) → AreRead n read → Gives (λ r. IfOk r (AreRead (n + 1))) (read_base read path)
unfolding read_base
base_gives n read path are = next_gives n read _ are

all_give : {A : Type 0} (next : Read → A → asking.Asking LoadRefusal Read) → ((n : ℕ) (read : Read) (x : A) → AreRead n read → Gives (λ r. IfOk r (AreRead (n + 1))) (next read x))
    → (n m : ℕ) (read : Read) (xs : List A) → AreRead n read → n + length xs ≡ m → Gives (λ r. IfOk r (AreRead m)) (read_all next read xs)
unfolding read_all
all_give next each n m read [] are is = subst (λ k. AreRead k read) (let same : n ≡ m = omega (arith, is) in same) are
all_give next each n m read (x ∷ xs) are is =
    gives_asking (AreRead (n + 1)) (AreRead m) (next read x) (λ more. read_all next more xs) (each n read x are)
    (λ more own. all_give next each (n + 1) m more xs own (omega (arith, is)))

none_read : AreRead 0 nothing_read
none_read = record {
  few = record { bytes = omega arith; valid = tt; starts = tt; columns = tt; samples = omega arith };
  fit = tt;
  many = refl;
}

plan_gives : (plan : Plan) → Gives (λ r. IfOk r (AreRead (length plan.origins + length plan.bases))) (read_plan plan)
unfolding read_plan
plan_gives plan =
    gives_asking (AreRead (length plan.origins)) (AreRead (length plan.origins + length plan.bases)) (read_all read_next nothing_read plan.origins) (λ sources. read_all read_base sources plan.bases)
    (all_give read_next next_gives 0 (length plan.origins) nothing_read plan.origins none_read (omega arith))
    (λ sources are. all_give read_base base_gives (length plan.origins) (length plan.origins + length plan.bases) sources plan.bases are refl)

-- ---- all of loading

-- there are more profiles than sources where there is a base
more_than : (n m : ℕ) → nat_lt 0 m ≡ nat_lt n (n + m)
more_than n zero = le-ltb 0 0 (omega arith) ∙ sym (le-ltb n (n + 0) (omega arith))
more_than n (suc m) = lt-ltb 0 (suc m) (omega arith) ∙ sym (lt-ltb n (n + suc m) (omega arith))

read_counted : (n : ℕ) (read : Read) → AreRead n read → n ≤ 256 → AreCountableProfiles read.profiles
read_counted n read are most =
    let limit : size_limit ≡ 268435456 = refl in
    record {
      valid = are.few.valid;
      starts = are.few.starts;
      long = omega (arith, are.many, most);
      columns = are.few.columns;
      samples = omega (arith, are.few.samples, are.few.bytes, limit);
    }

judged_gives : (finds : Finds) (p : Profile) → IsLoadable p → Gives (λ r. IfOk r (λ (l : Loaded). IsLoadable l.profile)) (with_verdicts finds p)
unfolding with_verdicts
judged_gives finds p own = gives_then (λ r. IfOk r (λ (l : Loaded). IsLoadable l.profile)) (judge_load finds p) _ by
  where
    by : (answer : Result (Option (List Bool) × Option (List Bool)) FramesRefused) → IfOk (loaded_or finds p answer) (λ (l : Loaded). IsLoadable l.profile)
    by (Ok verdicts) = own
    by (Err frames.DropFrames) = tt
    by (Err frames.KeepFrames) = tt

load_gives : (finds : Finds) (plan : Plan) → Gives (λ r. IfOk r (λ (l : Loaded). IsLoadable l.profile)) (load finds plan)
unfolding load
load_gives finds plan =
    gives_asking (AreRead (length plan.origins + length plan.bases)) (λ (l : Loaded). IsLoadable l.profile) (read_plan plan) _ (plan_gives plan)
    (λ read are. gives_asking IsLoadable (λ (l : Loaded). IsLoadable l.profile) (Give (combined (length plan.origins) plan.base_kind plan.normalize read.profiles)) (with_verdicts finds)
    (if_given IsLoadable _ (λ p is. combined_gives (length plan.origins) plan.base_kind plan.normalize read.profiles p
    (read_counted _ read are plan.few) are.fit plan.some_origin (omega (arith, are.many))
    (plan.kind_with_bases ∙ more_than (length plan.origins) (length plan.bases) ∙ ap (nat_lt (length plan.origins)) (sym are.many)) is))
    (judged_gives finds))

-- Each profile that a plan loads keeps the table rules, can be counted, and stays as it is when it is merged alone. The
-- numbers that it tells fit.
pub loaded_is : (finds : Finds) (plan : Plan) (files : FileMap) (locked : List (List ℕ)) (lines : List InputLine) (answers : List Answer) (l : Loaded)
    → (course (load finds plan) files locked lines answers).value ≡ Ok l → IsLoadable l.profile
loaded_is finds plan files locked lines answers l is =
    let P : Result Loaded LoadRefusal → Type 0 = (λ r. IfOk r (λ (l : Loaded). IsLoadable l.profile)) in
    subst P is (course_gives P (load finds plan) files locked lines answers (load_gives finds plan))
