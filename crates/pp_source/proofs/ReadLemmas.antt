-- The files of a report, and their sources, one after another.
use Rattle.std.proofs.Common.{◌≡◌, ℕ, ◌+◌, ◌<◌, ◌≤◌, Bool, true, false, cond, not, ◌||◌, Bor, List, [], ◌∷◌, ◌++◌, length, map, take, drop, get_or, nat_lt, Option, Some, None, suc, refl, sym, ap, subst, ◌∙◌, arith}
use Rattle.std.specs.Prelude.{Ok, Err, bytes_eq, position}
use Rattle.std.specs.List.{list_any, position_or_len}
use Rattle.std.specs.Option.{is_some, option_map, unwrap_or}
use Rattle.std.specs.Slice.{IsItemAt}
use Rattle.std.proofs.lemmas.Bool.{false≢true}
use Rattle.std.proofs.lemmas.List.{at_drop_more, at_drop_all, get_or-map, get_or_past, length-map, map-append, take_more}
use Rattle.pp_desk.specs.declared.stop.Stop.{Stop}
use Rattle.pp_desk.specs.declared.stop.Stop.TheVariants as stops
use Rattle.pp_desk.specs.World.{World}
use Rattle.pp_desk.specs.Script.{Script, Give, ◌>>=◌}
use Rattle.pp_desk.specs.Went.{Went, IsOnWay}
use Rattle.pp_desk.proofs.Looping.{arrives, moves_on}
use Rattle.pp_desk.proofs.Going.{gives, stops_first, wants, goes_second, goes_give}
use Rattle.pp_model.specs.FirstSight.{seen_after, seen_with}
use Rattle.pp_model.specs.FrameTexts.{Written}
use Rattle.pp_units.specs.Head.{Facts}
use Rattle.pp_count.specs.Sums.{Seen}
use Rattle.pp_source.specs.declared.lines.FoundLine.{FoundLine}
use Rattle.pp_source.specs.declared.source.FileSource.{FileSource}
use Rattle.pp_source.specs.declared.source.FileSource.TheVariants.{NotFound}
use Rattle.pp_source.specs.declared.split.SplitSource.{SplitSource}
use Rattle.pp_source.specs.Files.{files_of_lines, source_at, whole_source}
use Rattle.pp_source.specs.Ledgers.{line_texts, lines_texts}
use Rattle.pp_source.specs.Listing.{list_lines, read_sources, source_of}
use Rattle.pp_source.specs.SourceText.{lines_text}
use Rattle.pp_source.proofs.FileLemmas.{told}
use Rattle.pp_model.specs.declared.environment.Environment.{Environment}

module _ (environment : Environment) (files : List (Bor (List ℕ))) (i : ℕ) (sources : List FileSource) (whole : Script (List FileSource)) (a b : World)
    (on_way : IsOnWay a b whole (read_sources environment sources (map told (drop i files)))) where
  -- the files from the next one on
  read_next : (d : Bor (List ℕ)) → i < length files → IsOnWay a b whole (source_of environment (get_or files i d).now >>= (λ source. read_sources environment (sources ++ source ∷ []) (map told (drop (i + 1) files))))
  unfolding read_sources
  read_next d within = subst (IsOnWay a b whole) (at_drop_more (λ fs. read_sources environment sources (map told fs)) files i d within) on_way

  -- one more is read
  pub read_goes : (c : World) (d : Bor (List ℕ)) (source : FileSource) (new : List FileSource) → i < length files → Went b c (source_of environment (get_or files i d).now) (Ok source)
      → new ≡ sources ++ source ∷ [] → IsOnWay a c whole (read_sources environment new (map told (drop (i + 1) files)))
  read_goes c d source new within went added =
      subst (λ ss. IsOnWay a c whole (read_sources environment ss (map told (drop (i + 1) files)))) (sym added)
      (moves_on a b c whole (source_of environment (get_or files i d).now) _ source (read_next d within) went)

  -- memory was wanting after it was read
  pub read_wants : (c : World) (d : Bor (List ℕ)) (source : FileSource) → i < length files → Went b c (source_of environment (get_or files i d).now) (Ok source) → Went a c whole (Err stops.Memory)
  read_wants c d source within went =
      arrives a c c whole _ (Err stops.Memory) (moves_on a b c whole (source_of environment (get_or files i d).now) _ source (read_next d within) went) (wants c _)

  -- its read was stopped
  pub read_stops : (c : World) (d : Bor (List ℕ)) (stop : Stop) → i < length files → Went b c (source_of environment (get_or files i d).now) (Err stop) → Went a c whole (Err stop)
  read_stops c d stop within went = arrives a b c whole _ (Err stop) (read_next d within) (stops_first b c (source_of environment (get_or files i d).now) _ stop went)

  -- no file is left
  pub read_ends : length files ≤ i → Went a b whole (Ok sources)
  unfolding read_sources
  read_ends past =
      arrives a b b whole _ (Ok sources) (subst (IsOnWay a b whole) (at_drop_all (λ fs. read_sources environment sources (map told fs)) files i past) on_way) (gives b sources)

-- The report of lines, whose files were told so.
module _ (environment : Environment) (samples : List (Seen Written)) (h : Facts) (lines : List Written) (lent files : List (Bor (List ℕ))) (same : lent ≡ files) (are : map told files ≡ files_of_lines lines) (a b : World) where
  lent_are : map told lent ≡ files_of_lines lines
  lent_are = ap (map told) same ∙ are

  -- it is whole
  pub lines_go : (sources : List FileSource) (text : List ℕ) → Went a b (read_sources environment [] (map told lent)) (Ok sources)
      → text ≡ lines_text samples h (source_at (map told files) sources) lines → Went a b (list_lines environment samples h lines) (Ok text)
  unfolding list_lines
  lines_go sources text went is =
      goes_give a b (read_sources environment [] (files_of_lines lines)) _ sources text (subst (λ fs. Went a b (read_sources environment [] fs) (Ok sources)) lent_are went)
      (ap Give (sym (is ∙ ap (λ fs. lines_text samples h (source_at fs sources) lines) are)))

  -- memory was wanting after the reads
  pub lines_want : (sources : List FileSource) → Went a b (read_sources environment [] (map told lent)) (Ok sources) → Went a b (list_lines environment samples h lines) (Err stops.Memory)
  unfolding list_lines
  lines_want sources went =
      goes_second a b b (read_sources environment [] (files_of_lines lines)) _ sources (Err stops.Memory) (subst (λ fs. Went a b (read_sources environment [] fs) (Ok sources)) lent_are went) (wants b _)

  -- a read was stopped
  pub lines_stop : (stop : Stop) → Went a b (read_sources environment [] (map told lent)) (Err stop) → Went a b (list_lines environment samples h lines) (Err stop)
  unfolding list_lines
  lines_stop stop went = stops_first a b (read_sources environment [] (files_of_lines lines)) _ stop (subst (λ fs. Went a b (read_sources environment [] fs) (Err stop)) lent_are went)

-- the files of one line more
files_add : (seen : List (List ℕ)) (lines : List FoundLine) (line : FoundLine)
    → seen_after bytes_eq seen (map (λ k. k.file) (lines_texts (lines ++ line ∷ []))) ≡ seen_with bytes_eq (seen_after bytes_eq seen (map (λ k. k.file) (lines_texts lines))) (line_texts line).file
files_add seen [] line = refl
files_add seen (next ∷ lines) line = files_add (seen_with bytes_eq seen (line_texts next).file) lines line

module _ (same : Bor (List ℕ) → Bor (List ℕ) → Bool) (tells : (a b : Bor (List ℕ)) → same a b ≡ bytes_eq a.now b.now) where
  any_told : (x : Bor (List ℕ)) (xs : List (Bor (List ℕ))) → list_any (same x) xs ≡ list_any (bytes_eq x.now) (map told xs)
  any_told x [] = refl
  any_told x (y ∷ xs) = λ i. tells x y i || any_told x xs i

  seen_told : (x : Bor (List ℕ)) (xs : List (Bor (List ℕ))) → map told (cond (list_any (same x) xs) xs (xs ++ x ∷ [])) ≡ seen_with bytes_eq (map told xs) x.now
  seen_told x xs = by (list_any (same x) xs) ∙ ap (λ (b : Bool). cond b (map told xs) (map told xs ++ x.now ∷ [])) (any_told x xs)
    where
      by : (b : Bool) → map told (cond b xs (xs ++ x ∷ [])) ≡ cond b (map told xs) (map told xs ++ x.now ∷ [])
      by true = refl
      by false = map-append told xs (x ∷ [])

  -- one line more
  pub files_next : (lines : List FoundLine) (i : ℕ) (d : FoundLine) (old new : List (Bor (List ℕ))) → i < length lines → map told old ≡ files_of_lines (lines_texts (take i lines))
      → new ≡ cond (list_any (same (get_or lines i d).texts.file) old) old (old ++ (get_or lines i d).texts.file ∷ []) → map told new ≡ files_of_lines (lines_texts (take (i + 1) lines))
  files_next lines i d old new within so_far added =
      ap (map told) added ∙ seen_told (get_or lines i d).texts.file old
      ∙ ap (λ (fs : List (List ℕ)). seen_with bytes_eq fs (line_texts (get_or lines i d)).file) so_far
      ∙ sym (files_add [] (take i lines) (get_or lines i d))
      ∙ ap (λ ls. files_of_lines (lines_texts ls)) (sym (take_more lines i d within))

one : (n : ℕ) → 1 + n ≡ suc n
one n = omega arith

-- the place of a file that is among these, and where it is none of them
placed : (test : Bor (List ℕ) → Bool) (files : List (Bor (List ℕ))) (place : ℕ) → Some place ≡ position test files → (place ≡ position_or_len test files) × (position_or_len test files < length files)
placed test files place is = by (nat_lt (position_or_len test files) (length files)) refl is where
  by : (b : Bool) → nat_lt (position_or_len test files) (length files) ≡ b → Some place ≡ cond b (Some (position_or_len test files)) None
      → (place ≡ position_or_len test files) × (position_or_len test files < length files)
  by true below is = (ap (λ o. unwrap_or o place) is, grind (arith, below))
  by false below is = absurd (false≢true (sym (ap is_some is)))

missing : (test : Bor (List ℕ) → Bool) (files : List (Bor (List ℕ))) → None ≡ position test files → length files ≤ position_or_len test files
missing test files is = by (nat_lt (position_or_len test files) (length files)) refl is where
  by : (b : Bool) → nat_lt (position_or_len test files) (length files) ≡ b → None ≡ cond b (Some (position_or_len test files)) None → length files ≤ position_or_len test files
  by true below is = absurd (false≢true (ap is_some is))
  by false below is = grind (arith, below)

-- the source of what stands at a place
item_source : (split : List SplitSource) (place : ℕ) (r : Option (Bor SplitSource)) → IsItemAt split place r
    → unwrap_or (option_map (λ s. s.now.source.now) r) NotFound ≡ get_or (map whole_source split) place NotFound
item_source split place None item = sym (get_or_past (map whole_source split) place NotFound (omega (arith, item.3, length-map split whole_source)))
item_source split place (Some s) item = ap whole_source item.1 ∙ sym (get_or-map whole_source split place s.now NotFound item.3.0)

module _ (file : List ℕ) (test : Bor (List ℕ) → Bool) (tells : (x : Bor (List ℕ)) → test x ≡ bytes_eq file x.now) where
  -- the source at the place of the file
  source_found : (files : List (Bor (List ℕ))) (sources : List FileSource) → position_or_len test files < length files
      → get_or sources (position_or_len test files) NotFound ≡ source_at (map told files) sources file
  source_found [] sources within = absurd (omega (arith, within))
  source_found (f ∷ files) sources within =
      elim (test f) as (λ b. test f ≡ b → cond (not b) (1 + position_or_len test files) 0 < length (f ∷ files)
      → get_or sources (cond (not b) (1 + position_or_len test files) 0) NotFound ≡ source_at (f.now ∷ map told files) sources file) [
        | true ↦ λ is within. here sources (sym (tells f) ∙ is)
        | false ↦ λ is within. later sources (sym (tells f) ∙ is) (λ ss. source_found files ss (omega (arith, within)))
      ] refl within
    where
      here : (sources : List FileSource) → bytes_eq file f.now ≡ true → get_or sources 0 NotFound ≡ source_at (f.now ∷ map told files) sources file
      here [] is = refl
      here (s ∷ sources) is = ap (λ b. cond b s (source_at (map told files) sources file)) (sym is)

      later : (sources : List FileSource) → bytes_eq file f.now ≡ false
          → ((ss : List FileSource) → get_or ss (position_or_len test files) NotFound ≡ source_at (map told files) ss file)
          → get_or sources (1 + position_or_len test files) NotFound ≡ source_at (f.now ∷ map told files) sources file
      later [] is rest = ap (λ n. get_or [] n NotFound) (one (position_or_len test files))
      later (s ∷ sources) is rest =
          ap (λ n. get_or (s ∷ sources) n NotFound) (one (position_or_len test files))
          ∙ rest sources
          ∙ ap (λ b. cond b s (source_at (map told files) sources file)) (sym is)

  -- no source where the file is none of these
  source_missed : (files : List (Bor (List ℕ))) (sources : List FileSource) → length files ≤ position_or_len test files → NotFound ≡ source_at (map told files) sources file
  source_missed [] sources past = refl
  source_missed (f ∷ files) [] past = refl
  source_missed (f ∷ files) (s ∷ sources) past =
      elim (test f) as (λ b. test f ≡ b → length (f ∷ files) ≤ cond (not b) (1 + position_or_len test files) 0 → NotFound ≡ source_at (f.now ∷ map told files) (s ∷ sources) file) [
        | true ↦ λ is past. absurd (omega (arith, past))
        | false ↦ λ is past. source_missed files sources (omega (arith, past)) ∙ ap (λ b. cond b s (source_at (map told files) sources file)) (sym (sym (tells f) ∙ is))
      ] refl past

  -- the source that is found
  pub finds : (files : List (Bor (List ℕ))) (lent split : List SplitSource) (place : ℕ) (r : Option (Bor SplitSource)) → lent ≡ split → Some place ≡ position test files → IsItemAt lent place r
      → unwrap_or (option_map (λ s. s.now.source.now) r) NotFound ≡ source_at (map told files) (map whole_source split) file
  finds files lent split place r same at item =
      let there = placed test files place at in
      item_source lent place r item ∙ (λ j. get_or (map whole_source (same j)) (there.0 j) NotFound) ∙ source_found files (map whole_source split) there.1

  -- and none
  pub misses : (files : List (Bor (List ℕ))) (sources : List FileSource) (r : Option (Bor SplitSource)) → r ≡ None → None ≡ position test files
      → unwrap_or (option_map (λ s. s.now.source.now) r) NotFound ≡ source_at (map told files) sources file
  misses files sources r none at = ap (λ o. unwrap_or (option_map (λ (s : Bor SplitSource). s.now.source.now) o) NotFound) none ∙ source_missed files sources (missing test files at)

-- the source that was found, and another where there is none
pub found_else : (r : Option (Bor SplitSource)) (other : Bor SplitSource) → other.now.source.now ≡ NotFound
    → (unwrap_or r other).now.source.now ≡ unwrap_or (option_map (λ s. s.now.source.now) r) NotFound
found_else None other is = is
found_else (Some split) other is = refl

-- one more source is cut
pub split_next : (sources : List FileSource) (i : ℕ) (d : FileSource) (old new : List SplitSource) (one : SplitSource) → i < length sources → map whole_source old ≡ take i sources
    → new ≡ old ++ one ∷ [] → one.source.now ≡ get_or sources i d → map whole_source new ≡ take (i + 1) sources
split_next sources i d old new one within so_far added is =
    ap (map whole_source) added ∙ map-append whole_source old (one ∷ []) ∙ (λ j. so_far j ++ is j ∷ []) ∙ sym (take_more sources i d within)
