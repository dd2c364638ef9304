-- The names of a path, and the lines of paths.
use Rattle.std.proofs.Common.{◌≡◌, ℕ, ◌+◌, ◌-◌, ◌≤◌, List, [], ◌∷◌, ◌++◌, length, take, map, max, Option, refl, sym, ap, ◌∙◌, arith, append_assoc, length-append}
use Rattle.std.specs.List.{flat_map, join_with_byte}
use Rattle.std.proofs.Math.Seq.{take-append_seam, take-append-add}
use Rattle.std.proofs.lemmas.List.{append-nil, take_all}
use Rattle.std.proofs.lemmas.List.Concat.{flat_map-cons}
use Rattle.std.proofs.lemmas.Simd.{map-map}
use Rattle.pp_model.specs.declared.config.Config.{Config}
use Rattle.pp_model.specs.declared.loaded.Loaded.{Loaded}
use Rattle.pp_model.specs.declared.profile.Profile.{Profile}
use Rattle.pp_model.specs.declared.verdicts.Verdicts.{Verdicts}
use Rattle.pp_model.specs.Finders.{Finders}
use Rattle.pp_grain.specs.declared.key.Key.{Key}
use Rattle.pp_count.specs.Seeing.{HoldsFilters}
use Rattle.pp_count.specs.Table.{written_key}
use Rattle.pp_calltree.specs.declared.listing.PathSum.{PathSum}
use Rattle.pp_calltree.specs.CallPaths.{path_written, ArePathsOf}
use Rattle.pp_export.specs.Escaped.{semicolon}
use Rattle.pp_export.specs.Folded.{folded_text, names_joined, path_line}
use Rattle.pp_export.specs.PathNames.{name_and_separator, numbered_name, path_name}

-- a `;` ends the names of a path
names_end : (name : List ℕ) (names : List (List ℕ)) → flat_map name_and_separator (name ∷ names) ≡ join_with_byte semicolon (name ∷ names) ++ semicolon ∷ []
names_end name [] = flat_map-cons name_and_separator name [] ∙ append-nil (name_and_separator name)
names_end name (next ∷ names) =
    flat_map-cons name_and_separator name (next ∷ names) ∙ append_assoc name (semicolon ∷ []) (flat_map name_and_separator (next ∷ names))
    ∙ ap (λ t. name ++ semicolon ∷ t) (names_end next names) ∙ sym (append_assoc name (semicolon ∷ join_with_byte semicolon (next ∷ names)) (semicolon ∷ []))

-- and is left out
joined_is : (names : List (List ℕ)) → take (length (flat_map name_and_separator names) - 1) (flat_map name_and_separator names) ≡ join_with_byte semicolon names
joined_is [] = refl
joined_is (name ∷ names) =
    let joined : List ℕ = join_with_byte semicolon (name ∷ names) in
    let short : length (joined ++ semicolon ∷ []) - 1 ≡ length joined = omega (arith, length-append joined (semicolon ∷ [])) in
    ap (λ t. take (length t - 1) t) (names_end name names) ∙ ap (λ n. take n (joined ++ semicolon ∷ [])) short ∙ take-append_seam joined (semicolon ∷ [])

-- a text from which the last byte of what was added is taken
less_one : (old all new parts : List ℕ) (end : ℕ) → all ≡ old ++ parts → end ≡ max (length all - 1) (length old) → new ≡ take end all
    → new ≡ old ++ take (length parts - 1) parts
less_one old all new parts end all_is end_is new_is =
    let place : end ≡ length old + (length parts - 1) = omega (arith, end_is, ap length all_is, length-append old parts) in
    new_is ∙ (λ i. take (place i) (all_is i)) ∙ take-append-add old parts (length parts - 1)

-- the names of keys, without the `;` behind the last
pub keys_joined : (p : Profile) (names : List Key) (keys : List ℕ) (i : ℕ) (old all new : List ℕ) (end : ℕ) → length keys ≤ i
    → all ≡ old ++ flat_map name_and_separator (map (numbered_name p names) (take i keys))
    → end ≡ max (length all - 1) (length old) → new ≡ take end all → new ≡ old ++ names_joined (map (written_key p names) keys)
keys_joined p names keys i old all new end past all_is end_is new_is =
    let parts : List (List ℕ) = map (numbered_name p names) keys in
    less_one old all new (flat_map name_and_separator parts) end
    (all_is ∙ ap (λ ks. old ++ flat_map name_and_separator (map (numbered_name p names) ks)) (take_all i keys past)) end_is new_is
    ∙ ap (λ t. old ++ t) (joined_is parts ∙ ap (join_with_byte semicolon) (sym (map-map path_name (written_key p names) keys)))

-- what is written of the paths is the report
pub folded_is : (l : Loaded) (v : Verdicts) (config : Config) (column : Option ℕ) (f : Finders) (names : List Key) (paths : List PathSum)
    → ArePathsOf l v config column names paths → HoldsFilters l v config.filtering f
    → flat_map path_line (map (path_written l.profile names) paths) ≡ folded_text l.profile f config column
folded_is l v config column f names paths are holds = ap (flat_map path_line) (are.are f holds)
