-- The keys that numbers of names stand for, and their sums.
use Rattle.std.proofs.Common.{◌≡◌, ℕ, ◌<◌, pos, List, [], ◌∷◌, length, map, get_or, All, Option, zero, suc, refl, sym, ap, subst, ◌∙◌, arith}
use Rattle.std.specs.List.{slice_get}
use Rattle.std.proofs.lemmas.Option.{get_or_from_slice_get, slice_get_within}
use Rattle.std.proofs.lemmas.List.Elements.{All-get_or, All-head, All-tail}
use Rattle.pp_model.specs.declared.profile.Profile.{Profile}
use Rattle.pp_model.specs.FrameTexts.{Written}
use Rattle.pp_grain.specs.declared.key.Key.{Key}
use Rattle.pp_grain.specs.Keys.{key_cmp, key_written, IsKeyOf}
use Rattle.pp_grain.specs.Naming.{name_text}
use Rattle.pp_count.specs.declared.sums.Sums.{Sums}
use Rattle.pp_count.specs.Counts.{AreSumsOf}
use Rattle.pp_count.specs.Sums.{Seen, flat, cum}
use Rattle.pp_count.specs.Table.{no_key, written_key}
use Rattle.pp_graph.specs.KeyRows.{row_at}
use Rattle.pp_graph.specs.Sampled.{seen_row}

-- a name is a key of the profile
pub name_is_key : (p : Profile) (names : List Key) (n : ℕ) (key : Key) → All (IsKeyOf p) names → slice_get names n ≡ Option.Some key → IsKeyOf p key
name_is_key p names n key all found =
    subst (λ (k : Key). IsKeyOf p k) (get_or_from_slice_get names n key key found) (All-get_or (IsKeyOf p) names n key (slice_get_within names n key found) all)

-- what it stands for
pub name_written : (p : Profile) (names : List Key) (n : ℕ) (key : Key) → slice_get names n ≡ Option.Some key → key_written p key ≡ written_key p names n
name_written p names n key found = ap (key_written p) (sym (get_or_from_slice_get names n key no_key found))

-- a sum at a name's place
at_place : {A : Type 0} (g : Written → A) (p : Profile) (names : List Key) (n : ℕ) (d : A) → n < length names → get_or (map g (map (key_written p) names)) n d ≡ g (written_key p names n)
at_place g p [] n d within = absurd (omega arith)
at_place g p (k ∷ names) zero d within = refl
at_place g p (k ∷ names) (suc n) d within = at_place g p names n d (omega arith)

-- the row of a name is that of its key
pub row_is : (p : Profile) (samples : List (Seen Written)) (sums : Sums) (n : ℕ) → AreSumsOf p samples sums → n < length sums.names
    → row_at p sums n ≡ seen_row samples (written_key p sums.names n)
row_is p samples sums n are within = λ i. record {
  flat = whole_flat i;
  cum = whole_cum i;
  name = name_text (written_key p sums.names n);
} where
  whole_flat : get_or sums.flat n (pos 0) ≡ flat key_cmp samples (written_key p sums.names n)
  whole_flat = ap (λ xs. get_or xs n (pos 0)) are.flat ∙ at_place (flat key_cmp samples) p sums.names n (pos 0) within

  whole_cum : get_or sums.cum n (pos 0) ≡ cum key_cmp samples (written_key p sums.names n)
  whole_cum = ap (λ xs. get_or xs n (pos 0)) are.cum ∙ at_place (cum key_cmp samples) p sums.names n (pos 0) within

-- the rows of names are those of their keys
pub rows_are : (p : Profile) (samples : List (Seen Written)) (sums : Sums) (order : List ℕ) → AreSumsOf p samples sums → All (λ n. n < length sums.names) order
    → map (row_at p sums) order ≡ map (seen_row samples) (map (written_key p sums.names) order)
rows_are p samples sums [] are below = refl
rows_are p samples sums (n ∷ order) are below = λ i.
    row_is p samples sums n are (All-head (λ m. m < length sums.names) n order below) i
    ∷ rows_are p samples sums order are (All-tail (λ m. m < length sums.names) n order below) i
