-- Paths as parts of many keys.
use Rattle.std.proofs.Common.{◌≡◌, ℕ, ◌+◌, ◌<◌, ◌≤◌, List, [], ◌∷◌, ◌++◌, length, reverse, take, drop, get_or, map, refl, sym, ap, ◌∙◌, arith}
use Rattle.std.specs.List.{sum_by}
use Rattle.std.proofs.lemmas.List.{append-nil, append_assoc, drop_all, drop_more, length-drop, length-append, map-append, reverse-append, take_all, take_more, take-append-le, drop-append-le}
use Rattle.std.proofs.lemmas.List.Sums.{sum_by-append, sum_by-cons, sum_by_push}
use Rattle.pp_count.specs.Sums.{Seen}
use Rattle.pp_calltree.specs.declared.path.PathPart.{PathPart}
use Rattle.pp_calltree.specs.declared.path.Path.{Path}
use Rattle.pp_calltree.specs.declared.paths.Paths.{Paths}
use Rattle.pp_calltree.specs.Paths.{parts_of, path_of, AreKeptAs}

abbrev len_of : PathPart → ℕ
len_of s = s.len

none_left : (xs : List ℕ) → length xs ≡ 0 → xs ≡ []
none_left [] none = refl
none_left (x ∷ xs) none = absurd (omega (arith, none))

-- the paths of two lists of keys
parts-append : (keys more : List ℕ) (parts others : List PathPart) → sum_by len_of parts ≡ length keys → parts_of (keys ++ more) (parts ++ others) ≡ parts_of keys parts ++ parts_of more others
parts-append keys more [] others whole = ap (λ ks. parts_of (ks ++ more) others) (none_left keys (sym whole))
parts-append keys more (x ∷ parts) others whole =
    let within : x.len ≤ length keys = omega (arith, whole, sum_by-cons len_of x parts) in
    let rest : sum_by len_of parts ≡ length (drop x.len keys) = omega (arith, whole, sum_by-cons len_of x parts, length-drop x.len keys) in
    (λ i. record { value = x.value; keys = take-append-le x.len keys more within i } ∷ parts_of (drop-append-le x.len keys more within i) (parts ++ others))
    ∙ ap (λ r. record { value = x.value; keys = take x.len keys } ∷ r) (parts-append (drop x.len keys) more parts others rest)

pub kept_more : (old new : Paths) (samples : List (Seen ℕ)) (s : PathPart) (more : List ℕ) → new.keys.items ≡ old.keys.items ++ more → new.parts.items ≡ old.parts.items ++ s ∷ []
    → s.len ≡ length more → AreKeptAs old samples → AreKeptAs new (samples ++ record { value = s.value; keys = more } ∷ [])
kept_more old new samples s more keys parts own kept = record {
  are = (λ i. parts_of (keys i) (parts i)) ∙ parts-append old.keys.items more old.parts.items (s ∷ []) kept.whole
      ∙ (λ i. kept.are i ++ record { value = s.value; keys = take_all s.len more (omega (arith, own)) i } ∷ []);
  whole = omega (
    arith,
    ap (sum_by len_of) parts,
    sum_by_push len_of old.parts.items s,
    ap length keys,
    length-append old.keys.items more,
    kept.whole,
    own,
  );
}

pub kept_both : (old more new : Paths) (a b : List (Seen ℕ)) → new.keys.items ≡ old.keys.items ++ more.keys.items → new.parts.items ≡ old.parts.items ++ more.parts.items
    → AreKeptAs old a → AreKeptAs more b → AreKeptAs new (a ++ b)
kept_both old more new a b keys parts first second = record {
  are = (λ i. parts_of (keys i) (parts i)) ∙ parts-append old.keys.items more.keys.items old.parts.items more.parts.items first.whole ∙ (λ i. first.are i ++ second.are i);
  whole = omega (
    arith,
    ap (sum_by len_of) parts,
    sum_by-append len_of old.parts.items more.parts.items,
    ap length keys,
    length-append old.keys.items more.keys.items,
    first.whole,
    second.whole,
  );
}

pub kept_none : (paths : Paths) → paths.keys.items ≡ [] → paths.parts.items ≡ [] → AreKeptAs paths []
kept_none paths keys parts = record {
  are = λ i. parts_of (keys i) (parts i);
  whole = omega (arith, ap (sum_by len_of) parts, ap length keys);
}

-- The first paths are cut off, and what is left of the keys has the others.
pub record CutTo (keys : List ℕ) (parts : List PathPart) (i : ℕ) (rest : List ℕ) (paths : List Path) : Type 0 where
  pub fits : sum_by (λ s. s.len) (drop i parts) ≤ length rest
  pub are : map path_of paths ++ parts_of rest (drop i parts) ≡ parts_of keys parts

module _ (keys : List ℕ) (parts : List PathPart) (i : ℕ) (d : PathPart) (rest : List ℕ) (paths : List Path) (here : i < length parts) (so_far : CutTo keys parts i rest paths) where
  abbrev next : PathPart
  next = get_or parts i d

  pub cut_fits : next.len ≤ length rest
  cut_fits = omega (arith, so_far.fits, ap (sum_by len_of) (drop_more parts i d here), sum_by-cons len_of next (drop (i + 1) parts))

  pub cut_more : (after : List ℕ) (path : Path) (new : List Path) → after ≡ drop next.len rest → path_of path ≡ record { value = next.value; keys = take next.len rest }
      → new ≡ paths ++ path ∷ [] → CutTo keys parts (i + 1) after new
  cut_more after path new after_is path_is more = record {
    fits = omega (
      arith,
      so_far.fits,
      ap (sum_by len_of) (drop_more parts i d here),
      sum_by-cons len_of next (drop (i + 1) parts),
      ap length after_is,
      length-drop next.len rest,
    );
    are = (λ j. map path_of (more j) ++ parts_of (after_is j) (drop (i + 1) parts))
        ∙ ap (λ r. r ++ parts_of (drop next.len rest) (drop (i + 1) parts)) (map-append path_of paths (path ∷ []) ∙ ap (λ s. map path_of paths ++ s ∷ []) path_is)
        ∙ append_assoc (map path_of paths) (record { value = next.value; keys = take next.len rest } ∷ []) (parts_of (drop next.len rest) (drop (i + 1) parts))
        ∙ ap (λ ps. map path_of paths ++ parts_of rest ps) (sym (drop_more parts i d here))
        ∙ so_far.are;
  }

pub cut_all : (keys : List ℕ) (parts : List PathPart) (i : ℕ) (rest : List ℕ) (paths : List Path) → length parts ≤ i → CutTo keys parts i rest paths
    → map path_of paths ≡ parts_of keys parts
cut_all keys parts i rest paths past so_far =
    sym (append-nil (map path_of paths)) ∙ ap (λ ps. map path_of paths ++ parts_of rest ps) (sym (drop_all i parts past)) ∙ so_far.are

-- Of the keys, `left` are left to be added in reverse.
pub turned_more : (keys out new : List ℕ) (left next d : ℕ) → next + 1 ≡ left → left ≤ length keys → new ≡ out ++ get_or keys next d ∷ []
    → new ++ reverse (take next keys) ≡ out ++ reverse (take left keys)
turned_more keys out new left next d same fits more =
    ap (λ r. r ++ reverse (take next keys)) more
    ∙ append_assoc out (get_or keys next d ∷ []) (reverse (take next keys))
    ∙ ap (λ r. out ++ r) (sym (ap (λ n. reverse (take n keys)) (sym same) ∙ ap reverse (take_more keys next d (omega (arith, same, fits))) ∙ reverse-append (take next keys) (get_or keys next d ∷ [])))
