-- Pieces of a list, and what is right for all of them.
use Rattle.std.proofs.Common.{◌≡◌, ℕ, suc, ◌-◌, ◌*◌, ◌<◌, ◌≤◌, min, map, List, [], ◌∷◌, ◌++◌, length, take, drop, get_or, refl, sym, ap, subst, ◌∙◌, append_assoc, arith}
use Rattle.std.proofs.lemmas.List.{append-nil, drop-drop, drop-map, length-drop, take-append-drop, take-map, take_all, take_min}
use Rattle.pp_steal.specs.declared.piece.TheConstants.{PIECE}
use Rattle.pp_steal.specs.Pieces.{piece_of, IsCutInto}
use Rattle.pp_steal.specs.Running.{AreOutcomes}

-- `count` items from the piece's first on are the piece
pub piece_is : {A : Type 0} (items : List A) (piece count : ℕ) → count ≡ min (length items - piece * PIECE) PIECE → take count (drop (piece * PIECE) items) ≡ piece_of items piece
piece_is items piece count e =
    ap (λ n. take n (drop (piece * PIECE) items)) (omega (arith, e, length-drop (piece * PIECE) items))
    ∙ take_min PIECE (drop (piece * PIECE) items)
    ∙ ap (λ n. take PIECE (drop n items)) (omega arith)

-- the piece, cut from all items from its first on
pub piece_cut : {A : Type 0} (items : List A) (piece count : ℕ) → count ≡ min (length items - piece * PIECE) PIECE
    → take count (take (length items - piece * PIECE) (drop (piece * PIECE) items)) ≡ piece_of items piece
piece_cut items piece count e =
    let rest = drop (piece * PIECE) items in
    ap (take count) (take_all (length items - piece * PIECE) rest (omega (arith, length-drop (piece * PIECE) items))) ∙ piece_is items piece count e

-- a piece of changed items
pub piece_of-map : {A B : Type 0} (f : A → B) (items : List A) (piece : ℕ) → map f (piece_of items piece) ≡ piece_of (map f items) piece
piece_of-map f items piece = sym (take-map f PIECE (drop (PIECE * piece) items)) ∙ ap (take PIECE) (sym (drop-map f (PIECE * piece) items))

-- a piece of what comes after the first piece
piece_behind : {A : Type 0} (items : List A) (k : ℕ) → piece_of (drop PIECE items) k ≡ piece_of items (suc k)
piece_behind items k = ap (take PIECE) (drop-drop (PIECE * k) PIECE items) ∙ ap (λ n. take PIECE (drop n items)) (omega arith)

module _ {A T : Type 0} (right : List A → T → Type 0) where
  parts_are : (items : List A) (parts : List T) → ((k : ℕ) (d : T) → k < length parts → right (piece_of items k) (get_or parts k d)) → length items ≤ PIECE * length parts
      → IsCutInto right items parts
  parts_are [] [] each whole = refl
  parts_are (x ∷ items) [] each whole = absurd (omega arith)
  parts_are items (part ∷ parts) each whole = (
    take PIECE items,
    drop PIECE items,
    sym (take-append-drop PIECE items),
    each 0 part (omega arith),
    parts_are (drop PIECE items) parts
        (λ k d here. subst (λ l. right l (get_or parts k d)) (sym (piece_behind items k)) (each (suc k) d (omega (arith, here))))
        (omega (arith, whole, length-drop PIECE items)),
  )

  -- The outcomes of all pieces are right for the parts of the list.
  pub outcomes_are : (items : List A) (pieces : ℕ) (parts : List T) → AreOutcomes (λ piece. right (piece_of items piece)) pieces parts → length items ≤ PIECE * pieces
      → IsCutInto right items parts
  outcomes_are items pieces parts all whole =
      let many = all.many in
      parts_are items parts (λ k d here. all.each k d (omega (arith, here, many))) (omega (arith, whole, many))

  -- The outcome is that of the front of the items, and the parts are those of the rest.
  pub record AreAppended (items : List A) (all : T) (parts : List T) : Type 0 where
    pub front : List A
    pub rest : List A
    pub cut : items ≡ front ++ rest
    pub is_right : right front all
    pub are : IsCutInto right rest parts

  -- one part more is appended
  pub part_appended : (items : List A) (before after part : T) (parts : List T) → AreAppended items before (part ∷ parts)
      → ((xs ys : List A) → right xs before → right ys part → right (xs ++ ys) after) → AreAppended items after parts
  part_appended items before after part parts a both =
      let (front, rest, cut, own, others) = a.are in
      record {
        front = a.front ++ front;
        rest = rest;
        cut = a.cut ∙ ap (λ l. a.front ++ l) cut ∙ sym (append_assoc a.front front rest);
        is_right = both a.front front a.is_right own;
        are = others;
      }

  -- all parts are appended
  pub all_appended : (items : List A) (all : T) → AreAppended items all [] → right items all
  all_appended items all a = subst (λ l. right l all) (sym (a.cut ∙ ap (λ l. a.front ++ l) a.are ∙ append-nil a.front)) a.is_right
