-- The line that a reader gives is the next of those that were to come.
use Rattle.std.proofs.Common.{◌≡◌, ◌≤◌, ◌<◌, ◌+◌, ◌++◌, ℕ, true, false, List, [], ◌∷◌, Option, Some, None, length, take, drop, refl, sym, ap, ◌∙◌, arith, append_assoc, append-nil, nat_lt, length-take, take_all, drop_of_length-le}
use Rattle.std.specs.Prelude.{option_map}
use Rattle.std.proofs.lemmas.Bool.Decides.{nat_tests}
use Rattle.std.proofs.Math.Seq.{take-nil}
use Rattle.std.proofs.lemmas.List.Elements.{All-nil}
use Rattle.std.proofs.lemmas.List.Folds.{list_any_none}
use Rattle.pp_desk.specs.declared.input_line.InputLine.{InputLine}
use Rattle.pp_desk.specs.declared.input_line.InputLine.TheVariants as lines
use Rattle.pp_desk.specs.declared.line_reader.LineRead.{LineRead}
use Rattle.pp_desk.specs.declared.line_reader.LineRead.TheVariants as reads
use Rattle.pp_desk.specs.declared.line_reader.TheConstants.{LINE_LIMIT}
use Rattle.pp_desk.specs.Finding.{HasNoEnd, EndsAt, GivesFront}
use Rattle.pp_desk.specs.Lines.{lines_in, line_of, ending_of, next_of, after_next}
use Rattle.pp_desk.specs.Reader.{ReaderHeld, pending, left_of, to_come, GivesNext, GivesLine, last_answer}
use Rattle.pp_desk.proofs.Parting.{lines_first, lines_last, after_first, too_long}
use Rattle.pp_base.specs.Words.{is_line_end}

-- a line that is short enough
short_enough : (line : List ℕ) → length line ≤ LINE_LIMIT → line_of line ≡ lines.Line line
short_enough line short = grind (arith, nat_tests)

-- what a line gives, by how it is given
module _ (f g : List ℕ → List InputLine) (line : InputLine) (same : (l : List ℕ) → f l ≡ line ∷ g l) (rest : (l : List ℕ) → after_next (line ∷ g l) ≡ g l) where
  gives_next : (left : Option (List ℕ)) → GivesNext (option_map f left) (option_map g left) line
  gives_next None = (tt, refl)
  gives_next (Some l) = (ap next_of (sym (same l)), ap Some (sym (ap after_next (same l) ∙ rest l)))

module _ (old new : ReaderHeld) (len : ℕ) (ends : EndsAt (pending old) len) (room : new.room ≡ old.room) (ended : new.ended ≡ old.ended) (behind : pending new ≡ drop (len + 1) (pending old)) where
  -- the first line, and what is to come behind it
  first_line : (l : List ℕ) → to_come old l ≡ line_of (take len (pending old)) ∷ to_come new l
  unfolding to_come
  first_line l =
      let bytes = take old.room (left_of old.ended l) in
      let short = nat_lt (length (left_of old.ended l)) old.room in
      let split : pending old ++ bytes ≡ take len (pending old) ++ 10 ∷ (drop (len + 1) (pending old) ++ bytes) =
      ap (λ p. p ++ bytes) ends.split ∙ append_assoc (take len (pending old)) (10 ∷ drop (len + 1) (pending old)) bytes in
      rw (room, ended, behind) (ap (λ b. lines_in b short) split ∙ lines_first (take len (pending old)) (drop (len + 1) (pending old) ++ bytes) short ends.first)

  behind_first : (line : InputLine) (l : List ℕ) → after_next (line ∷ to_come new l) ≡ to_come new l
  unfolding to_come
  behind_first line l = after_first line _ _

  pub gives_first : (line : InputLine) → line_of (take len (pending old)) ≡ line → (left : Option (List ℕ)) → GivesNext (option_map (to_come old) left) (option_map (to_come new) left) line
  gives_first line e = gives_next (to_come old) (to_come new) line (λ l. first_line l ∙ ap (λ x. x ∷ to_come new l) e) (behind_first line)

-- nothing is given
kept_lines : (old new : ReaderHeld) → new ≡ old → (left : Option (List ℕ)) → option_map (to_come new) left ≡ option_map (to_come old) left
kept_lines old new e left = ap (λ r. option_map (to_come r) left) e

-- The first line is given, where it ends.
pub gives_line : (old new : ReaderHeld) (len : ℕ) (answer : LineRead) → EndsAt (pending old) len → GivesFront old new len (len + 1) answer → (left : Option (List ℕ)) → GivesLine (option_map (to_come old) left) (option_map (to_come new) left) answer
gives_line old new len (reads.Line bytes) ends g =
    gives_first old new len ends g.3 g.4 g.2 (lines.Line bytes) (short_enough _ (omega (arith, length-take len (pending old))) ∙ ap lines.Line (sym g.1))
gives_line old new len reads.TooLong ends g =
    gives_first old new len ends g.2 g.3 g.1 lines.TooLong (too_long _ (omega (arith, length-take len (pending old), ends.inside)))
gives_line old new len reads.Memory ends g = kept_lines old new g
gives_line old new len reads.End ends g = absurd g
gives_line old new len reads.InputTooLong ends g = absurd g
gives_line old new len reads.Failed ends g = absurd g

-- what tells the end, where the source has ended
ended_lines : (r : ReaderHeld) → r.ended ≡ true → 0 < r.room → HasNoEnd (pending r) → (l : List ℕ) → to_come r l ≡ ending_of (pending r) true
unfolding to_come
ended_lines r ended room none l =
    let test : nat_lt 0 r.room ≡ true = grind (arith, nat_tests) in
    rw (ended, take-nil r.room, append-nil, test) (lines_last (pending r) true none)

-- bytes behind the last line end are a line
ending_line : (bytes : List ℕ) → 0 < length bytes → ending_of bytes true ≡ line_of bytes ∷ lines.End ∷ []
ending_line [] some = absurd (omega arith)
ending_line (x ∷ xs) some = refl

no_bytes : (bytes : List ℕ) → length bytes ≡ 0 → bytes ≡ []
no_bytes [] e = refl
no_bytes (x ∷ xs) e = absurd (omega arith)

module _ (old : ReaderHeld) (ended : old.ended ≡ true) (room : 0 < old.room) (none : HasNoEnd (pending old)) where
  -- no byte is left
  pub gives_end : length (pending old) ≡ 0 → (left : Option (List ℕ)) → GivesNext (option_map (to_come old) left) (option_map (to_come old) left) lines.End
  gives_end e None = (tt, refl)
  gives_end e (Some l) =
      let c : to_come old l ≡ lines.End ∷ [] = ended_lines old ended room none l ∙ ap (λ b. ending_of b true) (no_bytes (pending old) e) in
      rw c (refl, refl)

  module _ (new : ReaderHeld) (same_room : new.room ≡ old.room) (same_end : new.ended ≡ old.ended) (behind : pending new ≡ drop (length (pending old)) (pending old)) where
    -- nothing is to come behind the last line
    end_behind : (l : List ℕ) → to_come new l ≡ lines.End ∷ []
    end_behind l =
        let empty : pending new ≡ [] = behind ∙ drop_of_length-le (pending old) {i = length (pending old)} (omega arith) in
        ended_lines new (same_end ∙ ended) (rw same_room room) (rw empty (All-nil (λ byte. is_line_end byte ≡ false))) l ∙ ap (λ b. ending_of b true) empty

    last_line : 0 < length (pending old) → (line : InputLine) → line_of (pending old) ≡ line → (left : Option (List ℕ)) → GivesNext (option_map (to_come old) left) (option_map (to_come new) left) line
    last_line some line e = gives_next (to_come old) (to_come new) line
        (λ l. ended_lines old ended room none l ∙ ending_line (pending old) some ∙ (λ i. e i ∷ sym (end_behind l) i))
        (λ l. ap (λ ls. after_next (line ∷ ls)) (end_behind l) ∙ sym (end_behind l))

  -- The last line is given, which nothing ends.
  pub gives_last : (new : ReaderHeld) (answer : LineRead) → 0 < length (pending old) → GivesFront old new (length (pending old)) (length (pending old)) answer
      → (left : Option (List ℕ)) → GivesLine (option_map (to_come old) left) (option_map (to_come new) left) answer
  gives_last new (reads.Line bytes) some g = last_line new g.3 g.4 g.2 some (lines.Line bytes) (short_enough _ g.0 ∙ ap lines.Line (sym (g.1 ∙ take_all (length (pending old)) (pending old) (omega arith))))
  gives_last new reads.TooLong some g = last_line new g.2 g.3 g.1 some lines.TooLong (too_long _ g.0)
  gives_last new reads.Memory some g = kept_lines old new g
  gives_last new reads.End some g = absurd g
  gives_last new reads.InputTooLong some g = absurd g
  gives_last new reads.Failed some g = absurd g

-- no more may be read
full_lines : (r : ReaderHeld) → r.ended ≡ false → r.room ≡ 0 → HasNoEnd (pending r) → (l : List ℕ) → to_come r l ≡ lines.InputTooLong ∷ []
unfolding to_come
full_lines r reading full none l =
    let test : nat_lt (length l) 0 ≡ false = grind (arith, nat_tests) in
    rw (reading, full, append-nil, test) (lines_last (pending r) false none)

pub gives_full : (r : ReaderHeld) → r.ended ≡ false → r.room ≡ 0 → HasNoEnd (pending r) → (left : Option (List ℕ)) → GivesNext (option_map (to_come r) left) (option_map (to_come r) left) lines.InputTooLong
gives_full r reading full none None = (tt, refl)
gives_full r reading full none (Some l) = rw (full_lines r reading full none l) (refl, refl)

-- and that is so from now on
pub full_for_good : (r : ReaderHeld) → r.ended ≡ false → r.room ≡ 0 → HasNoEnd (pending r) → last_answer r ≡ Some reads.InputTooLong
full_for_good r reading full none = rw (reading, full, list_any_none is_line_end (pending r) none) refl
