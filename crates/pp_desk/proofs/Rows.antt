-- Worked inputs: the lines that the definition gives of them.
use Rattle.std.proofs.Common.{◌≡◌, [], ◌∷◌, refl}
use Rattle.std.specs.Prelude.{codes, true, false}
use Rattle.pp_desk.specs.declared.input_line.InputLine.TheVariants.{Line, End, InputTooLong}
use Rattle.pp_desk.specs.Lines.{lines_in, after_next}

-- a carriage return is a byte of the line, an empty line is a line, and bytes behind the last line end are one too
short_input : lines_in (codes "one\r\n\ntwo") true ≡ Line (codes "one\r") ∷ Line [] ∷ Line (codes "two") ∷ End ∷ []
unfolding lines_in
short_input = refl

-- nothing stands behind the last line end
closed_input : lines_in (codes "one\n") true ≡ Line (codes "one") ∷ End ∷ []
unfolding lines_in
closed_input = refl

-- an input of no bytes
no_input : lines_in [] true ≡ End ∷ []
unfolding lines_in
no_input = refl

-- of an input that is not read to its end, the bytes behind the last line end are no line
long_input : lines_in (codes "one\ntw") false ≡ Line (codes "one") ∷ InputTooLong ∷ []
unfolding lines_in
long_input = refl

-- so also where all the bytes that are read stand in lines
full_input : lines_in (codes "one\n") false ≡ Line (codes "one") ∷ InputTooLong ∷ []
unfolding lines_in
full_input = refl

-- the end is repeated
end_again : after_next (after_next (Line [] ∷ End ∷ [])) ≡ End ∷ []
end_again = refl
