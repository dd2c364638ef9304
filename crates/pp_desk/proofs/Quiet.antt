-- What a script leaves alone: a script without a step of some kind changes nothing that only such steps change.
use Rattle.std.proofs.Common.{◌≡◌, inl, inr, ℕ, Bool, true, false, List, Option, refl, ap, ◌∙◌}
use Rattle.std.specs.Prelude.{Result, Ok, Err}
use Rattle.std.proofs.lemmas.Bool.{false≢true}
use Rattle.pp_desk.specs.declared.input_line.InputLine.{InputLine}
use Rattle.pp_desk.specs.declared.stop.Stop.{Stop}
use Rattle.pp_desk.specs.declared.stop.Stop.TheVariants as stops
use Rattle.pp_desk.specs.Script.{Script, Give, Make, Step, WriteOut, WriteErr, ReadFile, WriteFile, Ask, NextLine, Reply, ◌>>=◌}
use Rattle.pp_desk.specs.Went.{Ways, Goes, Halts, InPart, AtRest, after}
use Rattle.pp_desk.specs.World.{Told}

-- all steps of the script pass the test
abbrev pub Only : {T : Type 0} → (Step → Bool) → Script T → Type 0
Only test (Give x) = Unit {0}
Only test (Make step script) = (test step ≡ true) × ((reply : Reply step) → Only test (script reply))

-- the steps of one script and then of another
pub only_then : {A B : Type 0} (test : Step → Bool) (p : Script A) (q : A → Script B) → Only test p → ((x : A) → Only test (q x)) → Only test (p >>= q)
unfolding ◌>>=◌
only_then test (Give x) q o n = n x
only_then test (Make step p) q o n = (o.0, λ reply. only_then test (p reply) q (o.1 reply) n)

-- a step that reads no line
abbrev pub reads_no_line : Step → Bool
reads_no_line (WriteOut bytes) = true
reads_no_line (WriteErr bytes) = true
reads_no_line (ReadFile path limit) = true
reads_no_line (WriteFile path bytes) = true
reads_no_line (Ask pattern) = true
reads_no_line NextLine = false

-- a step that asks no pattern
abbrev pub asks_nothing : Step → Bool
asks_nothing (WriteOut bytes) = true
asks_nothing (WriteErr bytes) = true
asks_nothing (ReadFile path limit) = true
asks_nothing (WriteFile path bytes) = true
asks_nothing (Ask pattern) = false
asks_nothing NextLine = true

-- what is told of the input, and of the matcher
pub record Input : Type 0 where
  pub lines : Option (List InputLine)
  pub unread : Option (List ℕ)

abbrev pub input_of : Told → Input
input_of told = record { lines = told.lines; unread = told.unread }

same_input : {b a : Told} → b ≡ a → input_of b ≡ input_of a
same_input e = ap input_of e

same_answers : {b a : Told} → b ≡ a → b.answers ≡ a.answers
same_answers e = ap (λ (t : Told). t.answers) e

input_after : (a : Told) (step : Step) (reply : Reply step) → reads_no_line step ≡ true → input_of (after a step reply) ≡ input_of a
input_after a (WriteOut bytes) reply e = refl
input_after a (WriteErr bytes) reply e = refl
input_after a (ReadFile path limit) reply e = refl
input_after a (WriteFile path bytes) true e = refl
input_after a (WriteFile path bytes) false e = refl
input_after a (Ask pattern) reply e = refl
input_after a NextLine reply e = absurd (false≢true e)

answers_after : (a : Told) (step : Step) (reply : Reply step) → asks_nothing step ≡ true → (after a step reply).answers ≡ a.answers
answers_after a (WriteOut bytes) reply e = refl
answers_after a (WriteErr bytes) reply e = refl
answers_after a (ReadFile path limit) reply e = refl
answers_after a (WriteFile path bytes) true e = refl
answers_after a (WriteFile path bytes) false e = refl
answers_after a NextLine reply e = refl
answers_after a (Ask pattern) reply e = absurd (false≢true e)

-- nothing has changed where memory was wanting between two steps
pub at_rest : (a b : Told) (s : Stop) → AtRest a b s → b ≡ a
at_rest a b stops.Memory e = e
at_rest a b s e = absurd e

input_in_part : (a b : Told) (step : Step) (s : Stop) → reads_no_line step ≡ true → InPart a b step s → input_of b ≡ input_of a
input_in_part a b (WriteOut bytes) stops.Out n q = same_input q.2
input_in_part a b (WriteOut bytes) stops.Memory n q = same_input q.2
input_in_part a b (WriteErr bytes) stops.Err n q = same_input q.2
input_in_part a b (WriteErr bytes) stops.Memory n q = same_input q.2
input_in_part a b (ReadFile path limit) stops.File n (inl q) = same_input q
input_in_part a b (ReadFile path limit) stops.File n (inr q) = same_input q
input_in_part a b (ReadFile path limit) stops.Memory n (inl q) = same_input q
input_in_part a b (ReadFile path limit) stops.Memory n (inr q) = same_input q
input_in_part a b (WriteFile path bytes) stops.File n (inl q) = same_input q
input_in_part a b (WriteFile path bytes) stops.File n (inr q) = same_input q.3
input_in_part a b NextLine s n q = absurd (false≢true n)
input_in_part a b step s n q = absurd q

answers_in_part : (a b : Told) (step : Step) (s : Stop) → InPart a b step s → b.answers ≡ a.answers
answers_in_part a b (WriteOut bytes) stops.Out q = same_answers q.2
answers_in_part a b (WriteOut bytes) stops.Memory q = same_answers q.2
answers_in_part a b (WriteErr bytes) stops.Err q = same_answers q.2
answers_in_part a b (WriteErr bytes) stops.Memory q = same_answers q.2
answers_in_part a b (ReadFile path limit) stops.File (inl q) = same_answers q
answers_in_part a b (ReadFile path limit) stops.File (inr q) = same_answers q
answers_in_part a b (ReadFile path limit) stops.Memory (inl q) = same_answers q
answers_in_part a b (ReadFile path limit) stops.Memory (inr q) = same_answers q
answers_in_part a b (WriteFile path bytes) stops.File (inl q) = same_answers q
answers_in_part a b (WriteFile path bytes) stops.File (inr q) = same_answers q.3
answers_in_part a b NextLine stops.Input q = same_answers q
answers_in_part a b NextLine stops.Memory q = same_answers q
answers_in_part a b step s q = absurd q

-- A script that reads no line leaves the input alone.
pub input_alone : {T : Type 0} (p : Script T) (a b : Told) (r : Result T Stop) → Only reads_no_line p → Ways a b p r → input_of b ≡ input_of a
unfolding Ways Goes Halts
input_alone (Give x) a b (Ok y) o w = same_input w.0
input_alone (Give x) a b (Err s) o w = same_input (at_rest a b s w)
input_alone (Make step p) a b (Ok y) o w = input_alone (p w.0) (after a step w.0) b (Ok y) (o.1 w.0) w.2 ∙ input_after a step w.0 o.0
input_alone (Make step p) a b (Err s) o (inl w) = same_input (at_rest a b s w)
input_alone (Make step p) a b (Err s) o (inr (inl w)) = input_in_part a b step s o.0 w
input_alone (Make step p) a b (Err s) o (inr (inr w)) = input_alone (p w.0) (after a step w.0) b (Err s) (o.1 w.0) w.2 ∙ input_after a step w.0 o.0

-- A script that asks no pattern gets no answer.
pub answers_alone : {T : Type 0} (p : Script T) (a b : Told) (r : Result T Stop) → Only asks_nothing p → Ways a b p r → b.answers ≡ a.answers
unfolding Ways Goes Halts
answers_alone (Give x) a b (Ok y) o w = same_answers w.0
answers_alone (Give x) a b (Err s) o w = same_answers (at_rest a b s w)
answers_alone (Make step p) a b (Ok y) o w = answers_alone (p w.0) (after a step w.0) b (Ok y) (o.1 w.0) w.2 ∙ answers_after a step w.0 o.0
answers_alone (Make step p) a b (Err s) o (inl w) = same_answers (at_rest a b s w)
answers_alone (Make step p) a b (Err s) o (inr (inl w)) = answers_in_part a b step s w
answers_alone (Make step p) a b (Err s) o (inr (inr w)) = answers_alone (p w.0) (after a step w.0) b (Err s) (o.1 w.0) w.2 ∙ answers_after a step w.0 o.0
