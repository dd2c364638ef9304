-- What a run makes of how its script went: effects and then more effects, answers between two moments, and a line that is told at the end.
use Rattle.std.proofs.Common.{◌≡◌, ◌++◌, inl, inr, ℕ, List, [], ◌∷◌, Option, Some, length, take, drop_at, refl, sym, ap, ◌∙◌}
use Rattle.std.specs.Prelude.{Result, Ok, Err, IfOk}
use Rattle.std.proofs.lemmas.List.{append-nil}
use Rattle.std.proofs.lemmas.List.Concat.{flat_map-append}
use Rattle.std.proofs.lemmas.Option.{same_Some}
use Rattle.pp_base.proofs.CallerLemmas.{take-IsFront}
use Rattle.pp_base.specs.FileMap.{FileMap, with_content}
use Rattle.pp_base.specs.Front.{IsFront}
use Rattle.pp_base.specs.Judges.{Answer}
use Rattle.pp_base.specs.Told.{extended, extended-extended, extended-nil}
use Rattle.pp_desk.specs.declared.stop.Stop.{Stop}
use Rattle.pp_desk.specs.declared.stop.Stop.TheVariants as stops
use Rattle.pp_desk.specs.Course.{given}
use Rattle.pp_desk.specs.Effects.{Effect, ToOut, ToErr, ToFile, FromFile, out_of, err_of, read_of, outs, errs, reads_of, files_after, Outside, Did}
use Rattle.pp_desk.specs.Script.{Script, WriteErr, write_err}
use Rattle.pp_desk.specs.Went.{Went, parts, Ways, Goes, Halts, InPart}
use Rattle.pp_desk.specs.World.{Told, World}
use Rattle.pp_desk.specs.Closes.{Closes}
use Rattle.pp_desk.proofs.Quiet.{at_rest}

-- the files after some effects and then others
pub files_after-append : (files : Option FileMap) (es fs : List Effect) → files_after files (es ++ fs) ≡ files_after (files_after files es) fs
files_after-append files [] fs = refl
files_after-append files (ToOut bytes ∷ es) fs = files_after-append files es fs
files_after-append files (ToErr bytes ∷ es) fs = files_after-append files es fs
files_after-append files (ToFile path bytes ∷ es) fs = files_after-append (with_content files path bytes) es fs
files_after-append files (FromFile path ∷ es) fs = files_after-append files es fs

-- effects and then others
pub did_more : (a b c : Outside) (es fs : List Effect) → Did a b es → Did b c fs → Did a c (es ++ fs)
did_more a b c es fs d e = record {
  out = e.out ∙ ap (λ o. extended o (outs fs)) d.out ∙ extended-extended a.out (outs es) (outs fs) ∙ ap (extended a.out) (sym (flat_map-append out_of es fs));
  err = e.err ∙ ap (λ o. extended o (errs fs)) d.err ∙ extended-extended a.err (errs es) (errs fs) ∙ ap (extended a.err) (sym (flat_map-append err_of es fs));
  files = e.files ∙ ap (λ o. files_after o fs) d.files ∙ sym (files_after-append a.files es fs);
  reads = e.reads ∙ ap (λ o. extended o (reads_of fs)) d.reads ∙ extended-extended a.reads (reads_of es) (reads_of fs) ∙ ap (extended a.reads) (sym (flat_map-append read_of es fs));
}

-- the answers given between two moments are those by which the list grew
pub given_is : (before now more : List Answer) (o : Option (List Answer)) → o ≡ Some before → Some now ≡ extended o more → given before now ≡ more
given_is before now more o e k =
    let n : now ≡ before ++ more = same_Some _ _ (k ∙ ap (λ x. extended x more) e) in
    rw n (drop_at before more (length before) refl)

-- how much of a line was told
abbrev TellsPart : Told → Told → List ℕ → Type 0
TellsPart a b line = (part : List ℕ) × IsFront part line × (b ≡ record a { err = extended a.err part })

none_told : (a b : Told) (line : List ℕ) → b ≡ a → TellsPart a b line
none_told a b line e = ([], (line, refl), e ∙ (λ i. record a { err = sym (extended-nil a.err) i }))

all_told : (a b : Told) (line : List ℕ) → b ≡ record a { err = extended a.err line } → TellsPart a b line
all_told a b line e = (line, ([], sym (append-nil line)), e)

some_told : (a b : Told) (line : List ℕ) (s : Stop) → InPart a b (WriteErr line) s → TellsPart a b line
some_told a b line stops.Err q = (take q.0 line, take-IsFront q.0 line, q.2)
some_told a b line stops.Memory q = (take q.0 line, take-IsFront q.0 line, q.2)
some_told a b line stops.File q = absurd q
some_told a b line stops.Input q = absurd q
some_told a b line stops.Out q = absurd q

told_part : (a b : Told) (line : List ℕ) (r : Result (Unit {0}) Stop) → Ways a b (write_err line) r → TellsPart a b line
unfolding Ways Goes Halts
told_part a b line (Ok x) w = all_told a b line w.2.0
told_part a b line (Err s) (inl q) = none_told a b line (at_rest a b s q)
told_part a b line (Err s) (inr (inl q)) = some_told a b line s q
told_part a b line (Err s) (inr (inr g)) = all_told a b line (at_rest _ b s g.2)

-- A line was told as far as standard error took it.
pub closes : (a b : World) (line : List ℕ) (r : Result (Unit {0}) Stop) → Went a b (write_err line) r → Closes a b line
closes a b line r w =
    let w = parts w in
    let t = told_part a.told b.told line r w.ways in
    record { part = t.0; front = t.1; tells = t.2; later = w.later; same = w.same; input = w.input }

-- what was done of a script that came to its end
pub goes_of : {T : Type 0} (a b : World) (script : Script T) (r : Result T Stop) → Went a b script r → IfOk r (Goes a.told b.told script)
unfolding Ways
goes_of a b script (Ok x) w = (parts w).ways
goes_of a b script (Err s) w = tt

-- the objects are the same ones
pub same_of : {T : Type 0} (a b : World) (script : Script T) (r : Result T Stop) → Went a b script r → b.names ≡ a.names
same_of a b script r w = (parts w).same

-- what the end of a call needs that opens its clause
pub ruleset opening = (goes_of, same_of)
