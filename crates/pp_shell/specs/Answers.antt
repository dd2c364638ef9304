-- What the calls answer: what a definition gives, unless memory ran out.
use Rattle.std.specs.Prelude.{◌≡◌, ⊤, Result, Ok, Err}
use Rattle.pp_shell.specs.declared.fault.LineFault.{LineFault}
use Rattle.pp_shell.specs.declared.fault.LineRefusal.{LineRefusal}
use Rattle.pp_shell.specs.declared.fault.LineRefusal.TheVariants.{Fault, Memory}

-- the answer is that, unless memory ran out
abbrev pub AnswersLine : {A : Type 0} → Result A LineFault → Result A LineRefusal → Type 0
AnswersLine wanted (Ok given) = wanted ≡ Ok given
AnswersLine wanted (Err (Fault fault)) = wanted ≡ Err fault
AnswersLine wanted (Err Memory) = ⊤
