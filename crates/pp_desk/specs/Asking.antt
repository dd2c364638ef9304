-- Scripts that may end in a refusal, after which nothing more is done.
use Rattle.std.specs.Prelude.{Result, Ok, Err}
use Rattle.pp_desk.specs.declared.stop.Stop.{Stop}
use Rattle.pp_desk.specs.Script as scripts
use Rattle.pp_desk.specs.Script.{Script, Give}
use Rattle.pp_desk.specs.declared.halt.Halt.{Halt}
use Rattle.pp_desk.specs.declared.halt.Halt.TheVariants as halts

-- a script that gives something, or a refusal
abbrev pub Asking : Type 0 → Type 0 → Type 0
Asking R T = Script (Result T R)

-- what is done after something was given, and nothing after a refusal
abbrev pub go_on : {R A B : Type 0} → (A → Asking R B) → Result A R → Asking R B
go_on next (Ok given) = next given
go_on next (Err refused) = Give (Err refused)

-- one script, and then the script that what it gives asks for
infixl 10 ◌>>=◌
unfoldable pub ◌>>=◌ : {R A B : Type 0} → Asking R A → (A → Asking R B) → Asking R B
script >>= next = scripts.◌>>=◌ script (go_on next)

-- a refusal as an answer, beside what was given
abbrev pub settled : {T R : Type 0} → Result T (Halt R) → Result (Result T R) Stop
settled (Ok given) = Ok (Ok given)
settled (Err (halts.Refused refused)) = Ok (Err refused)
settled (Err (halts.Stopped stop)) = Err stop
