-- How scripts that may end in a refusal follow one another.
use Rattle.std.proofs.Common.{refl}
use Rattle.std.specs.Prelude.{Result, Ok, Err}
use Rattle.pp_desk.specs.declared.stop.Stop.{Stop}
use Rattle.pp_desk.specs.Script.{Give}
use Rattle.pp_desk.specs.World.{World}
use Rattle.pp_desk.specs.Went.{Went}
use Rattle.pp_desk.proofs.Going.{gives, wants, stops_first, goes_second, goes_give}
use Rattle.pp_desk.specs.declared.halt.Halt.{Halt}
use Rattle.pp_desk.specs.declared.halt.Halt.TheVariants as halts
use Rattle.pp_desk.specs.Asking.{Asking, ◌>>=◌, go_on, settled}

module _ {R A B : Type 0} (a b : World) (p : Asking R A) (q : A → Asking R B) where
  -- The first was stopped, and so both are.
  pub asking_stops : (s : Stop) → Went a b p (Err s) → Went a b (p >>= q) (Err s)
  unfolding ◌>>=◌
  asking_stops s went = stops_first a b p (go_on q) s went

  -- The first was refused, and so both are.
  pub asking_refused : (refused : R) → Went a b p (Ok (Err refused)) → Went a b (p >>= q) (Ok (Err refused))
  unfolding ◌>>=◌
  asking_refused refused went = goes_give a b p (go_on q) (Err refused) (Err refused) went refl

  -- The first was ended early, and so both are.
  pub asking_halts : (halt : Halt R) → Went a b p (settled {T = A} (Err halt)) → Went a b (p >>= q) (settled {T = B} (Err halt))
  asking_halts (halts.Stopped stop) went = asking_stops stop went
  asking_halts (halts.Refused refused) went = asking_refused refused went

  -- The first was done, and the second went on from there, however it went.
  pub asking_second : (c : World) (x : A) (r : Result (Result B R) Stop) → Went a b p (Ok (Ok x)) → Went b c (q x) r → Went a c (p >>= q) r
  unfolding ◌>>=◌
  asking_second c x r went next = goes_second a b c p (go_on q) (Ok x) r went next

-- Something is given: the end of a stage.
pub asking_gives : {R T : Type 0} (w : World) (x : T) → Went {T = Result T R} w w (Give (Ok x)) (Ok (Ok x))
asking_gives w x = gives w (Ok x)

-- what search needs to put scripts that ask together
pub ruleset asking = (asking_halts, asking_stops, asking_refused, asking_second, asking_gives, wants)
