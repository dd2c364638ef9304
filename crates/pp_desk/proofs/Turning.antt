-- Turns of a loop with a bound.
use Rattle.std.proofs.Common.{◌≡◌, ◌-◌, ◌+◌, ◌<◌, ℕ, suc, Bool, true, false, ap, arith, if◌then◌else◌}
use Rattle.std.specs.Prelude.{Ok, Err}
use Rattle.pp_desk.specs.declared.stop.Stop.{Stop}
use Rattle.pp_desk.specs.Script.{Script, Give, ◌>>=◌, repeated}
use Rattle.pp_desk.specs.Went.{Went, IsOnWay}
use Rattle.pp_desk.specs.World.{World}
use Rattle.pp_desk.proofs.Going.{goes_second, stops_first, gives}
use Rattle.pp_desk.proofs.Looping.{arrives, sets_out, moves_on}

module _ {S T : Type 0} (turn : S → Script (S × Bool)) (ended spent : T) (turns left : ℕ) (first state : S) where
  -- what one turn leads to
  abbrev more_turns : ℕ → (S × Bool) → Script T
  more_turns later next = if next.1 then repeated turn ended spent later next.0 else Give ended

  next_turn : (later : ℕ) → left ≡ later + 1 → repeated turn ended spent left state ≡ (turn state >>= more_turns later)
  unfolding repeated
  next_turn later e =
      let e : left ≡ suc later = omega arith in
      ap (λ n. repeated turn ended spent n state) e

  -- a turn ends the loop
  pub turns_end : (a b c : World) (next : S) (more : Bool) → 0 < left → more ≡ false → IsOnWay a b (repeated turn ended spent turns first) (repeated turn ended spent left state)
      → Went b c (turn state) (Ok (next, more)) → Went a c (repeated turn ended spent turns first) (Ok ended)
  turns_end a b c next more h m w f =
      arrives a b c _ _ (Ok ended) (rw (next_turn (left - 1) (omega arith)) at w) (goes_second b c c (turn state) (more_turns (left - 1)) (next, false) (Ok ended) (rw m at f) (gives c ended))

  -- a turn was stopped
  pub turns_stop : (a b c : World) (s : Stop) → 0 < left → IsOnWay a b (repeated turn ended spent turns first) (repeated turn ended spent left state) → Went b c (turn state) (Err s)
      → Went a c (repeated turn ended spent turns first) (Err s)
  turns_stop a b c s h w f = arrives a b c _ _ (Err s) (rw (next_turn (left - 1) (omega arith)) at w) (stops_first b c (turn state) _ s f)

  -- no turn is left
  pub turns_spent : (a b : World) → left ≡ 0 → IsOnWay a b (repeated turn ended spent turns first) (repeated turn ended spent left state) → Went a b (repeated turn ended spent turns first) (Ok spent)
  unfolding repeated
  turns_spent a b e w = arrives a b b _ _ (Ok spent) (rw e at w) (gives b spent)

  -- one more turn is done, and the loop goes on
  pub turns_go : (later : ℕ) (a b c : World) (next : S) (more : Bool) → left ≡ later + 1 → more ≡ true
      → IsOnWay a b (repeated turn ended spent turns first) (repeated turn ended spent left state) → Went b c (turn state) (Ok (next, more))
      → IsOnWay a c (repeated turn ended spent turns first) (repeated turn ended spent later next)
  turns_go later a b c next more e m w f =
      moves_on a b c _ (turn state) (more_turns later) (next, true) (rw (next_turn later e) at w) (rw m at f)

-- all turns are left
pub turns_start : {S T : Type 0} (turn : S → Script (S × Bool)) (ended spent : T) (turns left : ℕ) (state : S) (a : World) → left ≡ turns
    → IsOnWay a a (repeated turn ended spent turns state) (repeated turn ended spent left state)
turns_start turn ended spent turns left state a e = rw e (sets_out a (repeated turn ended spent turns state))

-- what a loop of turns needs
pub ruleset turning = (turns_start, turns_go, turns_end, turns_stop, turns_spent)
