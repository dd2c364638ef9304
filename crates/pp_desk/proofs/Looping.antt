-- Loops of stages: what is left to do.
use Rattle.std.proofs.Common.{◌≡◌, ◌+◌, ◌<◌, ◌≤◌, ℕ, List, sym, ap, ◌∙◌, length, drop, get_or}
use Rattle.std.specs.Prelude.{Result, Ok, Err}
use Rattle.std.proofs.lemmas.List.{at_drop_more, at_drop_all}
use Rattle.pp_desk.specs.declared.stop.Stop.{Stop}
use Rattle.pp_desk.specs.World.{World}
use Rattle.pp_desk.specs.Script.{Script, ◌>>=◌, each}
use Rattle.pp_desk.specs.Went.{Went, IsOnWay, Arriving}
use Rattle.pp_desk.proofs.Going.{goes_second, stops_first, gives}

-- how the whole went, from how the rest of it did
pub arrives : {A : Type 0} (a b c : World) (whole left : Script A) (r : Result A Stop) → IsOnWay a b whole left → Went b c left r → Went a c whole r
arrives a b c whole left r (Arriving f) g = f c r g

-- at the start all is still to do
pub sets_out : {A : Type 0} (a : World) (p : Script A) → IsOnWay a a p p
sets_out a p = Arriving (λ new r w. w)

-- one stage more is done of what is left
pub moves_on : {A B : Type 0} (a b c : World) (whole : Script B) (p : Script A) (q : A → Script B) (x : A) → IsOnWay a b whole (p >>= q) → Went b c p (Ok x) → IsOnWay a c whole (q x)
moves_on a b c whole p q x w f = Arriving (λ new r g. arrives a b new whole (p >>= q) r w (goes_second b c new p q x r f g))

module _ {A : Type 0} (script : A → Script (Unit {0})) (xs : List A) (i : ℕ) where
  -- the next item of a loop
  each_next : (x : A) → i < length xs → x ≡ get_or xs i x → each script (drop i xs) ≡ (script x >>= (λ _. each script (drop (i + 1) xs)))
  unfolding each
  each_next x h e = at_drop_more (each script) xs i x h ∙ ap (λ y. script y >>= (λ _. each script (drop (i + 1) xs))) (sym e)

  -- all items are left
  pub each_starts : (a : World) → i ≡ 0 → IsOnWay a a (each script xs) (each script (drop i xs))
  each_starts a e = rw e (sets_out a (each script xs))

  -- one more is done
  pub each_goes : (a b c : World) (x : A) → i < length xs → x ≡ get_or xs i x → IsOnWay a b (each script xs) (each script (drop i xs)) → Went b c (script x) (Ok tt)
      → IsOnWay a c (each script xs) (each script (drop (i + 1) xs))
  each_goes a b c x h e w f = moves_on a b c (each script xs) (script x) _ tt (rw (each_next x h e) at w) f

  -- the loop was stopped at an item
  pub each_stops : (a b c : World) (x : A) (s : Stop) → i < length xs → x ≡ get_or xs i x → IsOnWay a b (each script xs) (each script (drop i xs)) → Went b c (script x) (Err s)
      → Went a c (each script xs) (Err s)
  each_stops a b c x s h e w f = arrives a b c _ _ (Err s) (rw (each_next x h e) at w) (stops_first b c (script x) _ s f)

  -- no item is left
  pub each_ends : (a b : World) → length xs ≤ i → IsOnWay a b (each script xs) (each script (drop i xs)) → Went a b (each script xs) (Ok tt)
  unfolding each
  each_ends a b h w = arrives a b b _ _ (Ok tt) (rw (at_drop_all (each script) xs i h) at w) (gives b tt)

-- what a loop of stages needs
pub ruleset looping = (each_starts, each_goes, each_stops, each_ends)
