-- The law of the pool's core.
use Rattle.std.proofs.Common.{◌≡◌, ℕ, zero, suc, ◌+◌, ◌<◌, eqb, cond, Bool, List, [], ◌∷◌, ◌++◌, length, set, get_or, sym, refl, ap, ◌∙◌, subst, arith, eq-eqb, ne_eqb}
use Rattle.crossbeam_deque.proofs.Lists.{set_else}
use Rattle.pp_steal.specs.declared.view.Role.{Role}
use Rattle.pp_steal.specs.declared.view.Role.TheVariants.{Owner, Marked, Guest, Spent}
use Rattle.pp_steal.specs.declared.view.View.{View}
use Rattle.pp_steal.specs.Pool.{count_in, times_taken, TakesPart, FitsAs, Sound, took, joined_view}
use Rattle.pp_steal.specs.Dealing.{is_of, lane_of, dealt_to, upto}
use Rattle.pp_steal.specs.Core.{Deque, empty_deque, End, Front, Back, PoolStep, Push, Pop, PopNothing, Steal, StealNothing, SplitOff, JoinIn, IsAt, LeavesAt, Steps, Runs, IsOfPool, pool_times, pool_taken, AllEmpty, EachStateIsSound, EachPieceOnce, EachTakenOnce}
use Rattle.pp_steal.proofs.Keeps.{begins, pushes, takes, pops, forks, merges}
use Rattle.pp_steal.proofs.Dealt.{times-filter}
use Rattle.pp_steal.proofs.Closing.{lane_below}

abbrev SoundD : Deque → Type 0
SoundD d = Sound d.items d.views

live_guest : (r : Role) → r ≡ Guest → TakesPart r
live_guest r e = subst TakesPart (sym e) tt

-- what the deque's rule owes at a call is the core's step
takes_first : (d : Deque) (pass : ℕ) (v : View) (x : ℕ) (rest : List ℕ) → TakesPart v.role → IsAt d pass v → d.items ≡ x ∷ rest → SoundD d → Sound rest (set d.views pass (took v (x ∷ [])))
takes_first d pass v x rest live at is s =
    let t = takes pass v live (x ∷ []) rest d.views (omega arith) (omega arith) (subst (λ (l : List ℕ). Sound l d.views) is s) at in subst (λ (w : View). Sound rest (set d.views pass w)) t.2.0 t.1

takes_last : (d : Deque) (pass : ℕ) (v : View) (x : ℕ) (rest : List ℕ) → TakesPart v.role → IsAt d pass v → d.items ≡ rest ++ x ∷ [] → SoundD d → Sound rest (set d.views pass (took v (x ∷ [])))
takes_last d pass v x rest live at is s =
    let t = pops pass v live x rest d.views (subst (λ (l : List ℕ). Sound l d.views) is s) at in subst (λ (w : View). Sound rest (set d.views pass w)) t.2.0 t.1

takes_at : (end : End) (d : Deque) (v : View) (x : ℕ) (rest : List ℕ) → TakesPart v.role → IsAt d 0 v → LeavesAt end x d.items rest → SoundD d → Sound rest (set d.views 0 (took v (x ∷ [])))
takes_at Front d v x rest = takes_first d 0 v x rest
takes_at Back d v x rest = takes_last d 0 v x rest

step_sound : (s : PoolStep) (d e : Deque) → Steps s d e → SoundD d → SoundD e
step_sound (Push p) d e h s =
    let t = pushes 0 h.owner p h.unmarked h.above d.items d.views s h.at in subst SoundD (sym h.next) (subst (λ (w : View). Sound (d.items ++ p ∷ []) (set d.views 0 w)) t.2 t.1)
step_sound (Pop end) d e h s = subst SoundD (sym h.next) (takes_at end d h.owner h.piece h.rest h.live h.at h.leaves s)
step_sound PopNothing d e h s = subst SoundD (sym h.next) s
step_sound (Steal thief) d e h s = subst SoundD (sym h.next) (takes_first d thief h.guest h.piece h.rest (live_guest h.guest.role h.role) h.at h.first s)
step_sound (StealNothing thief) d e h s = subst SoundD (sym h) s
step_sound (SplitOff splitter) d e h s = subst SoundD (sym h.next) (forks splitter h.view h.live d.items d.views s h.at)
step_sound (JoinIn pass other) d e h s =
    subst SoundD (sym h.next) (merges pass h.view other h.guest h.live h.role d.items d.views s h.at h.two (set_else d.views pass other (joined_view h.view h.guest) h.two ∙ h.other_at))

pub runs_sound : (steps : List PoolStep) (d e : Deque) → Runs steps d e → SoundD d → SoundD e
runs_sound [] d e h s = subst SoundD (sym h) s
runs_sound (x ∷ steps) d e h s = runs_sound steps h.0 e h.2 (step_sound x d h.0 h.1 s)

pub each_sound : EachStateIsSound
each_sound steps d h = runs_sound steps empty_deque d h begins

dealt_owner : (r : Role) (dealt : List ℕ) (count : ℕ) (v : View) → FitsAs r dealt count 0 v → v.dealt ≡ dealt
dealt_owner Owner dealt count v f = f.0
dealt_owner Marked dealt count v f = f.0
dealt_owner Guest dealt count v f = absurd (f.1 refl)
dealt_owner Spent dealt count v f = absurd (f.1 refl)

-- items and taken lists of a deque hold the pieces that it was dealt
one_deque : (dealt : List ℕ) (d : Deque) → IsOfPool dealt d → (x : ℕ) → count_in x d.items + times_taken x d.views ≡ count_in x dealt
one_deque dealt d h x = let s = each_sound h.steps d h.run in s.once x ∙ ap (count_in x) (sym (dealt_owner h.owner.role s.dealt (length d.views) h.owner (s.fits 0 h.owner h.at)) ∙ h.has)

pool_after : (x lane off : ℕ) (t : ℕ) (ds : List Deque) → lane < off → ((i : ℕ) (d : Deque) → i < length ds → count_in x (get_or ds i d).items + times_taken x (get_or ds i d).views ≡ cond (eqb lane (off + i)) t 0) → pool_times x ds ≡ 0
pool_after x lane off t [] lt h = refl
pool_after x lane off t (d ∷ ds) lt h =
    let here = h 0 d (omega arith) ∙ ap (λ (b : Bool). cond b t 0) (ne_eqb lane (off + 0) (λ k. omega arith)) in
    let rest = pool_after x lane (suc off) t ds (omega arith) (λ i e below. h (suc i) e (omega arith) ∙ ap (λ (n : ℕ). cond (eqb lane n) t 0) (omega arith)) in omega arith

pool_with : (x lane off k : ℕ) (t : ℕ) (ds : List Deque) → off + k ≡ lane → k < length ds → ((i : ℕ) (d : Deque) → i < length ds → count_in x (get_or ds i d).items + times_taken x (get_or ds i d).views ≡ cond (eqb lane (off + i)) t 0) → pool_times x ds ≡ t
pool_with x lane off k t [] at lt h = absurd (omega arith)
pool_with x lane off zero t (d ∷ ds) at lt h =
    let here = h 0 d (omega arith) ∙ ap (λ (b : Bool). cond b t 0) (eq-eqb lane (off + 0) (omega arith)) in
    let rest = pool_after x lane (suc off) t ds (omega arith) (λ i e below. h (suc i) e (omega arith) ∙ ap (λ (n : ℕ). cond (eqb lane n) t 0) (omega arith)) in omega arith
pool_with x lane off (suc k) t (d ∷ ds) at lt h =
    let here = h 0 d (omega arith) ∙ ap (λ (b : Bool). cond b t 0) (ne_eqb lane (off + 0) (λ m. omega arith)) in
    let rest = pool_with x lane (suc off) k t ds (omega arith) (omega arith) (λ i e below. h (suc i) e (omega arith) ∙ ap (λ (n : ℕ). cond (eqb lane n) t 0) (omega arith)) in omega arith

pub each_once : EachPieceOnce
each_once deal lanes pieces ds many pool x =
    let lane : ℕ = lane_of deal lanes x in
    let below : lane < lanes = lane_below deal lanes x many in
    let c = pool.many in
    pool_with x lane 0 lane (count_in x (upto pieces)) ds (omega arith) (omega arith)
    (λ i d lt. one_deque (dealt_to deal lanes pieces i) (get_or ds i d) (pool.each i d (omega arith)) x ∙ times-filter (is_of deal lanes i) x (upto pieces) ∙ ap (λ (n : ℕ). cond (eqb lane n) (count_in x (upto pieces)) 0) (omega arith))

empty_taken : (ds : List Deque) → AllEmpty ds → (x : ℕ) → pool_times x ds ≡ pool_taken x ds
empty_taken [] none x = refl
empty_taken (d ∷ ds) none x = let a : count_in x d.items ≡ 0 = ap (count_in x) (none 0 d (omega arith)) in let b = empty_taken ds (λ i e lt. none (suc i) e (omega arith)) x in omega arith

pub each_taken : EachTakenOnce
each_taken deal lanes pieces ds many pool none x = sym (empty_taken ds none x) ∙ each_once deal lanes pieces ds many pool x
