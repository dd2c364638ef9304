-- Each kind of step keeps the rule.
use Rattle.std.proofs.Common.{◌≡◌, ◌≢◌, ℕ, zero, suc, ◌+◌, ◌<◌, ◌≤◌, ◌⊎◌, List, [], ◌∷◌, ◌++◌, length, length-set, length-append, set, sym, refl, ap, ◌∙◌, subst, inl, inr, ⊎_elim, arith}
use mathlib.Core.Option.{some, some-ne-none, some-injective}
use lib.ListN.{get_elem?}
use Rattle.crossbeam_deque.specs.Tasks as tasks
use Rattle.crossbeam_deque.proofs.Lists.{at_set, set_here}
use Rattle.pp_steal.specs.declared.view.Role.{Role}
use Rattle.pp_steal.specs.declared.view.Role.TheVariants.{Owner, Marked, Guest, Spent}
use Rattle.pp_steal.specs.declared.view.View.{View}
use Rattle.pp_steal.specs.Pool.{a_view, count_in, times_taken, AllUnder, AllOver, Rises, IsSublistOf, TakesPart, FitsAs, FitsRole, Sound, took, TookDealt, TakesPieces, Deals, marked, mark, newcomer, joined_view, spent}

pub times-append : (x : ℕ) (xs ys : List ℕ) → count_in x (xs ++ ys) ≡ count_in x xs + count_in x ys
times-append x [] ys = omega arith
times-append x (z ∷ xs) ys = omega (arith, times-append x xs ys)

-- a change of one view
pub taken_set : (x : ℕ) (views : List View) (port : ℕ) (v w : View) → get_elem? views port ≡ some v → times_taken x (set views port w) + count_in x v.taken ≡ times_taken x views + count_in x w.taken
taken_set x [] port v w at = absurd (some-ne-none v (sym at))
taken_set x (u ∷ views) zero v w at = let e : count_in x u.taken ≡ count_in x v.taken = ap (λ (y : View). count_in x y.taken) (some-injective u v at) in omega arith
taken_set x (u ∷ views) (suc port) v w at = omega (arith, taken_set x views port v w at)

pub taken_snoc : (x : ℕ) (views : List View) (w : View) → times_taken x (views ++ w ∷ []) ≡ times_taken x views + count_in x w.taken
taken_snoc x [] w = omega arith
taken_snoc x (u ∷ views) w = omega (arith, taken_snoc x views w)

pub taken_one : (x : ℕ) (views : List View) (port : ℕ) (v : View) → get_elem? views port ≡ some v → count_in x v.taken ≤ times_taken x views
taken_one x [] port v at = absurd (some-ne-none v (sym at))
taken_one x (u ∷ views) zero v at = let e : count_in x u.taken ≡ count_in x v.taken = ap (λ (y : View). count_in x y.taken) (some-injective u v at) in omega arith
taken_one x (u ∷ views) (suc port) v at = omega (arith, taken_one x views port v at)

at_below : (views : List View) (port : ℕ) (v : View) → get_elem? views port ≡ some v → port < length views
at_below [] port v at = absurd (some-ne-none v (sym at))
at_below (u ∷ views) zero v at = omega arith
at_below (u ∷ views) (suc port) v at = omega (arith, at_below views port v at)

at_end : (views : List View) (w u : View) (port : ℕ) → get_elem? (views ++ w ∷ []) port ≡ some u → (get_elem? views port ≡ some u) ⊎ ((w ≡ u) × (port ≡ length views))
at_end [] w u zero at = inr (some-injective w u at, refl)
at_end [] w u (suc port) at = absurd (some-ne-none u (sym at))
at_end (y ∷ views) w u zero at = inl at
at_end (y ∷ views) w u (suc port) at = ⊎_elim (λ a. inl a) (λ (a : (w ≡ u) × (port ≡ length views)). inr (a.0, ap suc a.1)) (at_end views w u port at)

over_push : (z p : ℕ) (xs : List ℕ) → AllOver z xs → z < p → AllOver z (xs ++ p ∷ [])
over_push z p [] h lt = (lt, tt)
over_push z p (x ∷ xs) h lt = (h.0, over_push z p xs h.1 lt)

pub rises_push : (p : ℕ) (xs : List ℕ) → Rises xs → AllUnder p xs → Rises (xs ++ p ∷ [])
rises_push p [] h under = (tt, tt)
rises_push p (x ∷ xs) h under = (over_push x p xs h.0 under.0, rises_push p xs h.1 under.1)

part_more : (xs : List ℕ) (y : ℕ) (ys : List ℕ) → IsSublistOf xs ys → IsSublistOf xs (y ∷ ys)
part_more [] y ys h = tt
part_more (x ∷ xs) y ys h = inr h

part_last : (p : ℕ) (ys : List ℕ) → IsSublistOf (p ∷ []) (ys ++ p ∷ [])
part_last p [] = inl (refl, tt)
part_last p (y ∷ ys) = inr (part_last p ys)

part_push : (p : ℕ) (xs ys : List ℕ) → IsSublistOf xs ys → IsSublistOf (xs ++ p ∷ []) (ys ++ p ∷ [])
part_push p [] ys h = part_last p ys
part_push p (x ∷ xs) [] h = absurd h
part_push p (x ∷ xs) (y ∷ ys) h = ⊎_elim (λ (a : (x ≡ y) × IsSublistOf xs ys). inl (a.0, part_push p xs ys a.1)) (λ a. inr (part_push p (x ∷ xs) ys a)) h

part_tail : (x : ℕ) (xs ys : List ℕ) → IsSublistOf (x ∷ xs) ys → IsSublistOf xs ys
part_tail x xs [] h = absurd h
part_tail x xs (y ∷ ys) h = ⊎_elim (λ (a : (x ≡ y) × IsSublistOf xs ys). part_more xs y ys a.1) (λ a. part_more xs y ys (part_tail x xs ys a)) h

part_rest : (xs items ys : List ℕ) → IsSublistOf (xs ++ items) ys → IsSublistOf items ys
part_rest [] items ys h = h
part_rest (x ∷ xs) items ys h = part_rest xs items ys (part_tail x (xs ++ items) ys h)

part_front : (items : List ℕ) (x : ℕ) (ys : List ℕ) → IsSublistOf (items ++ x ∷ []) ys → IsSublistOf items ys
part_front [] x ys h = tt
part_front (z ∷ items) x [] h = absurd h
part_front (z ∷ items) x (y ∷ ys) h = ⊎_elim (λ (a : (z ≡ y) × IsSublistOf (items ++ x ∷ []) ys). inl (a.0, part_front items x ys a.1)) (λ a. inr (part_front (z ∷ items) x ys a)) h

dealt_live : (r : Role) (dealt : List ℕ) (count port : ℕ) (v : View) → TakesPart r → FitsAs r dealt count port v → v.dealt ≡ dealt
dealt_live Owner dealt count port v live f = f.0
dealt_live Marked dealt count port v live f = f.0
dealt_live Guest dealt count port v live f = f.0
dealt_live Spent dealt count port v live f = absurd live

fits_live : (r : Role) (dealt : List ℕ) (count port : ℕ) (v w : View) → w.dealt ≡ v.dealt → TakesPart r → FitsAs r dealt count port v → FitsAs r dealt count port w
fits_live Owner dealt count port v w e live f = (e ∙ f.0, f.1, f.2)
fits_live Marked dealt count port v w e live f = (e ∙ f.0, f.1)
fits_live Guest dealt count port v w e live f = (e ∙ f.0, f.1)
fits_live Spent dealt count port v w e live f = absurd live

abbrev AllFit : (ℕ → View → Type 0) → List View → Type 0
AllFit F views = (port : ℕ) (v : View) → get_elem? views port ≡ some v → F port v

fit_set : (F : ℕ → View → Type 0) (views : List View) (port : ℕ) (w : View) → F port w → ((j : ℕ) (u : View) → j ≢ port → get_elem? views j ≡ some u → F j u) → AllFit F (set views port w)
fit_set F views port w mine others j u e = ⊎_elim (λ (x : (j ≡ port) × (w ≡ u)). subst (λ (y : ℕ × View). F y.0 y.1) (λ i. (sym x.0 i, x.1 i)) mine)
    (λ (x : (j ≢ port) × (get_elem? views j ≡ some u)). others j u x.0 x.1) (at_set views port j w u e)

-- one live view takes another list; the deque's items change too
change : (dealt items items' : List ℕ) (views : List View) (port : ℕ) (v : View) (taken : List ℕ) → TakesPart v.role → get_elem? views port ≡ some v → Rises dealt → IsSublistOf items' dealt
    → ((x : ℕ) → count_in x items + times_taken x views ≡ count_in x dealt) → ((x : ℕ) → count_in x items' + count_in x taken ≡ count_in x items + count_in x v.taken)
    → AllFit (FitsRole dealt (length views)) views → Sound items' (set views port (a_view v.role v.dealt taken))
change dealt items items' views port v taken live at rises part count moved fits = let w : View = a_view v.role v.dealt taken in record {
  dealt = dealt;
  rises = rises;
  part = part;
  once = λ x. let a = taken_set x views port v w at in let b = count x in let c = moved x in omega arith;
  fits = subst (λ n. AllFit (FitsRole dealt n) (set views port w)) (sym (length-set views port w))
      (fit_set (FitsRole dealt (length views)) views port w (fits_live v.role dealt (length views) port v w refl live (fits port v at)) (λ j u other e. fits j u e));
}

-- what a live pass knows, whatever the deque holds
pub finds : (port : ℕ) (v : View) (items : List ℕ) (views : List View) → TakesPart v.role → Sound items views → get_elem? views port ≡ some v → TookDealt v
finds port v items views live h at x = let e : count_in x v.dealt ≡ count_in x h.dealt = ap (count_in x) (dealt_live v.role h.dealt (length views) port v live (h.fits port v at)) in
    let a = taken_one x views port v at in let b = h.once x in omega arith

pub takes : (port : ℕ) (v : View) → TakesPart v.role → tasks.Takes Sound port v 1 (TakesPieces v)
takes port v live xs items views some_ one h at = let w : View = took v xs in
    let next : Sound items (set views port w) = change h.dealt (xs ++ items) items views port v (v.taken ++ xs) live at h.rises (part_rest xs items h.dealt h.part) h.once (λ x. omega (arith, times-append x xs items, times-append x v.taken xs)) h.fits in
    (w, next, (refl, finds port w items (set views port w) live next (set_here views port w (at_below views port v at))))

pub pops : (port : ℕ) (v : View) → TakesPart v.role → tasks.Pops Sound port v (TakesPieces v)
pops port v live x items views h at = let w : View = took v (x ∷ []) in
    let next : Sound items (set views port w) = change h.dealt (items ++ x ∷ []) items views port v (v.taken ++ x ∷ []) live at h.rises (part_front items x h.dealt h.part) h.once (λ y. omega (arith, times-append y items (x ∷ []), times-append y v.taken (x ∷ []))) h.fits in
    (w, next, (refl, finds port w items (set views port w) live next (set_here views port w (at_below views port v at))))

pub pushes : (port : ℕ) (v : View) (p : ℕ) → v.role ≡ Owner → AllUnder p v.dealt → tasks.Pushes Sound port v (p ∷ []) (Deals v (p ∷ []))
pushes port v p own under items views h at =
    let w : View = a_view v.role (v.dealt ++ p ∷ []) v.taken in
    let f : FitsAs Owner h.dealt (length views) port v = subst (λ (r : Role). FitsAs r h.dealt (length views) port v) own (h.fits port v at) in
    let dealt : List ℕ = h.dealt ++ p ∷ [] in
    let mine : FitsAs Owner dealt (length views) port w = (ap (λ (l : List ℕ). l ++ p ∷ []) f.0, f.1, f.2) in (
      w,
      record {
        dealt = dealt;
        rises = rises_push p h.dealt h.rises (subst (AllUnder p) f.0 under);
        part = part_push p items h.dealt h.part;
        once = λ x. let a = taken_set x views port v w at in let b = h.once x in omega (arith, times-append x items (p ∷ []), times-append x h.dealt (p ∷ []));
        fits = subst (λ n. AllFit (FitsRole dealt n) (set views port w)) (sym (length-set views port w))
            (fit_set (FitsRole dealt (length views)) views port w (subst (λ (r : Role). FitsAs r dealt (length views) port w) (sym own) mine)
            (λ j u other e. let b = at_below views j u e in let c = f.1 in let d = f.2 in absurd (other (omega arith))));
      },
      refl,
    )

marks : (r : Role) (dealt : List ℕ) (count port : ℕ) (v : View) (taken : List ℕ) → TakesPart r → FitsAs r dealt count port v → FitsAs (marked r) dealt (count + 1) port (a_view (marked r) v.dealt taken)
marks Owner dealt count port v taken live f = (f.0, f.1)
marks Marked dealt count port v taken live f = f
marks Guest dealt count port v taken live f = f
marks Spent dealt count port v taken live f = absurd live

-- a view that isn't the splitter's: it isn't the owner's unmarked one, which would be alone
stays : (r : Role) (dealt : List ℕ) (count port j : ℕ) (u : View) → j ≢ port → port < count → FitsAs r dealt count j u → FitsAs r dealt (count + 1) j u
stays Owner dealt count port j u other lt f = absurd (other (omega arith))
stays Marked dealt count port j u other lt f = f
stays Guest dealt count port j u other lt f = f
stays Spent dealt count port j u other lt f = f

pub forks : (port : ℕ) (v : View) → TakesPart v.role → tasks.Forks Sound port v (mark v) (newcomer v)
forks port v live items views h at =
    let w : View = mark v in
    let n : View = newcomer v in
    let vs : List View = set views port w in
    let count : ℕ = length views in
    let lt : port < count = at_below views port v at in
    let same : length vs ≡ count = length-set views port w in
    let mine : FitsAs v.role h.dealt count port v = h.fits port v at in
    let now : AllFit (FitsRole h.dealt (count + 1)) vs = fit_set (FitsRole h.dealt (count + 1)) views port w (marks v.role h.dealt count port v v.taken live mine) (λ j u other e. stays u.role h.dealt count port j u other lt (h.fits j u e)) in
    let new : FitsAs Guest h.dealt (count + 1) count n = (dealt_live v.role h.dealt count port v live mine, (λ z. omega arith)) in
    let all : AllFit (FitsRole h.dealt (count + 1)) (vs ++ n ∷ []) = λ j u e. ⊎_elim (λ a. now j u a) (λ (a : (n ≡ u) × (j ≡ length vs)). subst (λ (y : ℕ × View). FitsRole h.dealt (count + 1) y.0 y.1) (λ i. ((sym same ∙ sym a.1) i, a.0 i)) new) (at_end vs n u j e) in
    let length_is : length (vs ++ n ∷ []) ≡ count + 1 = omega (arith, length-append vs (n ∷ [])) in record {
      dealt = h.dealt;
      rises = h.rises;
      part = h.part;
      once = λ x. let a = taken_set x views port v w at in let b = h.once x in let c = taken_snoc x vs n in omega arith;
      fits = subst (λ k. AllFit (FitsRole h.dealt k) (vs ++ n ∷ [])) (sym length_is) all;
    }

pub merges : (port : ℕ) (v : View) (other : ℕ) (u : View) → TakesPart v.role → u.role ≡ Guest → tasks.Merges Sound port v other u (joined_view v u) spent
merges port v other u live guest items views h at two at' =
    let w : View = joined_view v u in
    let vs : List View = set views port w in
    let last : List View = set vs other spent in
    let was : get_elem? views other ≡ some u = ⊎_elim (λ (x : (other ≡ port) × (w ≡ u)). absurd (two x.0)) (λ x. x.1) (at_set views port other w u at') in
    let theirs : FitsAs Guest h.dealt (length views) other u = subst (λ (r : Role). FitsAs r h.dealt (length views) other u) guest (h.fits other u was) in
    let F : ℕ → View → Type 0 = FitsRole h.dealt (length views) in
    let now : AllFit F vs = fit_set F views port w (fits_live v.role h.dealt (length views) port v w refl live (h.fits port v at)) (λ j y _ e. h.fits j y e) in
    let all : AllFit F last = fit_set F vs other spent (refl, theirs.1) (λ j y _ e. now j y e) in
    let length_is : length last ≡ length views = length-set vs other spent ∙ length-set views port w in record {
      dealt = h.dealt;
      rises = h.rises;
      part = h.part;
      once = λ x. let a = taken_set x views port v w at in let b = h.once x in let c = taken_set x vs other u spent at' in omega (arith, times-append x v.taken u.taken);
      fits = subst (λ k. AllFit (FitsRole h.dealt k) last) (sym length_is) all;
    }

pub begins : Sound [] (a_view Owner [] [] ∷ [])
begins = record { dealt = []; rises = tt; part = tt; once = λ x. omega arith; fits = one }
  where
    one : AllFit (FitsRole [] 1) (a_view Owner [] [] ∷ [])
    one zero u e = subst (λ (y : View). FitsRole [] 1 0 y) (some-injective (a_view Owner [] []) u e) (refl, refl, refl)
    one (suc j) u e = absurd (some-ne-none u (sym e))
