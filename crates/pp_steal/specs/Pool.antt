-- One deque of the pool: the pieces that it was dealt, those that it holds, and what each pass of
-- it knows. `Sound` is the deque's rule.
use Rattle.std.specs.Prelude.{◌≡◌, ◌≢◌, ℕ, ◌+◌, ◌<◌, ◌≤◌, ◌⊎◌, eqb, cond, List, [], ◌∷◌, ◌++◌, length}
use mathlib.Core.Option.{some}
use lib.ListN.{get_elem?}
use Rattle.pp_steal.specs.declared.view.Role.{Role}
use Rattle.pp_steal.specs.declared.view.Role.TheVariants.{Owner, Marked, Guest, Spent}
use Rattle.pp_steal.specs.declared.view.View.{View}

-- the view with these fields
abbrev pub a_view : Role → List ℕ → List ℕ → View
a_view r dealt taken = record { role = r; dealt = dealt; taken = taken }

-- how often x stands in the list
abbrev pub count_in : ℕ → List ℕ → ℕ
count_in x [] = 0
count_in x (y ∷ ys) = cond (eqb y x) 1 0 + count_in x ys

-- how often x was taken, over all views
abbrev pub times_taken : ℕ → List View → ℕ
times_taken x [] = 0
times_taken x (v ∷ vs) = count_in x v.taken + times_taken x vs

-- each piece is below p
abbrev pub AllUnder : ℕ → List ℕ → Type 0
AllUnder p [] = Unit {0}
AllUnder p (x ∷ xs) = (x < p) × AllUnder p xs

-- each piece is above p
abbrev pub AllOver : ℕ → List ℕ → Type 0
AllOver p [] = Unit {0}
AllOver p (x ∷ xs) = (p < x) × AllOver p xs

-- each piece is below those after it
abbrev pub Rises : List ℕ → Type 0
Rises [] = Unit {0}
Rises (x ∷ xs) = AllOver x xs × Rises xs

-- the first list is the second with some pieces left out
abbrev pub IsSublistOf : List ℕ → List ℕ → Type 0
IsSublistOf [] ys = Unit {0}
IsSublistOf (x ∷ xs) [] = ⊥
IsSublistOf (x ∷ xs) (y ∷ ys) = ((x ≡ y) × IsSublistOf xs ys) ⊎ IsSublistOf (x ∷ xs) ys

-- the pass still takes part: its view was not joined into another
abbrev pub TakesPart : Role → Type 0
TakesPart Spent = ⊥
TakesPart _ = Unit {0}

-- A view, by its role, among `count` views. The owner's is the first one, and is marked where there
-- is any other view. Each live view knows the pieces that were dealt. A spent one has nothing
abbrev pub FitsAs : Role → List ℕ → ℕ → ℕ → View → Type 0
FitsAs Owner dealt count port v = (v.dealt ≡ dealt) × (port ≡ 0) × (count ≡ 1)
FitsAs Marked dealt count port v = (v.dealt ≡ dealt) × (port ≡ 0)
FitsAs Guest dealt count port v = (v.dealt ≡ dealt) × (port ≢ 0)
FitsAs Spent dealt count port v = (v.taken ≡ []) × (port ≢ 0)

-- the view fits its own role
abbrev pub FitsRole : List ℕ → ℕ → ℕ → View → Type 0
FitsRole dealt count port v = FitsAs v.role dealt count port v

-- The pieces dealt rise. The deque holds a part of them, in order. Each other piece of them stands
-- once in what one pass took, and no other piece stands in any: since no piece was dealt twice,
-- this is an equation of counts. Each view fits
pub record Sound (items : List ℕ) (views : List View) : Type 0 where
  pub dealt : List ℕ
  pub rises : Rises dealt
  pub part : IsSublistOf items dealt
  pub once : (x : ℕ) → count_in x items + times_taken x views ≡ count_in x dealt
  pub fits : (port : ℕ) (v : View) → get_elem? views port ≡ some v
      → FitsRole dealt (length views) port v

-- the view after the pass took these pieces
abbrev pub took : View → List ℕ → View
took v xs = a_view v.role v.dealt (v.taken ++ xs)

-- what a pass took are pieces that were dealt, none of them twice
abbrev pub TookDealt : View → Type 0
TookDealt v = (x : ℕ) → count_in x v.taken ≤ count_in x v.dealt

-- a pass takes pieces that were dealt and that it hadn't taken
abbrev pub TakesPieces : View → List ℕ → View → Type 0
TakesPieces v xs w = (w ≡ took v xs) × TookDealt w

-- the owner's view after it dealt these pieces
abbrev pub with_dealt : View → List ℕ → View
with_dealt v xs = a_view v.role (v.dealt ++ xs) v.taken

-- the owner deals these pieces
abbrev pub Deals : View → List ℕ → View → Type 0
Deals v xs w = w ≡ with_dealt v xs

-- the role after a split
abbrev pub marked : Role → Role
marked Owner = Marked
marked r = r

-- the splitter's view after a split
abbrev pub mark : View → View
mark v = a_view (marked v.role) v.dealt v.taken

-- the new view that comes of a split
abbrev pub newcomer : View → View
newcomer v = a_view Guest v.dealt []

-- the first view after the second was joined into it
abbrev pub joined_view : View → View → View
joined_view v w = took v w.taken

-- the view of a pass that was joined into another
abbrev pub spent : View
spent = a_view Spent [] []
