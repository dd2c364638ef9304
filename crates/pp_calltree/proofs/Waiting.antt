-- Branches that wait, the last of them first: one is taken, and others wait in its place.
use Rattle.std.proofs.Common.{◌≡◌, ℕ, ◌+◌, ◌-◌, ◌<◌, List, [], ◌∷◌, ◌++◌, reverse, take, All, Some, sym, ap, subst, ◌∙◌, append-nil, append_assoc, arith}
use Rattle.std.specs.List.{sum_by}
use Rattle.std.proofs.lemmas.List.{reverse-append, reverse-reverse}
use Rattle.std.proofs.lemmas.List.Elements.{All-append, All-pop}
use Rattle.std.proofs.lemmas.List.Sorted.{All-permutation, sum_by-IsPermutation, IsPermutation-reverse}
use Rattle.std.proofs.lemmas.List.Sums.{sum_by-append, sum_by_push}
use Rattle.pp_calltree.specs.declared.branch.Branch.{Branch}
use Rattle.pp_calltree.specs.Branches.{weight}

-- what holds of all holds of all in reverse
pub all_reversed : {X : Type 0} (P : X → Type 0) (xs : List X) → All P xs → All P (reverse xs)
all_reversed P xs all = All-permutation P xs (reverse xs) (IsPermutation-reverse xs) all

-- what a sum is over branches that wait behind others
pub sum_waiting : (f : Branch → ℕ) (old new more : List Branch) → new ≡ old ++ reverse more → sum_by f new ≡ sum_by f old + sum_by f more
sum_waiting f old new more added = omega (
  arith,
  ap (sum_by f) added ∙ sum_by-append f old (reverse more),
  sum_by-IsPermutation f more (reverse more) (IsPermutation-reverse more),
)

-- no branch waits any more
pub none_waits : (waiting rest : List Branch) (len : ℕ) → waiting ≡ rest ++ [] → rest ≡ take (len - 1) waiting → len ≡ 0 → waiting ≡ []
none_waits waiting rest len items front none = items ∙ append-nil rest ∙ front ∙ ap (λ n. take (n - 1) waiting) none

-- What is made so far is followed by what the branches that wait give, and both are the whole.
pub record MakesWhole {X : Type 0} (P : Branch → Type 0) (gives : List Branch → List X) (whole made : List X) (waiting : List Branch) : Type 0 where
  pub are : made ++ gives (reverse waiting) ≡ whole
  pub each : All P waiting

-- A branch is taken.
module _ (waiting old : List Branch) (b : Branch) (taken : waiting ≡ old ++ b ∷ []) where
  pub next_holds : (P : Branch → Type 0) → All P waiting → P b
  next_holds P all = (All-pop P waiting old (Some b) taken all).1

  -- those that wait in its place weigh less
  pub lighter : (new more : List Branch) → new ≡ old ++ reverse more → sum_by weight more < weight b → sum_by weight new < sum_by weight waiting
  lighter new more added less =
      omega (arith, less, sum_waiting weight old new more added, ap (sum_by weight) taken ∙ sum_by_push weight old b)

module _ {X : Type 0} (P : Branch → Type 0) (gives : List Branch → List X) (whole : List X) where
  -- nothing is made yet, and all branches wait
  pub whole_start : (made : List X) (new more : List Branch) → made ≡ [] → new ≡ reverse more → gives more ≡ whole → All P more → MakesWhole P gives whole made new
  whole_start made new more none added is all = record {
    are = (λ i. none i ++ gives ((ap reverse added ∙ reverse-reverse more) i)) ∙ is;
    each = subst (All P) (sym added) (all_reversed P more all);
  }

  -- a part is made of the branch that is taken, and others wait in its place
  pub whole_more : ((xs ys : List Branch) → gives (xs ++ ys) ≡ gives xs ++ gives ys) → (made part new_made : List X) (waiting old new more : List Branch) (b : Branch)
      → waiting ≡ old ++ b ∷ [] → new_made ≡ made ++ part → new ≡ old ++ reverse more → part ++ gives more ≡ gives (b ∷ []) → All P more
      → MakesWhole P gives whole made waiting → MakesWhole P gives whole new_made new
  whole_more splits made part new_made waiting old new more b taken adds added is all so_far = record {
    are = (λ i. adds i ++ gives ((ap reverse added ∙ reverse-append old (reverse more) ∙ ap (λ r. r ++ reverse old) (reverse-reverse more)) i))
        ∙ append_assoc made part (gives (more ++ reverse old))
        ∙ ap (λ r. made ++ r) (ap (λ r. part ++ r) (splits more (reverse old)) ∙ sym (append_assoc part (gives more) (gives (reverse old)))
        ∙ ap (λ r. r ++ gives (reverse old)) is ∙ sym (splits (b ∷ []) (reverse old)))
        ∙ ap (λ r. made ++ gives r) (sym (ap reverse taken ∙ reverse-append old (b ∷ [])))
        ∙ so_far.are;
    each = subst (All P) (sym added)
        (All-append P old (reverse more) (All-pop P waiting old (Some b) taken so_far.each).0 (all_reversed P more all));
  }

  -- all is made
  pub whole_end : (made : List X) (waiting : List Branch) → gives [] ≡ [] → waiting ≡ [] → MakesWhole P gives whole made waiting → made ≡ whole
  whole_end made waiting nothing none so_far =
      sym (append-nil made) ∙ ap (λ r. made ++ r) (sym (ap (λ w. gives (reverse w)) none ∙ nothing)) ∙ so_far.are
