-- Sorted paths fall into runs, a branch for each.
use Rattle.std.proofs.Common.{◌≡◌, ℕ, ◌+◌, ◌<◌, ◌==◌, ◌||◌, Bool, true, false, cond, nat_eq, nat_lt, ℤ, nat_abs, List, [], ◌∷◌, ◌++◌, length, get_or, map, All, Some, None, inl, inr, refl, sym, ap, subst, ◌∙◌, arith}
use Rattle.std.specs.Cmp.Lexicographic.{slice_cmp}
use Rattle.std.specs.Cmp.{unsigned_tied}
use Rattle.std.specs.List.{cons_option, list_any, AllByRecursion, IsDistinct}
use Rattle.std.specs.List.Sorted.{IsPermutation}
use Rattle.std.specs.Option.{option_map_or}
use Rattle.std.specs.Ordering.{is_lt, nat_cmp, ordering_then, eq_by_cmp}
use Rattle.std.specs.declared.cmp.Ordering.{Ordering}
use Rattle.std.specs.declared.cmp.Ordering.TheVariants.{Less, Equal, Greater}
use Rattle.std.proofs.lemmas.Bool.{false≢true, true≢false, cases_lt, cases_order, eq-eqb, lt-ltb, le-ltb, ne_eqb, or_parts}
use Rattle.std.proofs.lemmas.List.{append-nil}
use Rattle.std.proofs.lemmas.List.Elements.{All-nil, All-cons, All-head, All-tail, filter_map-append}
use Rattle.std.proofs.lemmas.List.Folds.{list_any-append}
use Rattle.std.proofs.lemmas.List.Sorted.{All-permutation, IsPermutation-sym, IsPermutation-to_front, sum_by-IsPermutation}
use Rattle.std.proofs.lemmas.List.Sums.{sum_by-append, sum_by-cons, sum_by_push}
use Rattle.std.proofs.lemmas.Map.Keys.{IsDistinct-cons}
use Rattle.std.proofs.Math.Bool.{or-false, or_comm}
use Rattle.pp_base.proofs.Orders.{tied_with}
use Rattle.pp_count.specs.Sums.{Seen, absolute, sum_where}
use Rattle.pp_calltree.specs.declared.branch.Branch.{Branch}
use Rattle.pp_calltree.specs.CallTree.{all_lengths, any_path, is_end, below_key, first_key, first_keys, under}
use Rattle.pp_calltree.specs.Branches.{Said, branch_samples, branch_said, branch_of, weight, AreBranches, AreOrdered}
use Rattle.pp_calltree.specs.Paths.{NoneBefore, IsRising}
use Rattle.pp_calltree.proofs.Children.{listed}

-- the sample whose path has this key before the others
abbrev pub onto : ℕ → Seen ℕ → Seen ℕ
onto k s = record { value = s.value; keys = k ∷ s.keys }

-- a path begins with a key past this one
abbrev pub starts_past : ℕ → List ℕ → Bool
starts_past m [] = false
starts_past m (q ∷ path) = nat_lt m q

-- all paths begin with keys past this one
abbrev pub AllPast : ℕ → List (Seen ℕ) → Type 0
AllPast m S = AllByRecursion (λ s. starts_past m s.keys ≡ true) S

under-append : (k : ℕ) (S R : List (Seen ℕ)) → under nat_cmp k (S ++ R) ≡ under nat_cmp k S ++ under nat_cmp k R
under-append k S R = filter_map-append (λ (s : Seen ℕ). below_key nat_cmp k s.value s.keys) S R

pub first_keys-append : (S R : List (Seen ℕ)) → first_keys (S ++ R) ≡ first_keys S ++ first_keys R
first_keys-append S R = filter_map-append (λ (s : Seen ℕ). first_key s.keys) S R

-- no path begins with the key
none_one : (k : ℕ) (v : ℤ) (keys : List ℕ) (S : List (Seen ℕ)) → (list_any (eq_by_cmp nat_cmp k) (first_keys S) ≡ false → under nat_cmp k S ≡ [])
    → list_any (eq_by_cmp nat_cmp k) (cons_option (first_key keys) (first_keys S)) ≡ false → cons_option (below_key nat_cmp k v keys) (under nat_cmp k S) ≡ []
none_one k v [] S later none = later none
none_one k v (q ∷ path) S later none =
    elim (eq_by_cmp nat_cmp k q) as (λ b. (b || list_any (eq_by_cmp nat_cmp k) (first_keys S)) ≡ false → cons_option (cond b (Some (record { value = v; keys = path })) None) (under nat_cmp k S) ≡ []) [
      | true ↦ λ found. absurd (false≢true (sym found))
      | false ↦ λ rest. later rest
    ] none

none_under : (k : ℕ) (S : List (Seen ℕ)) → list_any (eq_by_cmp nat_cmp k) (first_keys S) ≡ false → under nat_cmp k S ≡ []
none_under k [] none = refl
none_under k (s ∷ S) none = none_one k s.value s.keys S (none_under k S) none

-- the samples of a run under its key, and under another
under_own : (k : ℕ) (R : List (Seen ℕ)) → under nat_cmp k (map (onto k) R) ≡ R
under_own k [] = refl
under_own k (s ∷ R) = λ i. cons_option (cond (tied_with k k refl i) (Some s) None) (under_own k R i)

under_other : (m k : ℕ) (R : List (Seen ℕ)) → eq_by_cmp nat_cmp m k ≡ false → under nat_cmp m (map (onto k) R) ≡ []
under_other m k [] apart = refl
under_other m k (s ∷ R) apart = λ i. cons_option (cond (apart i) (Some s) None) (under_other m k R apart i)

-- the first keys of a run
pub same_heads : (m k : ℕ) (s : Seen ℕ) (R : List (Seen ℕ)) → list_any (eq_by_cmp nat_cmp m) (first_keys (map (onto k) (s ∷ R))) ≡ nat_eq m k
same_heads m k s [] = or-false (eq_by_cmp nat_cmp m k) ∙ unsigned_tied m k
same_heads m k s (t ∷ R) = (λ i. unsigned_tied m k i || same_heads m k t R i) ∙ twice (nat_eq m k) where
  twice : (b : Bool) → (b || b) ≡ b
  twice true = refl
  twice false = refl

run_lengths : (k : ℕ) (R : List (Seen ℕ)) → all_lengths (map (onto k) R) ≡ length R + all_lengths R
run_lengths k [] = refl
run_lengths k (s ∷ R) =
    omega (arith, run_lengths k R, sum_by-cons (λ (t : Seen ℕ). length t.keys) s R, sum_by-cons (λ (t : Seen ℕ). length t.keys) (onto k s) (map (onto k) R))

run_size : (k : ℕ) (R : List (Seen ℕ)) → absolute (map (onto k) R) ≡ absolute R
run_size k [] = refl
run_size k (s ∷ R) =
    omega (arith, run_size k R, sum_by-cons (λ (t : Seen ℕ). nat_abs t.value) s R, sum_by-cons (λ (t : Seen ℕ). nat_abs t.value) (onto k s) (map (onto k) R))

equal_heads : (k : ℕ) (o : Ordering) → is_lt (ordering_then (nat_cmp k k) o) ≡ is_lt o
equal_heads k o = ap (λ c. is_lt (ordering_then c o)) (tie k) where
  tie : (n : ℕ) → nat_cmp n n ≡ Equal
  tie n = λ i. cond (le-ltb n n (omega arith) i) Less (cond (eq-eqb n n refl i) Equal Greater)

-- what is left of a run is in order
run_before : (k : ℕ) (keys : List ℕ) (R : List (Seen ℕ)) → NoneBefore (k ∷ keys) (map (onto k) R) → NoneBefore keys R
run_before k keys [] none = tt
run_before k keys (s ∷ R) none = (sym (equal_heads k (slice_cmp nat_cmp s.keys keys)) ∙ none.0, run_before k keys R none.1)

run_rises : (k : ℕ) (R : List (Seen ℕ)) → IsRising (map (onto k) R) → IsRising R
run_rises k [] up = tt
run_rises k (s ∷ R) up = (run_before k s.keys R up.0, run_rises k R up.1)

-- parts of what is in order
pub before_parts : (keys : List ℕ) (S R : List (Seen ℕ)) → NoneBefore keys (S ++ R) → NoneBefore keys S × NoneBefore keys R
before_parts keys [] R none = (tt, none)
before_parts keys (s ∷ S) R none = let rest = before_parts keys S R none.1 in ((none.0, rest.0), rest.1)

pub rises_parts : (S R : List (Seen ℕ)) → IsRising (S ++ R) → IsRising S × IsRising R
rises_parts [] R up = (tt, up)
rises_parts (s ∷ S) R up = let rest = rises_parts S R up.1 in (((before_parts s.keys S R up.0).0, rest.0), rest.1)

pub past_parts : (m : ℕ) (S R : List (Seen ℕ)) → AllPast m (S ++ R) → AllPast m R
past_parts m [] R past = past
past_parts m (s ∷ S) R past = past_parts m S R past.1

-- a path that doesn't stand before another begins with no key before that one's
not_before : (m k : ℕ) (keys path : List ℕ) → is_lt (slice_cmp nat_cmp path (k ∷ keys)) ≡ false → m < k → starts_past m path ≡ true
not_before m k keys [] order less = absurd (true≢false order)
not_before m k keys (q ∷ path) order less = elim (cases_lt q k) as (λ _. nat_lt m q ≡ true) [
  | inl before ↦ absurd (true≢false (sym (ap (λ b. is_lt (ordering_then (cond b Less (cond (q == k) Equal Greater)) (slice_cmp nat_cmp path keys))) (lt-ltb q k before)) ∙ order))
  | inr after ↦ lt-ltb m q (omega (arith, after, less))
]

all_past : (m k : ℕ) (keys : List ℕ) (S : List (Seen ℕ)) → NoneBefore (k ∷ keys) S → m < k → AllPast m S
all_past m k keys [] none less = tt
all_past m k keys (s ∷ S) none less = (not_before m k keys s.keys none.0 less, all_past m k keys S none.1 less)

-- the first of them doesn't begin with the key
abbrev pub TurnsFrom : ℕ → List (Seen ℕ) → Type 0
TurnsFrom k [] = Unit {0}
TurnsFrom k (s ∷ S) = option_map_or (λ other. other == k) (first_key s.keys) false ≡ false

-- what comes after a run begins with keys past its own
pub after_run : (k : ℕ) (keys : List ℕ) (S : List (Seen ℕ)) → NoneBefore (k ∷ keys) S → IsRising S → TurnsFrom k S → AllPast k S
after_run k keys [] none up turns = tt
after_run k keys (s ∷ S) none up turns = by s.keys none.0 up.0 turns where
  by : (path : List ℕ) → is_lt (slice_cmp nat_cmp path (k ∷ keys)) ≡ false → NoneBefore path S → option_map_or (λ other. other == k) (first_key path) false ≡ false
      → (starts_past k path ≡ true) × AllPast k S
  by [] order rest other = absurd (true≢false order)
  by (q ∷ path) order rest other = elim (cases_order q k) as (λ _. (nat_lt k q ≡ true) × AllPast k S) [
    | inl same ↦ absurd (true≢false (sym (eq-eqb q k same) ∙ other))
    | inr apart ↦ elim apart as (λ _. (nat_lt k q ≡ true) × AllPast k S) [
      | inl before ↦ absurd (true≢false (sym (ap (λ b. is_lt (ordering_then (cond b Less (cond (q == k) Equal Greater)) (slice_cmp nat_cmp path keys))) (lt-ltb q k before)) ∙ order))
      | inr after ↦ (lt-ltb k q after, all_past k q path S rest after)
    ]
  ]

none_all : (k : ℕ) (ks : List ℕ) → list_any (nat_eq k) ks ≡ false → AllByRecursion (λ y. nat_eq k y ≡ false) ks
none_all k [] none = tt
none_all k (x ∷ ks) none = let parts = or_parts (nat_eq k x) (list_any (nat_eq k) ks) none in (parts.0, none_all k ks parts.1)

-- what a branch says depends on what is under its key alone
abbrev pub saying : ℕ → ℕ → List (Seen ℕ) → Said
saying depth k S = record { depth = depth; key = k; flat = sum_where is_end S; cum = sum_where any_path S; samples = S }

said_more : (depth k : ℕ) (A R : List (Seen ℕ)) (xs : List Branch) → All (λ (b : Branch). branch_said b ≡ branch_of depth A b.key) xs → list_any (nat_eq k) (map (λ (b : Branch). b.key) xs) ≡ false
    → All (λ (b : Branch). branch_said b ≡ branch_of depth (A ++ map (onto k) R) b.key) xs
said_more depth k A R [] are none = All-nil (λ (b : Branch). branch_said b ≡ branch_of depth (A ++ map (onto k) R) b.key)
said_more depth k A R (x ∷ xs) are none =
    let parts = or_parts (nat_eq k x.key) (list_any (nat_eq k) (map (λ (b : Branch). b.key) xs)) none in
    All-cons (λ (b : Branch). branch_said b ≡ branch_of depth (A ++ map (onto k) R) b.key) x xs
    (All-head (λ (b : Branch). branch_said b ≡ branch_of depth A b.key) x xs are
    ∙ ap (saying depth x.key) (sym (under-append x.key A (map (onto k) R) ∙ ap (λ r. under nat_cmp x.key A ++ r) (under_other x.key k R (apart parts.0)) ∙ append-nil (under nat_cmp x.key A))))
    (said_more depth k A R xs (All-tail (λ (b : Branch). branch_said b ≡ branch_of depth A b.key) x xs are) parts.1) where
      apart : nat_eq k x.key ≡ false → eq_by_cmp nat_cmp x.key k ≡ false
      apart e = unsigned_tied x.key k ∙ ne_eqb x.key k (λ same. true≢false (sym (eq-eqb k x.key (sym same)) ∙ e))

-- one more run
module _ (depth k : ℕ) (A : List (Seen ℕ)) (list : List Branch) (s : Seen ℕ) (R : List (Seen ℕ)) (b : Branch) (fresh : list_any (eq_by_cmp nat_cmp k) (first_keys A) ≡ false)
    (is : branch_said b ≡ saying depth k (s ∷ R)) (ordered : AreOrdered depth A list) where
  abbrev run : List (Seen ℕ)
  run = map (onto k) (s ∷ R)

  key_is : b.key ≡ k
  key_is = ap (λ (x : Said). x.key) is

  samples_are : branch_samples b ≡ s ∷ R
  samples_are = ap (λ (x : Said). x.samples) is

  not_there : list_any (nat_eq k) (map (λ (x : Branch). x.key) list) ≡ false
  not_there = ordered.are.present k ∙ fresh

  under_run : under nat_cmp k (A ++ run) ≡ s ∷ R
  under_run = under-append k A run ∙ (λ i. none_under k A fresh i ++ under_own k (s ∷ R) i)

  front : AreBranches depth (A ++ run) (b ∷ list)
  front = record {
    said_are = All-cons (λ (x : Branch). branch_said x ≡ branch_of depth (A ++ run) x.key) b list
        (subst (λ n. branch_said b ≡ branch_of depth (A ++ run) n) (sym key_is) (is ∙ ap (saying depth k) (sym under_run)))
        (said_more depth k A (s ∷ R) list ordered.are.said_are not_there);
    present = λ m.
        (λ i. nat_eq m (key_is i) || ordered.are.present m i)
        ∙ or_comm (nat_eq m k) (list_any (eq_by_cmp nat_cmp m) (first_keys A))
        ∙ ap (λ e. list_any (eq_by_cmp nat_cmp m) (first_keys A) || e) (sym (same_heads m k s R))
        ∙ sym (ap (list_any (eq_by_cmp nat_cmp m)) (first_keys-append A run) ∙ list_any-append (eq_by_cmp nat_cmp m) (first_keys A) (first_keys run));
    distinct = subst (λ n. IsDistinct nat_eq (n ∷ map (λ (x : Branch). x.key) list)) (sym key_is)
        (IsDistinct-cons nat_eq k (map (λ (x : Branch). x.key) list) (none_all k (map (λ (x : Branch). x.key) list) not_there) ordered.are.distinct);
  }

  turned : IsPermutation (b ∷ list) (list ++ b ∷ [])
  turned = IsPermutation-sym (list ++ b ∷ []) (b ∷ list) (IsPermutation-to_front list b)

  pub ordered_more : IsRising run → AreOrdered depth (A ++ run) (list ++ b ∷ [])
  ordered_more up = record {
    are = listed depth (A ++ run) (b ∷ list) (list ++ b ∷ []) front turned;
    rise = All-permutation (λ (x : Branch). IsRising (branch_samples x)) (b ∷ list) (list ++ b ∷ []) turned
        (All-cons (λ (x : Branch). IsRising (branch_samples x)) b list (subst IsRising (sym samples_are) (run_rises k (s ∷ R) up)) ordered.rise);
    lighter = omega (
      arith,
      ordered.lighter,
      sum_by_push weight list b,
      ap all_lengths samples_are,
      run_lengths k (s ∷ R),
      sum_by-append (λ (t : Seen ℕ). length t.keys) A run,
    );
  }

-- one more path that has ended
pub ordered_past : (depth : ℕ) (A : List (Seen ℕ)) (v : ℤ) (list : List Branch) → AreOrdered depth A list → AreOrdered depth (A ++ record { value = v; keys = [] } ∷ []) list
ordered_past depth A v list ordered = record {
  are = record {
    said_are = λ i d here. ordered.are.said_are i d here ∙ ap (saying depth (get_or list i d).key) (sym (under_same (get_or list i d).key));
    present = λ m. ordered.are.present m ∙ ap (list_any (eq_by_cmp nat_cmp m)) (sym (first_keys-append A (record { value = v; keys = [] } ∷ []) ∙ append-nil (first_keys A)));
    distinct = ordered.are.distinct;
  };
  rise = ordered.rise;
  lighter = omega (arith, ordered.lighter, sum_by_push (λ (t : Seen ℕ). length t.keys) A (record { value = v; keys = [] }));
} where
  under_same : (k : ℕ) → under nat_cmp k (A ++ record { value = v; keys = [] } ∷ []) ≡ under nat_cmp k A
  under_same k = under-append k A (record { value = v; keys = [] } ∷ []) ∙ append-nil (under nat_cmp k A)

-- before the first path
pub ordered_none : (depth : ℕ) (list : List Branch) → list ≡ [] → AreOrdered depth [] list
unfolding IsDistinct
ordered_none depth list none = subst (AreOrdered depth []) (sym none) (record {
  are = record { said_are = All-nil (λ (b : Branch). branch_said b ≡ branch_of depth [] b.key); present = λ m. refl; distinct = tt };
  rise = All-nil (λ (b : Branch). IsRising (branch_samples b));
  lighter = omega arith;
})

-- the branches in another order
pub ordered_listed : (depth : ℕ) (S : List (Seen ℕ)) (xs list : List Branch) → AreOrdered depth S xs → IsPermutation xs list → AreOrdered depth S list
ordered_listed depth S xs list ordered moved = record {
  are = listed depth S xs list ordered.are moved;
  rise = All-permutation (λ (b : Branch). IsRising (branch_samples b)) xs list moved ordered.rise;
  lighter = omega (arith, ordered.lighter, sum_by-IsPermutation weight xs list moved);
}
