-- What follows where no table rule fails. For crates above.
use Rattle.std.proofs.Common.{◌≡◌, ℕ, ◌<◌, ◌≤◌, List, [], ◌∷◌, length, get_or, Bool, true, false, cond, inl, inr, refl, sym, subst, ◌∙◌, arith, ap}
use Rattle.std.specs.Prelude.{◌==◌, not, ℤ, pos, negsuc, Option, Some, None, Contains}
use Rattle.std.specs.List.{AllPass, list_all, position_or_len}
use Rattle.std.proofs.lemmas.Bool.{ltb-true, ltb-false, eqb-true, or_cases, not-false, true≢false}
use Rattle.std.proofs.lemmas.List.{get_or_default}
use Rattle.std.proofs.lemmas.List.Sums.{fails_before_first, AllPass-from_list_all}
use Rattle.std.proofs.lemmas.List.Folds.{Any-from_list_any}
use Rattle.pp_model.specs.declared.profile.Sample.{Sample}
use Rattle.pp_model.specs.declared.profile.Profile.{Profile}
use Rattle.pp_model.specs.Conditions.{RefersTo, IsSampleOf}
use Rattle.pp_model.specs.Rules.{NoRuleFails, is_text_of, stands_in, is_zero_or_in, first_failing, location_ids, text_zero_fault, header_text_fault, comment_text_fault, type_text_fault, sample_text_fault, mapping_text_fault, function_text_fault, untyped_fault, mapping_zero_fault, mapping_repeat_fault, function_zero_fault, function_repeat_fault, location_zero_fault, location_repeat_fault, location_fault, sample_fault, value_fault}
use Rattle.pp_model.specs.Lookup.{text_number}

-- a choice that gives nothing was not made
false_from_none : (b : Bool) (n : ℕ) → cond b (Some n) None ≡ None → b ≡ false
false_from_none true n given = cc
false_from_none false n given = refl

-- a rule that fails nowhere holds of each item
pub passes : {X : Type 0} (test : X → Bool) (xs : List X) → first_failing test xs ≡ None → AllPass test xs
passes test xs nowhere = λ k d within.
    let past : length xs ≤ position_or_len (λ x. not (test x)) xs = ltb-false _ _ (false_from_none _ _ nowhere) in
    not-false _ (fails_before_first (λ x. not (test x)) xs k d (omega (arith, past, within)))

-- an index that is in range
pub text_below : (n : ℕ) (i : ℤ) → is_text_of n i ≡ true → text_number i < n
text_below n (pos i) inside = ltb-true i n inside
text_below n (negsuc i) inside = absurd (true≢false (sym inside))

-- an index that is in range is a place
pub text_is : (n : ℕ) (i : ℤ) → is_text_of n i ≡ true → i ≡ pos (text_number i)
text_is n (pos i) inside = refl
text_is n (negsuc i) inside = absurd (true≢false (sym inside))

-- a number that a search finds is in the list
pub contains_from : (ids : List ℕ) (id : ℕ) → stands_in ids id ≡ true → Contains ids id
contains_from ids id found =
    let (k, other, within, is, same) = Any-from_list_any (λ o. o == id) ids found in
    let e : other ≡ id = eqb-true other id same in
    (k, within, get_or_default ids k id other within ∙ is ∙ e)

-- a reference that isn't 0 is there
pub contains_unless_zero : (ids : List ℕ) (id : ℕ) → is_zero_or_in ids id ≡ true → (id ≡ 0 → ⊥) → Contains ids id
contains_unless_zero ids id known nonzero =
    elim (or_cases (id == 0) (stands_in ids id) known) [
      | inl zero ↦ absurd (nonzero (eqb-true id 0 zero))
      | inr found ↦ contains_from ids id found
    ]

-- a sample of a valid profile refers to locations of it
pub refers_from_valid : (p : Profile) (s : Sample) → NoRuleFails p → IsSampleOf p s → RefersTo p s
refers_from_valid p s valid (k, within, is) = λ j d below.
    let passed = passes (λ (t : Sample). list_all (stands_in (location_ids p)) t.location_id) p.sample valid.sample_reference k s within in
    let here = subst (λ (t : Sample). list_all (stands_in (location_ids p)) t.location_id ≡ true) is passed in
    contains_from (location_ids p) _ (AllPass-from_list_all (stands_in (location_ids p)) s.location_id here j d below)

-- the sample at a place is one of the profile
pub sample_at : (p : Profile) (k : ℕ) (d : Sample) → k < length p.sample → IsSampleOf p (get_or p.sample k d)
sample_at p k d within = (k, within, get_or_default p.sample k _ d within)

-- a sample that is read from the tables refers to locations of the profile
pub item_refers :
    (p q : Profile) (items : List Sample) (k : ℕ) (s : Sample) → q ≡ p → items ≡ q.sample → s ≡ get_or items k s → k < length items →
    NoRuleFails q → RefersTo p s
item_refers p q items k s same are is within valid =
    subst (λ r. RefersTo r s) same
    (refers_from_valid q s valid (k, omega (arith, within, ap length are), ap (λ ss. get_or ss k s) (sym are) ∙ sym is))

-- the faults of all rules, each on each of its tables
abbrev rule_faults : Profile → List (Option ℕ)
rule_faults p =
    text_zero_fault p ∷ header_text_fault p ∷ comment_text_fault p ∷ type_text_fault p ∷ sample_text_fault p ∷ mapping_text_fault p ∷ function_text_fault p ∷ untyped_fault p
    ∷ mapping_zero_fault p ∷ mapping_repeat_fault p ∷ function_zero_fault p ∷ function_repeat_fault p ∷ location_zero_fault p ∷ location_repeat_fault p
    ∷ location_fault p ∷ sample_fault p ∷ value_fault p ∷ []

-- each is none
abbrev are_none : List (Option ℕ) → Bool
are_none [] = true
are_none (None ∷ faults) = are_none faults
are_none (Some index ∷ faults) = false

none_here : (o : Option ℕ) (os : List (Option ℕ)) → are_none (o ∷ os) ≡ true → (o ≡ None) × (are_none os ≡ true)
none_here None os all = (refl, all)
none_here (Some index) os all = absurd (true≢false (sym all))

-- A profile of which all tables are known is asked by computing: the second argument is then `refl`.
pub no_rule_fails : (p : Profile) → are_none (rule_faults p) ≡ true → NoRuleFails p
no_rule_fails p all =
    let h1 = none_here _ _ all in
    let h2 = none_here _ _ h1.1 in
    let h3 = none_here _ _ h2.1 in
    let h4 = none_here _ _ h3.1 in
    let h5 = none_here _ _ h4.1 in
    let h6 = none_here _ _ h5.1 in
    let h7 = none_here _ _ h6.1 in
    let h8 = none_here _ _ h7.1 in
    let h9 = none_here _ _ h8.1 in
    let h10 = none_here _ _ h9.1 in
    let h11 = none_here _ _ h10.1 in
    let h12 = none_here _ _ h11.1 in
    let h13 = none_here _ _ h12.1 in
    let h14 = none_here _ _ h13.1 in
    let h15 = none_here _ _ h14.1 in
    let h16 = none_here _ _ h15.1 in
    let h17 = none_here _ _ h16.1 in
    record {
      text_zero = h1.0;
      header_text = h2.0;
      comment_text = h3.0;
      type_text = h4.0;
      sample_text = h5.0;
      mapping_text = h6.0;
      function_text = h7.0;
      untyped = h8.0;
      mapping_zero = h9.0;
      mapping_repeat = h10.0;
      function_zero = h11.0;
      function_repeat = h12.0;
      location_zero = h13.0;
      location_repeat = h14.0;
      location_reference = h15.0;
      sample_reference = h16.0;
      values = h17.0;
    }
