-- A changed value leaves the table rules as they are.
use Rattle.std.proofs.Common.{◌≡◌, ℕ, ◌<◌, List, length, Bool, cond, get_or, set, refl, true, sym, ap, subst, ◌∙◌, arith}
use Rattle.std.specs.Prelude.{◌==◌, ◌||◌, ℤ, not, nat_lt, slice_get, Some, None}
use Rattle.std.specs.List.{position_or_len, list_all}
use Rattle.std.proofs.lemmas.Bool.{eqb-true}
use Rattle.std.proofs.lemmas.List.{length-set}
use Rattle.std.proofs.lemmas.List.Folds.{position_or_len-set}
use Rattle.std.proofs.lemmas.Option.{slice_get_within, get_or_from_slice_get}
use Rattle.pp_model.specs.declared.profile.Sample.{Sample}
use Rattle.pp_model.specs.declared.profile.Profile.{Profile}
use Rattle.pp_model.specs.Rules.{NoRuleFails, first_failing, zero_unless, label_has_texts, stands_in, location_ids}
use Rattle.pp_model.specs.Values.{with_column, with_value, no_sample}
use Rattle.pp_model.proofs.RuleLemmas.{passes}

-- a valid profile's sample has each column
pub column_within :
    (p q : Profile) (s : Sample) (i column : ℕ) → NoRuleFails p → p ≡ q → column < length q.sample_type → slice_get p.sample i ≡ Some s →
    column < length s.value
column_within p q s i column valid same within at =
    let all = passes (λ (t : Sample). length t.value == length p.sample_type) p.sample valid.values in
    let here = subst (λ (t : Sample). (length t.value == length p.sample_type) ≡ true) (get_or_from_slice_get p.sample i s s at) (all i s (slice_get_within p.sample i s at)) in
    omega (arith, within, eqb-true _ _ here, ap (λ (r : Profile). length r.sample_type) same)

-- a rule fails where it failed, if it says the same of the changed sample
fails_as_before :
    (test : Sample → Bool) (xs : List Sample) (i : ℕ) (s changed : Sample) → slice_get xs i ≡ Some s → test changed ≡ test s →
    first_failing test (set xs i changed) ≡ first_failing test xs
fails_as_before test xs i s changed at same =
    let fails : Sample → Bool = λ x. not (test x) in
    ap (λ n. cond (nat_lt (position_or_len fails (set xs i changed)) n) (Some (position_or_len fails (set xs i changed))) None) (length-set xs i changed)
    ∙ ap (λ n. cond (nat_lt n (length xs)) (Some n) None)
    (position_or_len-set fails xs i changed s (ap not same ∙ ap fails (sym (get_or_from_slice_get xs i s s at))))

-- the table rules hold after the change
pub still_valid :
    (p : Profile) (i column : ℕ) (value : ℤ) (s : Sample) → slice_get p.sample i ≡ Some s → NoRuleFails p →
    NoRuleFails (record p { sample = set p.sample i (with_column s column value) })
still_valid p i column value s at valid = record {
  text_zero = valid.text_zero;
  header_text = valid.header_text;
  comment_text = valid.comment_text;
  type_text = valid.type_text;
  sample_text = fails_as_before (λ (t : Sample). list_all (label_has_texts p) t.label) p.sample i s (with_column s column value) at refl ∙ valid.sample_text;
  mapping_text = valid.mapping_text;
  function_text = valid.function_text;
  untyped =
      ap (λ n. zero_unless (n == 0 || nat_lt 0 (length p.sample_type))) (length-set p.sample i (with_column s column value)) ∙ valid.untyped;
  mapping_zero = valid.mapping_zero;
  mapping_repeat = valid.mapping_repeat;
  function_zero = valid.function_zero;
  function_repeat = valid.function_repeat;
  location_zero = valid.location_zero;
  location_repeat = valid.location_repeat;
  location_reference = valid.location_reference;
  sample_reference =
      fails_as_before (λ (t : Sample). list_all (stands_in (location_ids p)) t.location_id) p.sample i s (with_column s column value) at refl
      ∙ valid.sample_reference;
  values =
      fails_as_before (λ (t : Sample). length t.value == length p.sample_type) p.sample i s (with_column s column value) at
      (ap (λ n. n == length p.sample_type) (length-set s.value column value))
      ∙ valid.values;
}

-- the fields after the change are the profile with the value
pub value_set :
    (p q : Profile) (i column : ℕ) (value given : ℤ) (s : Sample) → p ≡ q → slice_get p.sample i ≡ Some s → given ≡ value →
    ◌≡◌ {A = Profile} (record p { sample = set p.sample i (with_column s column given) }) (with_value q i column value)
value_set p q i column value given s same at is =
    let here : s ≡ get_or p.sample i no_sample = sym (get_or_from_slice_get p.sample i s no_sample at) in
    ap (λ (t : Sample). record p { sample = set p.sample i (with_column t column given) }) here
    ∙ ap (λ (v : ℤ). with_value p i column v) is ∙ ap (λ (r : Profile). with_value r i column value) same
