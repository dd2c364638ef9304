-- A key is the sum of its finer keys.
use Rattle.std.proofs.Common.{◌≡◌, ℕ, Bool, true, false, cond, ◌||◌, ℤ, pos, ◌+ℤ◌, List, [], ◌∷◌, map, Option, refl, sym, ap, subst, ◌∙◌}
use Rattle.std.specs.Prelude.{◌≤ℤ◌}
use Rattle.std.specs.List.{IsDistinct, filter, list_any}
use Rattle.std.specs.Ordering.{eq_by_cmp}
use Rattle.std.specs.Cmp.{IsTotalOrder}
use Rattle.std.specs.declared.cmp.Ordering.{Ordering}
use Rattle.std.proofs.Math.IntN.{+ℤ_idl}
use Rattle.std.proofs.lemmas.Bool.{false≢true, or_right}
use Rattle.std.proofs.lemmas.Cmp.{eq_by_cmp_equiv}
use Rattle.pp_base.proofs.Booleans.{either}
use Rattle.pp_model.specs.declared.config.Config.{Config}
use Rattle.pp_model.specs.declared.grouping.Grain.{Grain}
use Rattle.pp_model.specs.declared.grouping.Grain.TheVariants.{Functions, FileFunctions, Files, Lines, Addresses}
use Rattle.pp_model.specs.declared.profile.Profile.{Profile}
use Rattle.pp_model.specs.Finders.{Finders}
use Rattle.pp_model.specs.FrameTexts.{Written}
use Rattle.pp_grain.specs.Keys.{key_cmp, key_texts, kept_by, with_object, is_nameless}
use Rattle.pp_grain.proofs.CallerLemmas.{key_cmp_total}
use Rattle.pp_count.specs.Sums.{Seen, renamed, sum_where, has, leads, occurs, flat, cum}
use Rattle.pp_count.specs.Seeing.{seen_samples, framed_samples}
use Rattle.pp_count.specs.Counted.{report_samples, report_frames}
use Rattle.pp_count.proofs.CallerLemmas.{key_of_written, keyed_frames, keyed_report}
use Rattle.pp_count.proofs.Ties.{key_decides}
use Rattle.pp_graph.specs.Figures.{figures}
use Rattle.pp_graph.specs.Sampled.{report_order}
use Rattle.pp_graph.specs.Trim.{all_report_keys}
use Rattle.pp_graph.proofs.Ordering.{report_total}
use Rattle.pp_laws.specs.Figures.{NoneNegative}
use Rattle.pp_laws.proofs.AddingUp.{order_ties}
use Rattle.pp_laws.proofs.IntSums.{sum_over, sum_none, sum_plus, sum_same, one_match}
use Rattle.pp_graph.proofs.Relisted.{listed_occur}
use Rattle.pp_graph.proofs.Listed.{each_once_apart, each_once_members}
use Rattle.pp_laws.proofs.Sampling.{part, none_weighed, sum_where_within}
use Rattle.pp_sums.specs.Finer.{at_grain, is_finer, is_part, IsSumOfParts, PartsAddUp}

-- The rows of a report that nothing is cut from: no key stands twice, and each key that occurs stands there.
module _ (p : Profile) (f : Finders) (config : Config) (column : Option ℕ) where
  pub rows_apart : IsDistinct (eq_by_cmp key_cmp) (all_report_keys p f config column)
  rows_apart =
      let samples = report_samples p f config column in
      subst (λ e. IsDistinct e (all_report_keys p f config column)) (order_ties config.presentation.sort samples)
      (each_once_apart (report_order key_cmp config.presentation.sort samples) (figures p f config column).keys)

  pub rows_known : (k : Written) → occurs key_cmp (report_samples p f config column) k ≡ true
      → list_any (eq_by_cmp key_cmp k) (all_report_keys p f config column) ≡ true
  rows_known k is =
      let samples = report_samples p f config column in
      let ties : eq_by_cmp (report_order key_cmp config.presentation.sort samples) ≡ eq_by_cmp key_cmp = order_ties config.presentation.sort samples in
      (λ i. list_any (sym ties i k) (all_report_keys p f config column))
      ∙ each_once_members (report_total samples config.presentation.sort) (figures p f config column).keys k
      ∙ (λ i. list_any (ties i k) (figures p f config column).keys)
      ∙ listed_occur samples k ∙ is

-- the sum over the items that pass
sum_passing : {X : Type 0} (g : X → ℤ) (test : X → Bool) (xs : List X) → sum_over g (filter test xs) ≡ sum_over (λ x. cond (test x) (g x) (pos 0)) xs
sum_passing g test [] = refl
sum_passing g test (x ∷ xs) =
    elim (test x) as (λ b. sum_over g (cond b (x ∷ filter test xs) (filter test xs)) ≡ cond b (g x) (pos 0) +ℤ sum_over (λ y. cond (test y) (g y) (pos 0)) xs) [
      | true ↦ ap (λ v. g x +ℤ v) (sum_passing g test xs)
      | false ↦ sum_passing g test xs ∙ sym (+ℤ_idl _)
    ]

none_either : (b : Bool) → cond b (pos 0) (pos 0) ≡ pos 0
none_either true = refl
none_either false = refl

-- the first of these passes
abbrev pub first_passes : {K : Type 0} → (K → Bool) → List K → Bool
first_passes test [] = false
first_passes test (k ∷ keys) = test k

module _ {K : Type 0} {order : K → K → Ordering} (o : IsTotalOrder order) (test : K → Bool) (tells : (a b : K) → eq_by_cmp order a b ≡ true → test a ≡ test b) where
  if_one : (v : ℤ) (k q : K) → cond (test k) (cond (eq_by_cmp order k q) v (pos 0)) (pos 0) ≡ cond (eq_by_cmp order k q) (cond (test q) v (pos 0)) (pos 0)
  if_one v k q = elim (eq_by_cmp order k q) as (λ b. eq_by_cmp order k q ≡ b → cond (test k) (cond b v (pos 0)) (pos 0) ≡ cond b (cond (test q) v (pos 0)) (pos 0)) [
    | true ↦ λ is. ap (λ b. cond b v (pos 0)) (tells k q is)
    | false ↦ λ is. none_either (test k)
  ] refl

  -- a sample's value is in the flat of one key that passes, its leaf's, if that passes
  one_leaf : (s : Seen K) (keys : List K) → IsDistinct (eq_by_cmp order) keys
      → ((k : K) → test k ≡ true → has order k s.keys ≡ true → list_any (eq_by_cmp order k) keys ≡ true)
      → sum_over (λ k. part (leads order k) s) (filter test keys) ≡ part (first_passes test) s
  one_leaf s keys apart known =
      elim s.keys as (λ ks. ((k : K) → test k ≡ true → has order k ks ≡ true → list_any (eq_by_cmp order k) keys ≡ true)
      → sum_over (λ k. cond (leads order k ks) s.value (pos 0)) (filter test keys) ≡ cond (first_passes test ks) s.value (pos 0)) [
        | [] ↦ λ h. sum_none (filter test keys)
        | q ∷ ks ↦ λ h.
            sum_passing (λ k. cond (eq_by_cmp order k q) s.value (pos 0)) test keys
            ∙ sum_same _ (λ k. cond (eq_by_cmp order k q) (cond (test q) s.value (pos 0)) (pos 0)) keys (λ k. if_one s.value k q)
            ∙ elim (test q) as (λ b. test q ≡ b → sum_over (λ k. cond (eq_by_cmp order k q) (cond b s.value (pos 0)) (pos 0)) keys ≡ cond b s.value (pos 0)) [
              | true ↦ λ is. one_match (eq_by_cmp_equiv o) s.value q keys apart (h q is (ap (λ b. b || has order q ks) ((eq_by_cmp_equiv o).refl q)))
              | false ↦ λ is. sum_same _ (λ k. pos 0) keys (λ k. none_either (eq_by_cmp order k q)) ∙ sum_none keys
            ] refl
      ] known

  -- the flats of the keys that pass
  pub flats_of_parts : (ss : List (Seen K)) (keys : List K) → IsDistinct (eq_by_cmp order) keys
      → ((k : K) → test k ≡ true → occurs order ss k ≡ true → list_any (eq_by_cmp order k) keys ≡ true)
      → sum_over (flat order ss) (filter test keys) ≡ sum_where (first_passes test) ss
  flats_of_parts [] keys apart known = sum_none (filter test keys)
  flats_of_parts (s ∷ ss) keys apart known =
      sum_plus (λ k. part (leads order k) s) (flat order ss) (filter test keys)
      ∙ (λ i. one_leaf s keys apart (λ k passes is. known k passes (ap (λ b. b || occurs order ss k) is)) i
      +ℤ flats_of_parts ss keys apart (λ k passes is. known k passes (or_right (has order k s.keys) (occurs order ss k) is)) i)

pub sum_where-renamed : {J K : Type 0} (g : J → K) (test : List K → Bool) (ss : List (Seen J)) → sum_where test (map (renamed g) ss) ≡ sum_where (λ ks. test (map g ks)) ss
sum_where-renamed g test [] = refl
sum_where-renamed g test (s ∷ ss) = ap (λ v. cond (test (map g s.keys)) s.value (pos 0) +ℤ v) (sum_where-renamed g test ss)

pub sum_where_same : {K : Type 0} (a b : List K → Bool) → ((ks : List K) → a ks ≡ b ks) → (ss : List (Seen K)) → sum_where a ss ≡ sum_where b ss
sum_where_same a b same [] = refl
sum_where_same a b same (s ∷ ss) = λ i. cond (same s.keys i) s.value (pos 0) +ℤ sum_where_same a b same ss i

none_renamed : {J K : Type 0} (g : J → K) (ss : List (Seen J)) → NoneNegative (map (renamed g) ss) → NoneNegative ss
none_renamed g [] none = tt
none_renamed g (s ∷ ss) none = (none.0, none_renamed g ss none.1)

-- the frames of a report have no negative value where its samples have none
pub frames_above : (p : Profile) (f : Finders) (config : Config) (column : Option ℕ)
    → NoneNegative (seen_samples p f config column p.sample) → NoneNegative (report_frames p f config column)
frames_above p f config column none =
    none_weighed (framed_samples p f config column p.sample)
    (none_renamed (key_of_written config.grouping) (framed_samples p f config column p.sample) (subst NoneNegative (sym (keyed_frames p f config column p.sample)) none))

-- tests that pass alike
pub alike : (a b : Bool) → (a ≡ true → b ≡ true) → (b ≡ true → a ≡ true) → a ≡ b
alike true b first second = sym (first refl)
alike false true first second = second refl
alike false false first second = refl

-- What a finer key keeps of a frame tells what the key does.
twice : (coarse fine : Grain) (showcolumns : Bool) (w : Written) → is_finer coarse fine ≡ true → kept_by coarse showcolumns (key_texts fine showcolumns w) ≡ kept_by coarse showcolumns w
twice Functions Functions shown w is = refl
twice Functions FileFunctions shown w is = refl
twice Functions Files shown w is = absurd (false≢true is)
twice Functions Lines shown w is = refl
twice Functions Addresses shown w is = refl
twice FileFunctions Functions shown w is = absurd (false≢true is)
twice FileFunctions FileFunctions shown w is = refl
twice FileFunctions Files shown w is = absurd (false≢true is)
twice FileFunctions Lines shown w is = refl
twice FileFunctions Addresses shown w is = refl
twice Files Functions shown w is = absurd (false≢true is)
twice Files FileFunctions shown w is = refl
twice Files Files shown w is = refl
twice Files Lines shown w is = refl
twice Files Addresses shown w is = refl
twice Lines Functions shown w is = absurd (false≢true is)
twice Lines FileFunctions shown w is = absurd (false≢true is)
twice Lines Files shown w is = absurd (false≢true is)
twice Lines Lines true w is = refl
twice Lines Lines false w is = refl
twice Lines Addresses true w is = refl
twice Lines Addresses false w is = refl
twice Addresses Functions shown w is = absurd (false≢true is)
twice Addresses FileFunctions shown w is = absurd (false≢true is)
twice Addresses Files shown w is = absurd (false≢true is)
twice Addresses Lines shown w is = absurd (false≢true is)
twice Addresses Addresses true w is = refl
twice Addresses Addresses false w is = refl

no_object : (grain : Grain) (showcolumns : Bool) (w : Written) → (kept_by grain showcolumns w).object ≡ []
no_object Functions shown w = refl
no_object FileFunctions shown w = refl
no_object Files shown w = refl
no_object Lines shown w = refl
no_object Addresses shown w = refl

-- a key that has a name is without its object
named_alone : (key : Written) (object : List ℕ) → key.object ≡ [] → is_nameless key ≡ false → with_object key object ≡ key
named_alone key object none named = λ i. record key { object = (ap (λ b. cond b object []) named ∙ sym none) i }

-- a key that has a name is that of the frame where it is what the grain keeps of the frame
named_told : (grain : Grain) (showcolumns : Bool) (k w : Written) → is_nameless k ≡ false
    → eq_by_cmp key_cmp k (key_texts grain showcolumns w) ≡ eq_by_cmp key_cmp k (kept_by grain showcolumns w)
named_told grain shown k w named =
    let kept : Written = kept_by grain shown w in
    let full : Written = key_texts grain shown w in
    alike (eq_by_cmp key_cmp k full) (eq_by_cmp key_cmp k kept)
    (λ is.
    let one : k ≡ full = (key_decides k full).0 is in
    (key_decides k kept).1 (one ∙ named_alone kept w.object (no_object grain shown w) (sym (ap is_nameless one) ∙ named)))
    (λ is.
    let one : k ≡ kept = (key_decides k kept).0 is in
    (key_decides k full).1 (one ∙ sym (named_alone kept w.object (no_object grain shown w) (sym (ap is_nameless one) ∙ named))))

module _ (coarse fine : Grain) (p : Profile) (f : Finders) (config : Config) (column : Option ℕ) (k : Written) (finer : is_finer coarse fine ≡ true) (named : is_nameless k ≡ false) where
  abbrev frames : List (Seen Written)
  frames = report_frames p f config column

  abbrev by_coarse : Written → Written
  by_coarse = key_texts coarse config.grouping.showcolumns

  abbrev by_fine : Written → Written
  by_fine = key_texts fine config.grouping.showcolumns

  abbrev of_key : Written → Bool
  of_key = is_part coarse config.grouping.showcolumns k

  -- the key of a frame is the key where the finer one is a part of it
  part_told : (w : Written) → eq_by_cmp key_cmp k (by_coarse w) ≡ of_key (by_fine w)
  part_told w = named_told coarse config.grouping.showcolumns k w named ∙ ap (eq_by_cmp key_cmp k) (sym (twice coarse fine config.grouping.showcolumns w finer))

  over_frames : (grain : Grain) (test : List Written → Bool)
      → sum_where test (report_samples p f (at_grain grain config) column) ≡ sum_where (λ ws. test (map (key_texts grain config.grouping.showcolumns) ws)) frames
  over_frames grain test =
      ap (sum_where test) (sym (keyed_report p f (at_grain grain config) column))
      ∙ sum_where-renamed (key_texts grain config.grouping.showcolumns) test frames

  leaf_told : (ws : List Written) → leads key_cmp k (map by_coarse ws) ≡ first_passes of_key (map by_fine ws)
  leaf_told [] = refl
  leaf_told (w ∷ ws) = part_told w

  flat_is : flat key_cmp (report_samples p f (at_grain coarse config) column) k
      ≡ sum_over (flat key_cmp (report_samples p f (at_grain fine config) column)) (filter of_key (all_report_keys p f (at_grain fine config) column))
  flat_is =
      over_frames coarse (leads key_cmp k)
      ∙ sum_where_same (λ ws. leads key_cmp k (map by_coarse ws)) (λ ws. first_passes of_key (map by_fine ws)) leaf_told frames
      ∙ sym (over_frames fine (first_passes of_key))
      ∙ sym (flats_of_parts key_cmp_total of_key (λ a b is. ap of_key ((key_decides a b).0 is))
      (report_samples p f (at_grain fine config) column) (all_report_keys p f (at_grain fine config) column)
      (rows_apart p f (at_grain fine config) column) (λ k passes is. rows_known p f (at_grain fine config) column k is))

  part_stands : (part : Written) → of_key part ≡ true → (ws : List Written) → has key_cmp part (map by_fine ws) ≡ true → has key_cmp k (map by_coarse ws) ≡ true
  part_stands part of [] is = is
  part_stands part of (w ∷ ws) is = either (eq_by_cmp key_cmp part (by_fine w)) (has key_cmp part (map by_fine ws)) is
      (λ here. ap (λ b. b || has key_cmp k (map by_coarse ws)) (part_told w ∙ ap of_key (sym ((key_decides part (by_fine w)).0 here)) ∙ of))
      (λ later. or_right (eq_by_cmp key_cmp k (by_coarse w)) (has key_cmp k (map by_coarse ws)) (part_stands part of ws later))

  cum_is : NoneNegative (seen_samples p f config column p.sample) → (part : Written) → of_key part ≡ true
      → cum key_cmp (report_samples p f (at_grain fine config) column) part ≤ℤ cum key_cmp (report_samples p f (at_grain coarse config) column) k
  cum_is none part of =
      subst (λ v. v ≤ℤ cum key_cmp (report_samples p f (at_grain coarse config) column) k) (sym (over_frames fine (has key_cmp part)))
      (subst (λ v. sum_where (λ ws. has key_cmp part (map by_fine ws)) frames ≤ℤ v) (sym (over_frames coarse (has key_cmp k)))
      (sum_where_within (λ ws. has key_cmp part (map by_fine ws)) (λ ws. has key_cmp k (map by_coarse ws)) (part_stands part of) frames (frames_above p f config column none)))

  pub parts_sum : IsSumOfParts coarse fine p f config column k
  parts_sum = record { flat = flat_is; cum = cum_is }

pub parts_add_up : PartsAddUp
parts_add_up coarse fine p f config column k finer named = parts_sum coarse fine p f config column k finer named
