-- A routine of the list report is the sum of its lines.
use Rattle.std.proofs.Common.{◌≡◌, ℕ, Bool, true, false, cond, ◌||◌, pos, List, [], ◌∷◌, ◌++◌, map, Option, refl, sym, ap, subst, ◌∙◌}
use Rattle.std.specs.Prelude.{◌≤ℤ◌}
use Rattle.std.specs.List.{filter, list_any}
use Rattle.std.specs.Ordering.{eq_by_cmp}
use Rattle.std.specs.Option.{option_map_or}
use Rattle.std.proofs.lemmas.Bool.{and_from, and_parts, or_right}
use Rattle.std.proofs.lemmas.Slice.Eq.{bytes_eq-Decides}
use Rattle.pp_base.proofs.Booleans.{either}
use Rattle.pp_model.specs.declared.config.Config.{Config}
use Rattle.pp_model.specs.declared.profile.Profile.{Profile}
use Rattle.pp_model.specs.Finders.{Finders}
use Rattle.pp_model.specs.FrameTexts.{Written}
use Rattle.pp_grain.specs.Keys.{key_cmp}
use Rattle.pp_grain.proofs.CallerLemmas.{key_cmp_total}
use Rattle.pp_count.specs.Sums.{Seen, renamed, sum_where, has, leads, occurs, all_keys}
use Rattle.pp_count.specs.Seeing.{seen_samples}
use Rattle.pp_count.specs.Counted.{finds_own, report_frames}
use Rattle.pp_count.proofs.Renaming.{all_keys_occur}
use Rattle.pp_count.proofs.Ties.{key_decides, tied}
use Rattle.pp_source.specs.Amounts.{routine_of, source_line, routine_amounts, line_amounts, line_numbered}
use Rattle.pp_source.specs.Routines.{all_lines, found_lines, is_same_routine}
use Rattle.pp_laws.specs.Figures.{NoneNegative}
use Rattle.pp_laws.proofs.IntSums.{sum_over}
use Rattle.pp_graph.proofs.Listed.{each_once_apart, each_once_members}
use Rattle.pp_laws.proofs.Sampling.{sum_where_within}
use Rattle.pp_sums.specs.Listed.{amounts_in, IsSumOfLines, ListedLinesAddUp}
use Rattle.pp_sums.proofs.Parts.{alike, first_passes, flats_of_parts, frames_above, sum_where-renamed, sum_where_same}

-- a key that stands in a list, and passes, stands among those that pass
any_passing : (test : Written → Bool) (k : Written) → test k ≡ true → (ks : List Written)
    → list_any (eq_by_cmp key_cmp k) ks ≡ true → list_any (eq_by_cmp key_cmp k) (filter test ks) ≡ true
any_passing test k passes [] is = is
any_passing test k passes (q ∷ ks) is = either (eq_by_cmp key_cmp k q) (list_any (eq_by_cmp key_cmp k) ks) is
    (λ here.
    let kept : test q ≡ true = ap test (sym (tied k q here)) ∙ passes in
    ap (λ b. list_any (eq_by_cmp key_cmp k) (cond b (q ∷ filter test ks) (filter test ks))) kept
    ∙ ap (λ b. b || list_any (eq_by_cmp key_cmp k) (filter test ks)) here)
    (λ later.
    elim (test q) as (λ b. list_any (eq_by_cmp key_cmp k) (cond b (q ∷ filter test ks) (filter test ks)) ≡ true) [
      | true ↦ or_right (eq_by_cmp key_cmp k q) (list_any (eq_by_cmp key_cmp k) (filter test ks)) (any_passing test k passes ks later)
      | false ↦ any_passing test k passes ks later
    ])

-- the lines of all frames are the keys of the samples by lines
lines_are_keys : (frames : List (Seen Written)) → all_lines frames ≡ all_keys (map (renamed source_line) frames)
lines_are_keys [] = refl
lines_are_keys (s ∷ frames) = ap (λ ks. map source_line s.keys ++ ks) (lines_are_keys frames)

-- a frame is of the routine where its line is
line_told : (w v : Written) → eq_by_cmp key_cmp (routine_of w) (routine_of v) ≡ is_same_routine w (source_line v)
line_told w v = alike (eq_by_cmp key_cmp (routine_of w) (routine_of v)) (is_same_routine w v)
    (λ is.
    let one : routine_of w ≡ routine_of v = tied (routine_of w) (routine_of v) is in
    and_from _ _ ((bytes_eq-Decides w.function v.function).1 (ap (λ (k : Written). k.function) one))
    ((bytes_eq-Decides w.file v.file).1 (ap (λ (k : Written). k.file) one)))
    (λ is.
    let both = and_parts _ _ is in
    let function : w.function ≡ v.function = (bytes_eq-Decides w.function v.function).0 both.0 in
    let file : w.file ≡ v.file = (bytes_eq-Decides w.file v.file).0 both.1 in
    (key_decides (routine_of w) (routine_of v)).1 (λ i. record { function = function i; file = file i; line = pos 0; column = pos 0; address = 0; object = [] }))

module _ (p : Profile) (f : Finders) (config : Config) (column : Option ℕ) (w : Written) (is_own : finds_own f w ≡ true) where
  abbrev frames : List (Seen Written)
  frames = report_frames p f config column

  abbrev lines : List (Seen Written)
  lines = map (renamed source_line) frames

  -- a line of the routine that occurs is among those that were found
  known : (k : Written) → is_same_routine w k ≡ true → occurs key_cmp lines k ≡ true → list_any (eq_by_cmp key_cmp k) (found_lines f frames) ≡ true
  known k same is =
      let function : w.function ≡ k.function = (bytes_eq-Decides w.function k.function).0 (and_parts _ _ same).0 in
      let own : finds_own f k ≡ true = ap (λ name. option_map_or (λ find. find name) f.own false) (sym function) ∙ is_own in
      each_once_members key_cmp_total (filter (finds_own f) (all_lines frames)) k
      ∙ any_passing (finds_own f) k own (all_lines frames)
      (ap (list_any (eq_by_cmp key_cmp k)) (lines_are_keys frames) ∙ all_keys_occur key_cmp lines k ∙ is)

  leaf_told : (ws : List Written) → leads key_cmp (routine_of w) (map routine_of ws) ≡ first_passes (is_same_routine w) (map source_line ws)
  leaf_told [] = refl
  leaf_told (v ∷ ws) = line_told w v

  flat_is : (routine_amounts frames w).flat ≡ sum_over (λ line. (amounts_in frames line).flat) (filter (is_same_routine w) (found_lines f frames))
  flat_is =
      sum_where-renamed routine_of (leads key_cmp (routine_of w)) frames
      ∙ sum_where_same (λ ws. leads key_cmp (routine_of w) (map routine_of ws)) (λ ws. first_passes (is_same_routine w) (map source_line ws)) leaf_told frames
      ∙ sym (sum_where-renamed source_line (first_passes (is_same_routine w)) frames)
      ∙ sym (flats_of_parts key_cmp_total (is_same_routine w) (λ a b is. ap (is_same_routine w) (tied a b is))
      lines (found_lines f frames) (each_once_apart key_cmp (filter (finds_own f) (all_lines frames))) known)

  line_stands : (number : ℕ) (ws : List Written) → has key_cmp (line_numbered w number) (map source_line ws) ≡ true → has key_cmp (routine_of w) (map routine_of ws) ≡ true
  line_stands number [] is = is
  line_stands number (v ∷ ws) is = either (eq_by_cmp key_cmp (line_numbered w number) (source_line v)) (has key_cmp (line_numbered w number) (map source_line ws)) is
      (λ here. ap (λ b. b || has key_cmp (routine_of w) (map routine_of ws))
      ((key_decides (routine_of w) (routine_of v)).1 (ap routine_of (tied (line_numbered w number) (source_line v) here))))
      (λ later. or_right (eq_by_cmp key_cmp (routine_of w) (routine_of v)) (has key_cmp (routine_of w) (map routine_of ws)) (line_stands number ws later))

  cum_is : NoneNegative (seen_samples p f config column p.sample) → (number : ℕ) → (line_amounts frames w number).cum ≤ℤ (routine_amounts frames w).cum
  cum_is none number =
      subst (λ v. v ≤ℤ (routine_amounts frames w).cum) (sym (sum_where-renamed source_line (has key_cmp (line_numbered w number)) frames))
      (subst (λ v. sum_where (λ ws. has key_cmp (line_numbered w number) (map source_line ws)) frames ≤ℤ v) (sym (sum_where-renamed routine_of (has key_cmp (routine_of w)) frames))
      (sum_where_within (λ ws. has key_cmp (line_numbered w number) (map source_line ws)) (λ ws. has key_cmp (routine_of w) (map routine_of ws))
      (line_stands number) frames (frames_above p f config column none)))

  pub lines_sum : IsSumOfLines p f config column w
  lines_sum = record { flat = flat_is; cum = cum_is }

pub listed_lines_add_up : ListedLinesAddUp
listed_lines_add_up p f config column w is_own = lines_sum p f config column w is_own
