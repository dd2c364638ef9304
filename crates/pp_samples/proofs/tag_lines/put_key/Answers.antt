use Rattle.std.proofs.Common.{◌≡◌, ◌++◌, List, ℕ, codes, rules, ap, sym, subst, ◌∙◌}
use Rattle.std.specs.List.{flat_map}
use Rattle.std.specs.Ordering.{is_lt}
use Rattle.std.specs.Result.{IfOk}
use Rattle.std.proofs.lemmas.Fn.{always_returns_same}
use Rattle.std.proofs.lemmas.List.Sorted.{ranks_by}
use Rattle.pp_units.specs.Words.{shown}
use Rattle.pp_samples.specs.TagLines.{key_line, key_size}
use Rattle.pp_samples.specs.Tables.{IsTableOf, events_of_key, events_from}
use Rattle.pp_samples.specs.Ranked.{line_entry, line_key, entry_cmp, entry_line}
use Rattle.pp_samples.proofs.Ranking.{entry_total}
use Rattle.pp_samples.proofs.Listed.{lines_are}
use Rattle.pp_samples.proofs.tag_lines.put_key.Goals as goal

-- the sorted lines are those of the key's tags
pub returns : goal.returns
returns c samples is =
    let key = line_key c.args.key.now in
    let unit = shown c.args.unit.now in
    let before = c.in_ok-lines.lines.items in
    let lines = c.as_slice.result.now in
    let own = events_of_key key (events_from 0 samples) in
    let table : IsTableOf own c.index-tables-key.result = subst (IsTableOf own) (sym c.index-tables-key.is) (is.table c.index-tables-key.result) in
    let are = c.in_ok-lines.ensures.entries own table in
    let sorted =
    c.in_ok-sort_by.ensures.sorted (λ a b. is_lt (entry_cmp (line_entry a) (line_entry b))) (ranks_by entry_total line_entry)
    (always_returns_same _ (λ a r. is_lt r ≡ is_lt (entry_cmp (line_entry a.0.now) (line_entry a.1.0.now))) _ (λ a r f' k. search rules)) in
    let tags =
    lines_are samples key before _ are c.in_ok-sort_by.ensures.permutation sorted unit in
    subst (λ (text : List ℕ). IfOk c.put_lines.result (λ _. c.put_lines.new.out ≡ c.args.out.now ++ text))
    (λ i. key_line unit key (is.sum i)
    ++ (ap (λ (size : ℕ). flat_map (λ line. entry_line unit size (line_entry line)) lines) is.size ∙ ap (flat_map (λ line. entry_line unit (key_size samples key) (line_entry line))) c.as_slice.ensures.value ∙ sym tags) i
    ++ codes "\n")
    c.put_lines.ensures
