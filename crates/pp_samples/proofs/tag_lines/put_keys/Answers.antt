use Rattle.std.proofs.Common.{◌≡◌, ◌++◌, ◌<◌, List, ℕ, All, length, map, rules, ap, sym, subst, ◌∙◌}
use Rattle.std.specs.List.{flat_map}
use Rattle.std.specs.Ordering.{is_lt}
use Rattle.std.specs.Result.{IfOk}
use Rattle.std.proofs.lemmas.Cmp.{nat_list_cmp_total}
use Rattle.std.proofs.lemmas.Fn.{always_returns_same}
use Rattle.std.proofs.lemmas.List.Sorted.{ranks_by, All-permutation}
use Rattle.std.proofs.lemmas.List.Folds.{flat_map-map}
use Rattle.pp_units.specs.Words.{shown}
use Rattle.pp_samples.specs.TagLines.{key_lines}
use Rattle.pp_samples.specs.Tables.{key_event, events_from}
use Rattle.pp_samples.specs.declared.tag_table.TagTable.{TagTable}
use Rattle.pp_samples.specs.declared.tag_lines.TagLine.{TagLine}
use Rattle.pp_samples.specs.Ranked.{line_key, line_key_cmp, IsKeyLine}
use Rattle.pp_samples.proofs.Listed.{keys_listed, lines_keys}
use Rattle.pp_samples.proofs.tag_lines.put_keys.Goals as goal

-- the lines in their order have the numbers of the keys
pub put_each_key-requires-clause-within : goal.put_each_key-requires-clause-within
put_each_key-requires-clause-within c =
    let tables = c.as_slice.result.now in
    let count : length c.args.keys.now.keys.names ≡ length tables = sym c.requires.count ∙ ap length (sym c.as_slice.ensures.value) in
    subst (λ (ls : List TagLine). All (λ line. line.number < length tables) ls) (sym c.as_slice-2.ensures.value)
    (All-permutation (λ line. line.number < length tables) c.in_ok-lines.lines.items _ c.in_ok-sort_by.ensures.permutation
    (subst (λ (n : ℕ). All (λ line. line.number < n) c.in_ok-lines.lines.items) count c.in_ok-lines.ensures.numbers))

-- the sorted lines are those of the keys
pub returns : goal.returns
returns c samples is =
    let unit = shown c.args.unit.now in
    let keys = c.args.keys.now in
    let are = c.in_ok-lines.ensures.entries (map key_event (events_from 0 samples)) is.sums in
    let sorted =
    c.in_ok-sort_by.ensures.sorted (λ a b. is_lt (line_key_cmp a b)) (ranks_by nat_list_cmp_total line_key)
    (always_returns_same _ (λ a r. is_lt r ≡ is_lt (line_key_cmp a.0.now a.1.0.now)) _ (λ a r f' k. search rules)) in
    let moved = c.in_ok-sort_by.ensures.permutation in
    let before = c.in_ok-lines.lines.items in
    let tables = c.as_slice.ensures.value in
    let items = c.as_slice-2.ensures.value in
    let listed = keys_listed samples keys is before _ are moved sorted in
    let all =
    subst (λ (ts : List TagTable). All (IsKeyLine samples ts) c.as_slice-2.result.now) (sym tables)
    (subst (λ (ls : List TagLine). All (IsKeyLine samples keys.tags.items) ls) (sym items)
    (lines_keys samples keys is before _ are moved sorted)) in
    subst (λ (text : List ℕ). IfOk c.put_each_key.result (λ _. c.put_each_key.new.out ≡ c.args.out.now ++ text))
    (ap (flat_map (λ line. key_lines unit samples (line_key line))) items
    ∙ sym (flat_map-map (key_lines unit samples) line_key _)
    ∙ ap (flat_map (key_lines unit samples)) (sym listed))
    (c.put_each_key.ensures samples all)
