use Rattle.std.proofs.Common.{◌≡◌, map, rules, w64, sym, ◌∙◌}
use Rattle.std.specs.Prelude.{is_some}
use Rattle.std.proofs.lemmas.Int.{to_z-of_z}
use mir.Val.{SFits}
use Rattle.pp_count.specs.Scope.{config_of}
use Rattle.pp_count.specs.Seeing.{filtered_stack}
use Rattle.pp_count.specs.Table.{written_key}
use Rattle.pp_count.proofs.Ranges.{some_is}
use Rattle.pp_account.specs.Adding.{with_sample_value}
use Rattle.pp_account.proofs.Counting.{bare_is}
use Rattle.pp_account.proofs.samples.add_sample.Goals as goal

pub returns : goal.returns
returns c = λ f holds.
    let w = c.args.scope.now in
    let p = w.l.now.profile in
    let name = written_key p w.table.now.names in
    let fits : SFits w64 c.selected-value.result = search rules in
    let value = to_z-of_z w64 c.selected-value.result fits ∙ c.selected-value.ensures in
    let seen = c.in_ok-is_kept.ensures.seen f holds in
    let kept = some_is w (filtered_stack p f w.config.now.filtering c.args.s.now) c.in_ok-is_kept.is_kept (map name c.see.new.keys.items) seen in
    let filter = c.in_ok-filter.ensures f holds (sym kept) in
    let bare = bare_is p f (config_of w) w.column c.args.s.now name c.in_ok-is_kept.is_kept c.is_bare.result _ c.see.new.keys.items seen value c.is_bare.ensures in
    c.add.ensures ∙ (λ i. with_sample_value (filter i) (bare i) (value i) c.args.portions.now)
