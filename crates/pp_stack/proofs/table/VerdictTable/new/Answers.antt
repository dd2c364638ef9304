use Rattle.std.proofs.Common.{ap₂, drop, ◌∙◌}
use Rattle.std.specs.List.{list_any}
use Rattle.pp_stack.proofs.TableLemmas.{tabled_more}
use Rattle.pp_stack.proofs.table.VerdictTable.new.Goals as goal

-- one more location
pub loop-location-preserved : goal.loop-location-preserved
loop-location-preserved c =
    rw (c.in_ok-push.ensures.ok, c.in_ok-push-2.ensures.ok, c.in_ok-place.ensures ∙ c.len.ensures)
    (tabled_more c.args.l.now.profile c.args.texts.now c.loop-location.location c.loop-location.first c.loop-location.found c.add_location.new.found
    c.loop-location.some c.some_from.result
    c.loop-location.invariant (record {
      count = c.in_ok-add_location.ensures.count;
      items = c.in_ok-add_location.ensures.items;
      some = c.some_from.ensures ∙ ap₂ (λ n xs. list_any (λ v. v) (drop n xs)) (c.in_ok-place.ensures ∙ c.len.ensures) c.as_slice.ensures;
    }))
