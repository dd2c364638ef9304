use Rattle.std.proofs.Common.{sym, subst, arith}
use Rattle.std.specs.Option.{IsSome}
use Rattle.std.proofs.lemmas.Bool.{false≢true}
use Rattle.pp_count.proofs.Entries.{others_more}
use Rattle.pp_count.proofs.tallies.push_others.Goals.{in-Some+in_ok-push_other, in_default}
use Rattle.pp_count.proofs.tallies.push_others.Goals as goal

pub loop-index-preserved : goal.loop-index-preserved
loop-index-preserved c = elim c.match-get_index.branch [
  | in-Some+in_ok-push_other w ↦
      rw w.sums-is
      (others_more c.args.tallies.now.listed.items c.args.tallies.now.slots.place.items c.args.tallies.now.slots.rows.items c.args.tallies.now.others.entries c.loop-index.index w.in-Some.key.now w.in-Some.tally.now c.loop-index.sums w.push_other.new.sums
      c.len-index-end.ensures.unique (sym w.in-Some.ensures.entry) c.loop-index.invariant w.in_ok-push_other.ensures)
  | in_default w ↦ let some = c.get_index.ensures.found.1 (omega (arith, c.loop-index-test.true, c.len-index-end.ensures.len)) in absurd (false≢true (subst IsSome w.in_default.is some))
]
