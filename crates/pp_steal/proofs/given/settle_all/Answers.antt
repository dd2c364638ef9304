use Rattle.std.proofs.Common.{sym, ap, arith, take, ◌≡◌, ◌+◌, length, ◌∙◌, ℕ}
use Rattle.pp_steal.proofs.Ends.{last_off}
use Rattle.pp_steal.proofs.Closing.{given_once, part_marked, rows_end, lane_learned', learned_more, cut_more}
use Rattle.pp_steal.proofs.given.settle_all.Goals as goal

pub returns-clause-once : goal.returns-clause-once
returns-clause-once c = given_once c.args.whole.deal (length c.args.whole.workers.items) c.args.whole.pieces c.args.whole.taken.items c.requires.some (λ lane lt. c.loop-worker.invariant.learned lane (let z = c.in_default.ensures.cases in omega arith) lt)

pub settle-requires-clause-worker : goal.settle-requires-clause-worker
settle-requires-clause-worker c = let i = c.loop-worker.invariant in
    let more : length c.loop-worker.workers.items ≡ c.len-lane.result + 1 = let z = c.in-Some.ensures.cases in omega arith in
    let off = last_off c.loop-worker.workers.items c.args.whole.workers.items c.pop.new.self.items c.in-Some.worker _ c.len-lane.result c.in-Some.ensures.items i.workers.0 more (omega arith) in
    part_marked c.args.whole.deal c.args.whole.pieces c.args.whole.workers.items c.args.whole.rows.items c.args.whole.taken.items c.len-lane.result _ c.requires (omega arith) off.0

pub settle-requires-clause-rows : goal.settle-requires-clause-rows
settle-requires-clause-rows c = let i = c.loop-worker.invariant in
    let more : length c.loop-worker.workers.items ≡ c.len-lane.result + 1 = let z = c.in-Some.ensures.cases in omega arith in
    let off = last_off c.loop-worker.workers.items c.args.whole.workers.items c.pop.new.self.items c.in-Some.worker _ c.len-lane.result c.in-Some.ensures.items i.workers.0 more (omega arith) in
    rows_end c.args.whole.deal c.args.whole.pieces c.args.whole.workers.items c.args.whole.rows.items c.loop-worker.rows.items c.args.whole.taken.items c.len-lane.result _ _ c.requires i.count more (omega arith) off.0 i.rows

pub loop-worker-preserved : goal.loop-worker-preserved
loop-worker-preserved c = let i = c.loop-worker.invariant in
    let more : length c.loop-worker.workers.items ≡ c.len-lane.result + 1 = let z = c.in-Some.ensures.cases in omega arith in
    let at : length c.pop.new.self.items ≡ c.len-lane.result = omega arith in
    let off = last_off c.loop-worker.workers.items c.args.whole.workers.items c.pop.new.self.items c.in-Some.worker _ c.len-lane.result c.in-Some.ensures.items i.workers.0 more at in
    let mine = lane_learned' c.args.whole.deal c.args.whole.pieces c.args.whole.workers.items c.args.whole.rows.items c.loop-worker.rows.items c.args.whole.taken.items c.len-lane.result _ c.in-Some.worker c.requires i.count more (omega arith) off.0 i.rows c.settle.ensures.learned in
    record {
      workers = (off.1 ∙ ap (λ (n : ℕ). take n c.args.whole.workers.items) (sym at), omega arith);
      count = c.settle.ensures.count ∙ i.count;
      rows = rw at (cut_more c.len-lane.result _ c.loop-worker.rows.items c.args.whole.rows.items c.settle.new.rows.items more c.settle.ensures.count i.rows c.settle.ensures.rows);
      learned = rw at (learned_more c.args.whole.deal (length c.args.whole.workers.items) c.args.whole.pieces c.args.whole.taken.items c.len-lane.result _ more mine i.learned);
    }
