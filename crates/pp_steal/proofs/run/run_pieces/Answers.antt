use Rattle.std.proofs.Common.{ℕ, ap, map, sym, subst, ◌≡◌, ◌∙◌, length, IfOk}
use Rattle.pp_steal.specs.Lanes.{taken_of}
use Rattle.pp_steal.specs.Closing.{first_make}
use Rattle.pp_steal.specs.Running.{AreOutcomes}
use Rattle.pp_steal.proofs.Placing.{closed_whole, pieces_of_station, outcomes_of, all_right, once_of, taken_few, left_few}
use Rattle.pp_steal.proofs.run.run_pieces.Goals as goal

pub serve_all-requires-clause-pieces : goal.serve_all-requires-clause-pieces
serve_all-requires-clause-pieces g c = λ _ _. pieces_of_station c.args.deal c.args.pieces c.args.n (g.J.Job.pieces c.args.job.now) c.in_ok-lanes.lanes c.in_ok-stations.stations.items c.in_ok-lanes.ensures.make c.requires.pieces c.in_ok-stations.ensures.lanes

pub close-taken-requires : goal.close-taken-requires
close-taken-requires g c =
    (closed_whole (g.J.Job.right c.args.job.now) c.args.deal c.args.pieces c.args.n c.in_ok-lanes.lanes c.from_vec.result c.in_ok-stations.stations.items c.serve_all.new.stations.items c.requires.some c.in_ok-lanes.ensures.make c.in_ok-stations.ensures.lanes
    c.serve_all.ensures.count c.serve_all.ensures.served (c.from_vec.ensures ∙ c.in_ok-lanes-2.ensures.lanes)).0

-- each lane has the outcomes of the pieces that it took
pub place_all-requires-clause-outcomes : goal.place_all-requires-clause-outcomes
place_all-requires-clause-outcomes g c = λ _ _.
    let e = c.as_slice.ensures ∙ c.close-taken.ensures.taken ∙ ap (map taken_of) (c.from_vec.ensures ∙ c.in_ok-lanes-2.ensures.lanes) in
    rw c.in_ok-lanes-2.ensures.outcomes (outcomes_of (g.J.Job.right c.args.job.now) c.as_slice.result.now c.in_ok-stations.stations.items c.serve_all.new.stations.items (sym e) c.serve_all.ensures.count c.in_ok-lanes-2.ensures.going c.serve_all.ensures.served)

pub place_all-requires-clause-pieces : goal.place_all-requires-clause-pieces
place_all-requires-clause-pieces g c = λ _ _.
    let w = closed_whole (g.J.Job.right c.args.job.now) c.args.deal c.args.pieces c.args.n c.in_ok-lanes.lanes c.from_vec.result c.in_ok-stations.stations.items c.serve_all.new.stations.items c.requires.some c.in_ok-lanes.ensures.make c.in_ok-stations.ensures.lanes
    c.serve_all.ensures.count c.serve_all.ensures.served (c.from_vec.ensures ∙ c.in_ok-lanes-2.ensures.lanes) in
    let slots : ℕ = length c.in_ok-slots.slots.items in
    let once = once_of c.args.pieces (first_make c.from_vec.result).pieces slots c.close-taken.result.taken c.close-taken.result.left w.1 c.in_ok-slots.ensures c.close-taken.ensures.once in
    rw c.as_slice.ensures (taken_few slots c.close-taken.result.taken c.close-taken.result.left once)

pub run_left-requires-clause-pieces : goal.run_left-requires-clause-pieces
run_left-requires-clause-pieces g c = λ _ _.
    let w = closed_whole (g.J.Job.right c.args.job.now) c.args.deal c.args.pieces c.args.n c.in_ok-lanes.lanes c.from_vec.result c.in_ok-stations.stations.items c.serve_all.new.stations.items c.requires.some c.in_ok-lanes.ensures.make c.in_ok-stations.ensures.lanes
    c.serve_all.ensures.count c.serve_all.ensures.served (c.from_vec.ensures ∙ c.in_ok-lanes-2.ensures.lanes) in
    let slots : ℕ = length c.place_all.new.slots.items in
    let once = once_of c.args.pieces (first_make c.from_vec.result).pieces slots c.close-taken.result.taken c.close-taken.result.left w.1 (c.place_all.ensures.count ∙ c.in_ok-slots.ensures) c.close-taken.ensures.once in
    rw c.as_slice-2.ensures (left_few slots c.close-taken.result.taken c.close-taken.result.left once)

-- each piece was taken by a lane, or left and run here
pub all_outcomes-requires-after_bounds : goal.all_outcomes-requires-after_bounds
all_outcomes-requires-after_bounds g c = λ _ _.
    let right = g.J.Job.right c.args.job.now in
    let w = closed_whole (g.J.Job.right c.args.job.now) c.args.deal c.args.pieces c.args.n c.in_ok-lanes.lanes c.from_vec.result c.in_ok-stations.stations.items c.serve_all.new.stations.items c.requires.some c.in_ok-lanes.ensures.make c.in_ok-stations.ensures.lanes
    c.serve_all.ensures.count c.serve_all.ensures.served (c.from_vec.ensures ∙ c.in_ok-lanes-2.ensures.lanes) in
    let slots : ℕ = length c.run_left.new.slots.items in
    let count = c.in_ok-run_left.ensures.count ∙ c.place_all.ensures.count ∙ c.in_ok-slots.ensures in
    let once = once_of c.args.pieces (first_make c.from_vec.result).pieces slots c.as_slice.result.now c.as_slice-2.result.now w.1 count (rw (c.as_slice.ensures, c.as_slice-2.ensures) c.close-taken.ensures.once) in
    all_right right slots c.run_left.new.slots.items c.place_all.new.slots.items c.as_slice.result.now c.as_slice-2.result.now once c.in_ok-run_left.ensures.kept c.place_all.ensures.placed c.in_ok-run_left.ensures.placed

pub returns : goal.returns
returns g c =
    let count : length c.run_left.new.slots.items ≡ c.args.pieces = c.in_ok-run_left.ensures.count ∙ c.place_all.ensures.count ∙ c.in_ok-slots.ensures in
    subst (λ (n : ℕ). IfOk c.all_outcomes.result (AreOutcomes (g.J.Job.right c.args.job.now) n)) count c.all_outcomes.ensures
