use Rattle.std.proofs.Common.{arith, ap, ◌≡◌, ◌+◌, ◌∙◌, length, length-append, [], ◌∷◌}
use Rattle.pp_steal.specs.Lanes.{Make}
use Rattle.pp_steal.proofs.Marking.{given_below}
use Rattle.pp_steal.proofs.station.serve.Goals as goal

-- the lane gives pieces of its make alone
pub work_on-requires-after_bounds : goal.work_on-requires-after_bounds
work_on-requires-after_bounds g c = λ _ _.
    let i = c.loop-piece.invariant in
    let same = ap (λ (m : Make). m.pieces) (c.next.ensures.same_make ∙ i.same.0) in
    let below = given_below c.next.new.self.make.pieces c.loop-piece.station.lane.taken c.next.new.self.taken c.in-Some.piece c.next.ensures.pieces c.in-Some.ensures.some.appended in
    omega (arith, below.0, c.requires.pieces)

-- it took one piece more, and takes none twice
pub loop-piece-smaller : goal.loop-piece-smaller
loop-piece-smaller g c =
    let same = ap (λ (m : Make). m.pieces) c.next.ensures.same_make in
    let taken = c.loop-piece.station.lane.taken in
    let below = given_below c.next.new.self.make.pieces taken c.next.new.self.taken c.in-Some.piece c.next.ensures.pieces c.in-Some.ensures.some.appended in
    let more : length c.next.new.self.taken ≡ length c.loop-piece.station.lane.taken + 1 = ap length c.in-Some.ensures.some.appended ∙ omega (arith, length-append taken (c.in-Some.piece ∷ [])) in
    omega (arith, below.1)
