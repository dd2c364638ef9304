use Rattle.std.proofs.Common.{sym, ap, arith, ◌<◌, ◌≡◌, ◌++◌, ◌∷◌, [], ℕ, List, true, length, get_or, not, false, ◌∙◌}
use Rattle.pp_steal.proofs.Marking.{filter_room, any_mark}
use Rattle.pp_steal.proofs.Making.{filter_dealt, filter_passed}
use Rattle.pp_steal.proofs.given.unmarked.Goals as goal
use Rattle.pp_steal.proofs.given.unmarked.Goals.{then-not-index, else-not-index}

pub push_reserved-requires : goal.push_reserved-requires
push_reserved-requires c = let r = filter_room (λ x. not (get_or c.args.marks.now.items x false)) c.loop-piece.piece in let e = ap length c.loop-piece.invariant.0 in let m = c.loop-piece.invariant.1 in omega arith

pub loop-piece-preserved : goal.loop-piece-preserved
loop-piece-preserved c =
    let n : ℕ = c.loop-piece.piece in
    let marks = c.args.marks.now.items in
    let p = λ (x : ℕ). not (get_or c.args.marks.now.items x false) in
    let lt : n < length c.args.marks.now.items = let r = c.requires.marks in omega arith in
    let at : c.index.result.now ≡ get_or marks n false = c.index.ensures ∙ any_mark marks n c.index.result.now false lt in
    elim c.if-not-index.branch [
      | then-not-index w ↦ let e : p n ≡ true = ap not (sym at ∙ w.if-not-index.true) in
          (ap (λ v. v.items) w.left-is ∙ w.push_reserved.ensures.items ∙ ap (λ (l : List ℕ). l ++ n ∷ []) c.loop-piece.invariant.0 ∙ sym (filter_dealt p n e), (let k = w.push_reserved.ensures.capacity in let m = c.loop-piece.invariant.1 in rw (w.left-is, k) m))
      | else-not-index w ↦ let e : p n ≡ false = ap not (sym at ∙ w.if-not-index.false) in
          (ap (λ v. v.items) w.left-is ∙ c.loop-piece.invariant.0 ∙ sym (filter_passed p n e), rw w.left-is c.loop-piece.invariant.1)
    ]
