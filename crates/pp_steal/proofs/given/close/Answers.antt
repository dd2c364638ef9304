use Rattle.std.proofs.Common.{sym, ap, subst, arith, ◌∙◌, ◌≡◌, ◌+◌, ℕ, List, length, get_or, not, false}
use Rattle.std.proofs.lemmas.List.{length-replicate}
use Rattle.pp_steal.specs.Pool.{count_in, Rises}
use Rattle.pp_steal.specs.Dealing.{upto}
use Rattle.pp_steal.specs.Closing.{times_in, first_make}
use Rattle.pp_steal.proofs.Marking.{rises_left, all_once}
use Rattle.pp_steal.proofs.given.close.Goals as goal

pub returns-clause-left : goal.returns-clause-left
returns-clause-left c = subst Rises (sym (c.from_vec-2.ensures ∙ c.unmarked-left.ensures)) (rises_left (λ (x : ℕ). not (get_or c.mark.new.marks.items x false)) c.settle_all-pieces.result.pieces)

pub returns-clause-once : goal.returns-clause-once
returns-clause-once c =
    let g = c.gather.ensures in
    let s = c.settle_all-pieces in
    let old : length s.result.marks.items ≡ s.result.pieces = ap (λ v. length v.items) s.ensures.marks ∙ ap length g.marks ∙ length-replicate c.gather.result.pieces false ∙ sym s.ensures.pieces in
    let count : length c.mark.new.marks.items ≡ s.result.pieces = c.mark.ensures.count ∙ old in
    let all = all_once s.result.pieces c.mark.new.marks.items s.result.taken.items count s.ensures.once (λ x lt. c.mark.ensures.marks x (omega arith)) in
    let made = s.ensures.pieces ∙ g.pieces ∙ ap (λ l. (first_make l).pieces) c.into_vec.ensures in
    λ x. ap (λ l. times_in x l + count_in x c.from_vec-2.result) c.from_vec.ensures ∙ ap (λ (l : List ℕ). times_in x s.result.taken.items + count_in x l) (c.from_vec-2.ensures ∙ c.unmarked-left.ensures) ∙ all x ∙ ap (λ (n : ℕ). count_in x (upto n)) made
