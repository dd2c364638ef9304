-- The lanes of a new make are all its lanes.
use Rattle.std.proofs.Common.{◌≡◌, ℕ, ◌<◌, List, [], ◌∷◌, length, sym, ap, ◌∙◌, arith}
use Rattle.pp_steal.specs.declared.deal.Deal.{Deal}
use Rattle.pp_steal.specs.Lanes.{Standing, Make, IsNewMake}
use Rattle.pp_steal.specs.Closing.{IsWholeMake}

pub new_whole : (deal : Deal) (pieces n : ℕ) (lanes : List Standing) → 0 < n → IsNewMake deal pieces n lanes → IsWholeMake lanes
new_whole deal pieces n [] lt m = absurd (let a = m.many in omega arith)
new_whole deal pieces n (s ∷ lanes) lt m =
    let first : s.make ≡ m.make = (m.each 0 s (let a = m.many in omega arith)).of in
    record {
      some = omega arith;
      all = record {
        many = m.many ∙ sym m.deques ∙ ap (λ (k : Make). length k.deques) (sym first);
        each = λ k t below. let h = m.each k t below in record { of = h.of ∙ sym first; at = h.at };
      };
    }
