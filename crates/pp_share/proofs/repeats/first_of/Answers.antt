use Rattle.std.proofs.Common.{◌≡◌, ◌-◌, ◌⊎◌, ℕ, false, List, inl, inr, get_or, sym, ap, ◌∙◌, arith}
use Rattle.std.specs.Ordering.{is_eq}
use Rattle.std.proofs.lemmas.List.{get_or_default}
use Rattle.pp_share.specs.declared.repeats.Placed.{Placed}
use Rattle.pp_share.specs.StackOrder.{kind_cmp}
use Rattle.pp_share.proofs.RepeatLemmas.{goes_on, starts}
use Rattle.pp_share.proofs.StackOrderLemmas.{kind_total}
use Rattle.pp_share.proofs.repeats.first_of.Goals as goal
use Rattle.pp_share.proofs.repeats.first_of.Goals.{else-index-gt0-via-then-index-gt0+else-is_kind, else-index-gt0-via-else-index-gt0}

-- the kind goes on
pub returns-then-is_kind : goal.returns-then-is_kind
returns-then-is_kind c =
    goes_on (kind_cmp c.args.kind.now) (kind_total c.args.kind.now) c.args.placed.now c.args.index c.args.before c.index-placed-index.result c.index-placed-index-then-index-gt0.result c.requires.within
    c.index-placed-index.is c.index-placed-index-then-index-gt0.is (sym c.is_kind.ensures ∙ c.if-is_kind.true) (c.requires.before c.if-index-gt0.true)

-- another begins
pub returns : goal.returns
returns c =
    let order = kind_cmp c.args.kind.now in
    let placed : List Placed = c.args.placed.now in
    let index : ℕ = c.args.index in
    let y : Placed = c.index-placed-index-2.result in
    starts order (kind_total c.args.kind.now) placed c.requires.sorted index y c.requires.within
    (elim c.else-index-gt0.branch as (λ _. (index ≡ 0) ⊎ ((x : Placed) × (x ≡ get_or placed (index - 1) x) × (is_eq (order x (get_or placed index y)) ≡ false))) [
      | else-index-gt0-via-then-index-gt0+else-is_kind w ↦ inr (
        w.index-placed-index.result,
        w.index-placed-index.is,
        ap (λ (p : Placed). is_eq (order w.index-placed-index.result p))
            (get_or_default placed index y w.index-placed-index-then-index-gt0.result c.requires.within ∙ sym w.index-placed-index-then-index-gt0.is)
            ∙ sym w.is_kind.ensures ∙ w.if-is_kind.false,
      )
      | else-index-gt0-via-else-index-gt0 w ↦ inl (omega (arith, w.if-index-gt0.false))
    ])
