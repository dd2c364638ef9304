use Rattle.std.proofs.Common.{◌≡◌, drop}
use Rattle.std.specs.Cmp.Lexicographic.{pointwise}
use Rattle.pp_share.specs.Header.{type_text}
use Rattle.pp_merge.specs.Merge.{same_type}
use Rattle.pp_merge.proofs.compatible.are_same_types.Given as goal

-- the types that are left decide
abbrev pub invariant-loop-place : goal.invariant-loop-place
invariant-loop-place l =
    pointwise (λ a b. same_type (type_text l.p a) (type_text l.q b)) (drop l.place l.types) (drop l.place l.others)
    ≡ pointwise (λ a b. same_type (type_text l.p a) (type_text l.q b)) l.types l.others
