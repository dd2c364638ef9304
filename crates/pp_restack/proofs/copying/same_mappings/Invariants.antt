use Rattle.std.proofs.Common.{◌≡◌, ◌<◌, ◌^◌, take}
use Rattle.std.specs.List.{AllByRecursion}
use Rattle.pp_restack.proofs.copying.same_mappings.Given as goal

-- the mappings so far are there, and each start was read
abbrev pub invariant-loop-m : goal.invariant-loop-m
invariant-loop-m l = record {
  same : l.list ≡ take l.m-index l.mappings;
  starts : AllByRecursion (λ m. m.start < 2 ^ 64) (take l.m-index l.mappings);
}
