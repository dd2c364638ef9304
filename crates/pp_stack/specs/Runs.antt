-- Parts of a stack that a test of its frames tells. A stack is leaf first, so its last frame is the root.
use Rattle.std.specs.Prelude.{ℕ, ◌-◌, ◌==◌, Bool, true, false, not, List, length, take, drop, position, Option, Some, None, if◌then◌else◌}
use Rattle.std.specs.List.{suffix_len}
use Rattle.std.specs.Option.{option_map_or}

-- how many frames there are up to and with the last that passes, 0 where none does
abbrev pub through_last : {X : Type 0} → (X → Bool) → List X → ℕ
through_last test stack = length stack - suffix_len (λ x. not (test x)) stack

-- the frames up to and with the last that passes, where one does
abbrev pub up_to_last : {X : Type 0} → (X → Bool) → List X → Option (List X)
up_to_last test stack =
    if through_last test stack == 0 then None else Some (take (through_last test stack) stack)

-- the frames from the first that passes on, all where none does
abbrev pub from_first : {X : Type 0} → (X → Bool) → List X → List X
from_first test stack = option_map_or (λ first. drop first stack) (position test stack) stack

-- how many frames pruning takes off at the leaf: up to and with the last that is prunable, of those up to the last
-- that isn't
abbrev pub pruned_len : {X : Type 0} → (X → Bool) → List X → ℕ
pruned_len prunable stack =
    through_last prunable (take (through_last (λ x. not (prunable x)) stack) stack)

-- Pruning. From the root on, frames stay up to the first that isn't prunable. Below that one the first prunable frame
-- goes, with all frames below it. A stack whose frames are all prunable stays whole.
abbrev pub pruned_frames : {X : Type 0} → (X → Bool) → List X → List X
pruned_frames prunable stack = drop (pruned_len prunable stack) stack

-- the answer, or its opposite where it is wanted that a test fails
abbrev pub as_wanted : Bool → Bool → Bool
as_wanted true answer = answer
as_wanted false answer = not answer

-- the stack, where the sample is kept
abbrev pub kept_if : {A : Type 0} → Bool → A → Option A
kept_if true stack = Some stack
kept_if false stack = None
