use Rattle.std.proofs.Common.{◌≡◌, ◌++◌, take}
use Rattle.std.specs.List.{flat_map}
use Rattle.pp_dump.specs.Raw.{raw_comment}
use Rattle.pp_dump.proofs.raw.put_comments.Given as goal

abbrev pub invariant-loop-comment : goal.invariant-loop-comment
invariant-loop-comment l = l.lines ≡ l.initial.lines ++ flat_map (raw_comment l.p) (take l.comment-index l.comment-items)
