use Rattle.std.proofs.Common.{◌≡◌, ◌++◌, take}
use Rattle.std.specs.List.{flat_map}
use Rattle.pp_samples.specs.Comments.{comment_line}
use Rattle.pp_samples.proofs.comments.put_comments.Given as goal

abbrev pub invariant-loop-comment : goal.invariant-loop-comment
invariant-loop-comment l = l.lines ≡ l.initial.lines ++ flat_map (comment_line l.p) (take l.comment-index l.comment-items)
