use Rattle.std.proofs.Common.{◌≡◌, map, take}
use Rattle.pp_tags.specs.TagPairs.{tag_text}
use Rattle.pp_pattern.proofs.subjects.tag_texts.Given as goal

-- the texts of the tags so far
abbrev pub invariant-loop-tag : goal.invariant-loop-tag
invariant-loop-tag l = l.texts ≡ map (tag_text l.p) (take l.tag-index l.tags)
