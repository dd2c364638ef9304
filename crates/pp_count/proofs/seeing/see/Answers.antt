use Rattle.pp_count.proofs.seeing.see.Goals as goal

pub tag_kept-requires-clause-focus_tags : goal.tag_kept-requires-clause-focus_tags
tag_kept-requires-clause-focus_tags c =
    c.requires.sound.filters.focus_tags

pub tag_kept-requires-clause-ignore_tags : goal.tag_kept-requires-clause-ignore_tags
tag_kept-requires-clause-ignore_tags c =
    c.requires.sound.filters.ignore_tags
