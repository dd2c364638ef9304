-- The profile that a report is made of: the loaded one, or the same with the frames from labels that are asked for.
use Rattle.std.specs.Prelude.{ℕ, ◌==◌, ◌&&◌, List, length, if◌then◌else◌}
use Rattle.pp_model.specs.declared.loaded.Loaded.{Loaded}
use Rattle.pp_model.specs.declared.presentation.Presentation.{Presentation}
use Rattle.pp_pseudo.specs.KeyList.{key_list}
use Rattle.pp_pseudo.specs.WithTags.{tagged}

-- the profile with the frames of these keys at the root and at the leaf, where any is named
abbrev pub framed_by : Loaded → List (List ℕ) → List (List ℕ) → Loaded
framed_by l roots leaves =
    if length roots == 0 && length leaves == 0 then l else tagged l roots leaves

-- the profile with the frames that the configuration asks for
abbrev pub framed_for : Loaded → Presentation → Loaded
framed_for l presentation =
    framed_by l (key_list presentation.tagroot) (key_list presentation.tagleaf)
