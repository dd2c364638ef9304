-- Worked orders of asking, over plain texts that are found where they stand.
use Rattle.std.proofs.Common.{◌≡◌, true, false, [], ◌∷◌, refl}
use Rattle.std.specs.Prelude.{pos, codes, Option, Some, None, Err}
use Rattle.pp_base.specs.FileMap.{FileMap}
use Rattle.pp_base.specs.Judges.{occurs_in}
use Rattle.pp_model.specs.declared.filtering.Filtering.{Filtering}
use Rattle.pp_model.specs.declared.profile.Profile.{Profile}
use Rattle.pp_model.specs.declared.verdicts.Slot.TheVariants.{Hide}
use Rattle.pp_model.specs.Defaults.{standard_filtering}
use Rattle.pp_tags.specs.declared.tag_filter.TagFilter.{TagFilter}
use Rattle.pp_desk.specs.Course.{course}
use Rattle.pp_desk.specs.Script as scripts
use Rattle.pp_desk.specs.Asking.{◌>>=◌}
use Rattle.pp_pattern.specs.Patterns.{judge_pattern, judge_option, judge_part, judge_parts}
use Rattle.pp_pattern.specs.Report.{judge_with, judge_frames, judge_tags, judge_filter, judge_names, slot_refused}
use Rattle.pp_pattern.specs.Load.{judge_load}

-- a profile of no more than texts, the third of which is drop_frames
abbrev p : Profile
p = record {
  sample_type = [];
  sample = [];
  mapping = [];
  location = [];
  function = [];
  text = [] ∷ codes "work" ∷ codes "malloc" ∷ [];
  drop_frames = pos 2;
  keep_frames = pos 0;
  time_nanos = pos 0;
  duration_nanos = pos 0;
  period_type = record { kind = pos 0; unit = pos 0 };
  period = pos 0;
  comment = [];
  default_sample_type = pos 0;
  doc_url = pos 0;
}

-- patterns in four places
abbrev filtering : Filtering
filtering = record standard_filtering {
  focus = codes "f";
  hide = codes "h";
  prune_from = codes "p";
  taghide = codes "t";
}

-- parts of tagfocus, one of them empty
abbrev filter : Option TagFilter
filter = Some (record { name = []; range = None; parts = codes "x" ∷ [] ∷ codes "y" ∷ [] })

-- the patterns in the order of asking
in_order : (files : FileMap) → (course (judge_with occurs_in filtering (Some (codes "o")) p filter None) files [] [] []).asked
    ≡ codes "f" ∷ codes "h" ∷ codes "x" ∷ codes "y" ∷ codes "p" ∷ codes "t" ∷ codes "o" ∷ []
unfolding ◌>>=◌ scripts.◌>>=◌ judge_with judge_frames judge_tags judge_filter judge_names judge_option judge_parts judge_part judge_pattern
in_order files = refl

-- after a refusal nothing is asked, and its option is named
refused : (files : FileMap) → (course (judge_with occurs_in filtering None p filter None) files [] [] ((codes "f", true) ∷ (codes "h", false) ∷ [])).value ≡ Err (slot_refused Hide)
unfolding ◌>>=◌ scripts.◌>>=◌ judge_with judge_frames judge_tags judge_filter judge_names judge_option judge_parts judge_part judge_pattern
refused files = refl

no_more : (files : FileMap) → (course (judge_with occurs_in filtering None p filter None) files [] [] ((codes "f", true) ∷ (codes "h", false) ∷ [])).asked ≡ codes "f" ∷ codes "h" ∷ []
unfolding ◌>>=◌ scripts.◌>>=◌ judge_with judge_frames judge_tags judge_filter judge_names judge_option judge_parts judge_part judge_pattern
no_more files = refl

-- a profile's own pattern is one of whole names
whole_names : (files : FileMap) → (course (judge_load occurs_in p) files [] [] []).asked ≡ codes "^(?:malloc)$" ∷ []
unfolding ◌>>=◌ scripts.◌>>=◌ judge_load judge_option judge_pattern
whole_names files = refl
