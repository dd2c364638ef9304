-- What the names of tags say. No public clause cites it.
use Rattle.std.specs.Prelude.{ℕ, pos, false, List, []}
use Rattle.std.specs.Ordering.{bool_cmp, int_cmp, then_cmp, on}
use Rattle.std.specs.declared.cmp.Ordering.{Ordering}
use Rattle.pp_samples.specs.declared.tag_name.TagName.{TagName}
use Rattle.pp_samples.specs.TagLines.{TagTexts, bytes_cmp}

-- what the name says
abbrev pub name_texts : TagName → TagTexts
name_texts name = record {
  key = name.key.now;
  is_number = name.is_number;
  text = name.text.now;
  num = name.num;
  unit = name.unit.now;
}

-- a tag that stands for its key
abbrev pub key_tag : List ℕ → TagTexts
key_tag key = record { key = key; is_number = false; text = []; num = pos 0; unit = [] }

-- Tags of one key by their values, as `shown_tag_cmp` orders them: texts before numbers, by text, number and unit.
abbrev pub tag_value_cmp : TagTexts → TagTexts → Ordering
tag_value_cmp =
    then_cmp (on (λ t. t.is_number) bool_cmp)
    (then_cmp (on (λ t. t.text) bytes_cmp)
    (then_cmp (on (λ t. t.num) int_cmp) (on (λ t. t.unit) bytes_cmp)))
