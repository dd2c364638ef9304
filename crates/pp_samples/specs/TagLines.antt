-- The tags report: for each key of the labels that are shown its values, with sums over the samples that have them.
use Rattle.std.specs.Prelude.{ℕ, ℤ, pos, nat_abs, Bool, true, false, ◌&&◌, List, [], ◌++◌, map, codes, bytes_eq, if◌then◌else◌, Option}
use Rattle.std.specs.List.{flat_map, filter, list_any, sum_by}
use Rattle.std.specs.Bool.{beq}
use Rattle.std.specs.Ordering.{nat_cmp, int_cmp, int_eq, bool_cmp, then_cmp, on}
use Rattle.std.specs.Cmp.Lexicographic.{slice_cmp}
use Rattle.std.specs.declared.cmp.Ordering.{Ordering}
use Rattle.pp_model.specs.declared.config.Config.{Config}
use Rattle.pp_model.specs.declared.profile.Label.{Label}
use Rattle.pp_model.specs.declared.profile.Sample.{Sample}
use Rattle.pp_model.specs.declared.profile.Profile.{Profile}
use Rattle.pp_model.specs.declared.presentation.Presentation.{Presentation}
use Rattle.pp_model.specs.Finders.{Finders}
use Rattle.pp_units.specs.Shown.{Shown}
use Rattle.pp_units.specs.Numbers.{value_text, percent_text}
use Rattle.pp_units.specs.Rows.{value_column}
use Rattle.pp_units.specs.Head.{Facts}
use Rattle.pp_tags.specs.Labels.{has_text, key_text, label_value_text as label_text, number_unit}
use Rattle.pp_tags.specs.TagFilters.{shown_labels}
use Rattle.pp_count.specs.Column.{selected}
use Rattle.pp_count.specs.Counts.{filtered_samples}
use Rattle.pp_count.specs.Sums.{Seen, sum_where}
use Rattle.pp_count.specs.Ranks.{by_size, each_once}
use Rattle.pp_samples.specs.Traces.{own_value}

-- What a label says: its key, and its text, or its number with the unit. A text has
-- neither number nor unit, and a number no text.
pub record TagTexts : Type 0 where
  pub key : List ℕ
  pub is_number : Bool
  pub text : List ℕ
  pub num : ℤ
  pub unit : List ℕ

-- what the label says
abbrev pub tag_texts : Profile → Label → TagTexts
tag_texts p label =
    if has_text label
    then record {
      key = key_text p label;
      is_number = false;
      text = label_text p label;
      num = pos 0;
      unit = [];
    }
    else record {
      key = key_text p label;
      is_number = true;
      text = [];
      num = label.num;
      unit = number_unit p label;
    }

-- texts by their bytes
abbrev pub bytes_cmp : List ℕ → List ℕ → Ordering
bytes_cmp = slice_cmp nat_cmp

-- Tags by their keys, and by their values: texts before numbers, texts by their bytes, numbers from the least on, and
-- equal ones by the bytes of their units.
abbrev pub shown_tag_cmp : TagTexts → TagTexts → Ordering
shown_tag_cmp =
    then_cmp
    (then_cmp
    (then_cmp (then_cmp (on (λ t. t.key) bytes_cmp) (on (λ t. t.is_number) bool_cmp))
    (on (λ t. t.text) bytes_cmp))
    (on (λ t. t.num) int_cmp))
    (on (λ t. t.unit) bytes_cmp)

-- the sample with its selected value and the tags that are shown of it
abbrev pub sample_with_tags : Profile → Finders → Presentation → Option ℕ → Sample → Seen TagTexts
sample_with_tags p f presentation column s = record {
  value = selected column presentation.divide_by s;
  keys = map (tag_texts p) (shown_labels p f s.label);
}

-- the samples that the filters leave, with their values and the tags that are shown
abbrev pub tagged_samples : Profile → Finders → Config → Option ℕ → List (Seen TagTexts)
tagged_samples p f config column =
    map (sample_with_tags p f config.presentation column) (filtered_samples p f config.filtering p.sample)

-- the tag has the key
abbrev pub has_label_key : List ℕ → TagTexts → Bool
has_label_key key tag = bytes_eq key tag.key

-- one of the tags has the key
abbrev pub some_key : List ℕ → List TagTexts → Bool
some_key key tags = list_any (has_label_key key) tags

-- two tags are one where all their parts are equal
abbrev pub same_tag : TagTexts → TagTexts → Bool
same_tag a b =
    bytes_eq a.key b.key
    && (beq a.is_number b.is_number
    && (bytes_eq a.text b.text && (int_eq a.num b.num && bytes_eq a.unit b.unit)))

-- the tag is one of these
abbrev pub some_tag : TagTexts → List TagTexts → Bool
some_tag tag tags = list_any (same_tag tag) tags

module _ (samples : List (Seen TagTexts)) where
  -- the tags of all samples, as often as they stand there
  abbrev pub all_tags : List TagTexts
  all_tags = flat_map (λ s. s.keys) samples

  -- the keys of all samples, each once, by their bytes
  abbrev pub all_keys : List (List ℕ)
  all_keys = each_once bytes_cmp (map (λ tag. tag.key) all_tags)

  -- the sum over the samples that have the key, each sample once
  abbrev pub key_sum : List ℕ → ℤ
  key_sum key = sum_where (some_key key) samples

  -- the absolute values of the samples that have the key, added up
  abbrev pub key_size : List ℕ → ℕ
  key_size key = sum_by (λ s. nat_abs s.value) (filter (λ s. some_key key s.keys) samples)

  -- the sum over the samples that have the tag, each sample once
  abbrev pub tag_sum : TagTexts → ℤ
  tag_sum tag = sum_where (some_tag tag) samples

  -- the order of the lines of a key: the greater absolute sum first, then by value
  abbrev pub line_cmp : TagTexts → TagTexts → Ordering
  line_cmp = then_cmp (by_size tag_sum) shown_tag_cmp

  -- the tags of the key, each once, in the order of their lines
  abbrev pub key_tags : List ℕ → List TagTexts
  key_tags key = each_once line_cmp (filter (has_label_key key) all_tags)

-- what is printed of a value
abbrev pub tag_value : TagTexts → List ℕ
tag_value tag = if tag.is_number then own_value tag.num tag.unit else tag.text

-- the line of a value with this sum, of a key of this size
abbrev pub value_line : Shown → ℕ → ℤ → TagTexts → List ℕ
value_line unit size sum tag =
    value_column unit sum ++ codes " (" ++ percent_text sum size ++ codes "): " ++ tag_value tag
    ++ codes "\n"

-- the first line of a key with this sum
abbrev pub key_line : Shown → List ℕ → ℤ → List ℕ
key_line unit key sum =
    codes " " ++ key ++ codes ": Total " ++ value_text sum unit ++ codes "\n"

-- the lines of a key
abbrev pub key_lines : Shown → List (Seen TagTexts) → List ℕ → List ℕ
key_lines unit samples key =
    key_line unit key (key_sum samples key)
    ++ flat_map (λ tag. value_line unit (key_size samples key) (tag_sum samples tag) tag)
    (key_tags samples key)
    ++ codes "\n"

-- The text of the tags report. Of the head it has only the unit.
abbrev pub tags_text : Profile → Finders → Config → Option ℕ → Facts → List ℕ
tags_text p f config column h =
    flat_map (key_lines h.unit (tagged_samples p f config column))
    (all_keys (tagged_samples p f config column))
