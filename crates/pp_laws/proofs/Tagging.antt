-- Which tag filters a sample passes, told from what its labels say.
use Rattle.std.proofs.Common.{◌≡◌, ℕ, zero, suc, Bool, true, false, not, ◌&&◌, ◌||◌, ℤ, pos, negsuc, nat_abs, List, [], ◌∷◌, length, map, Option, Some, None, refl, sym, ap, ◌∙◌, arith}
use Rattle.std.specs.Prelude.{bytes_eq}
use Rattle.std.specs.List.{AllByRecursion, list_any, list_all}
use Rattle.std.specs.Option.{option_map_or}
use Rattle.std.specs.Ordering.{int_eq}
use Rattle.std.proofs.lemmas.Bool.{and_parts, ltb-true, false≢true}
use Rattle.std.proofs.lemmas.Bool.Decides.{Decides-int_eq}
use Rattle.pp_model.specs.declared.config.Config.{Config}
use Rattle.pp_model.specs.declared.profile.Label.{Label}
use Rattle.pp_model.specs.declared.profile.Profile.{Profile}
use Rattle.pp_model.specs.declared.profile.Sample.{Sample}
use Rattle.pp_model.specs.Finders.{Finder, Finders, TagFinder, TagFinders}
use Rattle.pp_model.specs.Lookup.{text_of, text_at}
use Rattle.pp_model.specs.Rules.{NoRuleFails, IsCompact, label_has_texts, is_text}
use Rattle.pp_stack.specs.Filters.{has_no_items}
use Rattle.pp_stack.proofs.ToldLemmas.{list_any-map}
use Rattle.pp_units.specs.declared.range.Range.{Range}
use Rattle.pp_units.specs.Ranges.{in_range}
use Rattle.pp_tags.specs.declared.tag_filter.TagFilter.{TagFilter}
use Rattle.pp_tags.specs.Labels.{has_text, unit_or, number_unit}
use Rattle.pp_tags.specs.TagFilters.{has_name, selects_range, selects_some, selects_parts, selects_or, filter_in_force}
use Rattle.pp_share.specs.Described.{LabelText, label_text}
use Rattle.pp_count.specs.Seeing.{passes_tags}

-- the label has a text
abbrev pub has_told : LabelText → Bool
has_told label = not (has_no_items label.text)

abbrev pub named_told : List ℕ → LabelText → Bool
named_told [] label = true
named_told (b ∷ bs) label = bytes_eq label.key (b ∷ bs)

abbrev pub range_told : List ℕ → Range → List LabelText → Bool
range_told name range labels =
    list_any (λ label. not (has_told label) && named_told name label && in_range range label.num (unit_or label.key label.unit)) labels

abbrev pub each_told : List TagFinder → List LabelText → Bool
each_told parts labels = list_all (λ find. list_any (λ label. has_told label && find label.key label.text) labels) parts

abbrev pub some_told : List ℕ → List Finder → List LabelText → Bool
some_told name parts labels =
    list_any (λ label. has_told label && bytes_eq label.key name && list_any (λ find. find label.text) parts) labels

abbrev pub parts_told : List ℕ → TagFinders → List LabelText → Bool
parts_told [] parts labels = each_told parts.tags labels
parts_told (b ∷ bs) parts labels = some_told (b ∷ bs) parts.texts labels

abbrev pub selects_told : Bool → Option TagFilter → TagFinders → List LabelText → Bool
selects_told other filter parts labels =
    option_map_or (λ f. option_map_or (λ range. range_told f.name range labels) f.range (parts_told f.name parts labels)) filter other

-- the labels pass both tag filters
abbrev pub tags_told : Finders → Config → List LabelText → Bool
tags_told f config labels =
    selects_told true (filter_in_force config.filtering.tagfocus) f.tagfocus labels
    && not (selects_told false (filter_in_force config.filtering.tagignore) f.tagignore labels)

list_any_each : {X : Type 0} (g h : X → Bool) (xs : List X) → AllByRecursion (λ x. g x ≡ h x) xs → list_any g xs ≡ list_any h xs
list_any_each g h [] all = refl
list_any_each g h (x ∷ xs) all = λ i. all.0 i || list_any_each g h xs all.1 i

all_into : {X : Type 0} (P Q : X → Type 0) → ((x : X) → P x → Q x) → (xs : List X) → AllByRecursion P xs → AllByRecursion Q xs
all_into P Q each [] all = tt
all_into P Q each (x ∷ xs) all = (each x all.0, all_into P Q each xs all.1)

module _ (p : Profile) where
  -- what the label says
  abbrev said : Label → LabelText
  said = label_text (text_of p)

  -- a label has a text where its text isn't empty
  abbrev pub TellsText : Label → Type 0
  TellsText label = has_text label ≡ has_told (said label)

  named_is : (name : List ℕ) (label : Label) → has_name p name label ≡ named_told name (said label)
  named_is [] label = refl
  named_is (b ∷ bs) label = refl

  module _ (s : Sample) (tells : AllByRecursion TellsText s.label) where
    -- a question to labels is one to what they say
    asked : (g : Label → Bool) (h : LabelText → Bool) → ((label : Label) → TellsText label → g label ≡ h (said label)) → list_any g s.label ≡ list_any h (map said s.label)
    asked g h each = list_any_each g (λ label. h (said label)) s.label (all_into TellsText (λ label. g label ≡ h (said label)) each s.label tells) ∙ sym (list_any-map said h s.label)

    range_is : (name : List ℕ) (range : Range) → selects_range p name range s ≡ range_told name range (map said s.label)
    range_is name range = asked (λ label. not (has_text label) && has_name p name label && in_range range label.num (number_unit p label))
        (λ label. not (has_told label) && named_told name label && in_range range label.num (unit_or label.key label.unit))
        (λ label is i. not (is i) && named_is name label i && in_range range label.num (number_unit p label))

    one_is : (find : TagFinder) → list_any (λ label. has_text label && find (text_of p label.key) (text_of p label.text)) s.label
        ≡ list_any (λ label. has_told label && find label.key label.text) (map said s.label)
    one_is find = asked (λ label. has_text label && find (text_of p label.key) (text_of p label.text))
        (λ label. has_told label && find label.key label.text)
        (λ label is i. is i && find (text_of p label.key) (text_of p label.text))

    some_is : (name : List ℕ) (parts : List Finder) → selects_some p name parts s ≡ some_told name parts (map said s.label)
    some_is name parts = asked (λ label. has_text label && bytes_eq (text_of p label.key) name && list_any (λ find. find (text_of p label.text)) parts)
        (λ label. has_told label && bytes_eq label.key name && list_any (λ find. find label.text) parts)
        (λ label is i. is i && bytes_eq (text_of p label.key) name && list_any (λ find. find (text_of p label.text)) parts)

    parts_is : (name : List ℕ) (parts : TagFinders) → selects_parts p name parts s ≡ parts_told name parts (map said s.label)
    parts_is [] parts = λ i. list_all (λ find. one_is find i) parts.tags
    parts_is (b ∷ bs) parts = some_is (b ∷ bs) parts.texts

    selects_is : (other : Bool) (filter : Option TagFilter) (parts : TagFinders) → selects_or other p filter parts s ≡ selects_told other filter parts (map said s.label)
    selects_is other None parts = refl
    selects_is other (Some f) parts = λ i. option_map_or (λ range. range_is f.name range i) f.range (parts_is f.name parts i)

    -- Tag filters are passed by what the labels say.
    pub tags_is : (f : Finders) (config : Config) → passes_tags p f config.filtering s ≡ tags_told f config (map said s.label)
    tags_is f config = λ i. selects_is true (filter_in_force config.filtering.tagfocus) f.tagfocus i && not (selects_is false (filter_in_force config.filtering.tagignore) f.tagignore i)

nonzero : (k : ℕ) → int_eq (pos (suc k)) (pos 0) ≡ false
nonzero k = by (int_eq (pos (suc k)) (pos 0)) refl
  where
    by : (b : Bool) → int_eq (pos (suc k)) (pos 0) ≡ b → b ≡ false
    by true is = let same : suc k ≡ 0 = ap nat_abs ((Decides-int_eq (pos (suc k)) (pos 0)).0 is) in absurd (omega (arith, same))
    by false is = refl

not_empty : (text : List ℕ) → (text ≡ [] → ⊥) → has_no_items text ≡ false
not_empty [] other = absurd (other refl)
not_empty (b ∷ bs) other = refl

-- In a valid profile in which no text stands twice, only text 0 is empty.
module _ (p : Profile) (valid : NoRuleFails p) (compact : IsCompact p) (none : text_at p 0 ≡ []) where
  text_tells : (label : Label) → label_has_texts p label ≡ true → TellsText p label
  text_tells label ok = by label.text (and_parts _ _ (and_parts _ _ ok).0).1
    where
      by : (index : ℤ) → is_text p index ≡ true → not (int_eq index (pos 0)) ≡ not (has_no_items (text_of p index))
      by (pos zero) ok = ap (λ t. not (has_no_items t)) (sym none)
      by (pos (suc k)) ok = ap not (nonzero k) ∙ ap not (sym (not_empty (text_at p (suc k)) (λ is. compact.texts 0 (suc k) [] (omega arith) (ltb-true (suc k) (length p.text) ok) (none ∙ sym is))))
      by (negsuc k) ok = absurd (false≢true ok)

  pub labels_tell : (labels : List Label) → list_all (label_has_texts p) labels ≡ true → AllByRecursion (TellsText p) labels
  labels_tell [] ok = tt
  labels_tell (label ∷ labels) ok = let parts = and_parts _ _ ok in (text_tells label parts.0, labels_tell labels parts.1)
