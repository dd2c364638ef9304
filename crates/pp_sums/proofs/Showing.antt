-- What traces and tags show adds up to the samples that the filters leave.
use Rattle.std.proofs.Common.{◌≡◌, ℕ, Bool, true, false, cond, not, ◌&&◌, ◌||◌, ℤ, pos, ◌+ℤ◌, nat_abs, List, [], ◌∷◌, ◌++◌, map, Option, Some, None, option_map, refl, sym, ap, subst, ◌∙◌}
use Rattle.std.specs.Prelude.{is_some}
use Rattle.std.specs.List.{AllByRecursion, IsDistinct, cons_option, filter, filter_map, flat_map, list_all, list_any}
use Rattle.std.specs.Option.{option_map_or}
use Rattle.std.specs.Ordering.{eq_by_cmp}
use Rattle.std.specs.Cmp.{IsTotalOrder}
use Rattle.std.specs.FinMap as finite
use Rattle.std.proofs.Math.IntN.{+ℤ_idl}
use Rattle.std.proofs.lemmas.Bool.{and_parts, or_right}
use Rattle.std.proofs.lemmas.Cmp.{on_total, then_total, back_total, nat_cmp_total}
use Rattle.std.proofs.lemmas.List.Folds.{list_any-append}
use Rattle.std.proofs.lemmas.Map.Views.{any-filter_same}
use Rattle.pp_base.proofs.Lists.{all_by}
use Rattle.pp_base.proofs.Orders.{both_equal}
use Rattle.pp_model.specs.declared.config.Config.{Config}
use Rattle.pp_model.specs.declared.frame.Frame.{Frame}
use Rattle.pp_model.specs.declared.profile.Profile.{Profile}
use Rattle.pp_model.specs.declared.profile.Sample.{Sample}
use Rattle.pp_model.specs.Finders.{Finders}
use Rattle.pp_model.specs.FrameTexts.{Written}
use Rattle.pp_stack.specs.Filters.{has_no_items}
use Rattle.pp_units.specs.Head.{facts_text}
use Rattle.pp_units.specs.Numbers.{value_text}
use Rattle.pp_units.specs.Shown.{Shown}
use Rattle.pp_tags.specs.TagFilters.{shown_labels}
use Rattle.pp_count.specs.Column.{selected}
use Rattle.pp_count.specs.Counts.{filtered_samples}
use Rattle.pp_count.specs.Seeing.{filtered_stack, keys_of_stack, seen, seen_samples, seen_with}
use Rattle.pp_count.specs.Sums.{Seen, sum_where}
use Rattle.pp_count.proofs.EachOnce.{same_ties}
use Rattle.pp_laws.specs.Figures.{has_frames, whole}
use Rattle.pp_laws.proofs.IntSums.{sum_over, sum_each, sum_none, sum_plus, sum_same, one_match}
use Rattle.pp_graph.proofs.Listed.{each_once_apart, each_once_members}
use Rattle.pp_laws.proofs.Sampling.{part, sum_where_all}
use Rattle.pp_samples.specs.Traces.{trace_label_line, trace_of, trace_separator, trace_text}
use Rattle.pp_samples.specs.TagLines.{TagTexts, all_tags, has_label_key, key_sum, key_tags, line_cmp, same_tag, sample_with_tags, some_key, some_tag, tag_sum, tagged_samples}
use Rattle.pp_samples.proofs.Ranking.{tag_cmp_ties, tag_cmp_total, tag_laws}
use Rattle.pp_samples.proofs.TagNamesLemmas.{tag_decides}
use Rattle.pp_sums.specs.Shown.{TagsAddUp, TracesAddUp, are_one, traced_text}

module _ (p : Profile) (f : Finders) (config : Config) (column : Option ℕ) where
  -- a sample with what the report sees of it
  abbrev with_own : Sample → Option (Sample × Seen Written)
  with_own s = option_map (λ (own : Seen Written). (s, own)) (seen p f config column s)

  abbrev traced_among : List Sample → List (Sample × Seen Written)
  traced_among samples = filter (λ t. has_frames t.1.keys) (filter_map with_own samples)

  text_among : (unit : Shown) (samples : List Sample) → flat_map (trace_of p f config column unit) samples ≡ flat_map (traced_text p f unit) (traced_among samples)
  text_among unit [] = refl
  text_among unit (s ∷ samples) =
      let rest : flat_map (trace_of p f config column unit) samples ≡ flat_map (traced_text p f unit) (traced_among samples) = text_among unit samples in
      let labels : List ℕ = flat_map (trace_label_line p) (shown_labels p f s.label) in
      let value : ℤ = selected column config.presentation.divide_by s in
      elim (filtered_stack p f config.filtering s) as (λ (o : Option (List Frame)).
      option_map_or (λ stack. trace_text labels (value_text value unit) (keys_of_stack p config.grouping stack)) o [] ++ flat_map (trace_of p f config column unit) samples
      ≡ flat_map (traced_text p f unit) (filter (λ t. has_frames t.1.keys)
      (cons_option (option_map (λ (own : Seen Written). (s, own)) (option_map (seen_with p config column s) o)) (filter_map with_own samples)))) [
        | None ↦ rest
        | Some stack ↦ elim (keys_of_stack p config.grouping stack) as (λ (keys : List Written).
            trace_text labels (value_text value unit) keys ++ flat_map (trace_of p f config column unit) samples
            ≡ flat_map (traced_text p f unit) (cond (has_frames keys) ((s, record { value = value; keys = keys }) ∷ traced_among samples) (traced_among samples))) [
              | [] ↦ rest
              | key ∷ keys ↦ ap (λ more. trace_text labels (value_text value unit) (key ∷ keys) ++ more) rest
            ]
      ]

  values_among : (samples : List Sample) → sum_over (λ t. t.1.value) (traced_among samples) ≡ sum_where has_frames (seen_samples p f config column samples)
  values_among [] = refl
  values_among (s ∷ samples) =
      let rest : sum_over (λ t. t.1.value) (traced_among samples) ≡ sum_where has_frames (seen_samples p f config column samples) = values_among samples in
      elim (seen p f config column s) as (λ (o : Option (Seen Written)).
      sum_over (λ t. t.1.value) (filter (λ t. has_frames t.1.keys) (cons_option (option_map (λ (own : Seen Written). (s, own)) o) (filter_map with_own samples)))
      ≡ sum_where has_frames (cons_option o (seen_samples p f config column samples))) [
        | None ↦ rest
        | Some own ↦ elim (has_frames own.keys) as (λ (b : Bool).
            sum_over (λ t. t.1.value) (cond b ((s, own) ∷ traced_among samples) (traced_among samples))
            ≡ cond b own.value (pos 0) +ℤ sum_where has_frames (seen_samples p f config column samples)) [
              | true ↦ ap (λ v. own.value +ℤ v) rest
              | false ↦ rest ∙ sym (+ℤ_idl _)
            ]
      ]

  -- the tagged samples have the values of those that are seen
  whole_among : (samples : List Sample) → whole (map (sample_with_tags p f config.presentation column) (filtered_samples p f config.filtering samples)) ≡ whole (seen_samples p f config column samples)
  whole_among [] = refl
  whole_among (s ∷ samples) =
      elim (filtered_stack p f config.filtering s) as (λ (o : Option (List Frame)).
      whole (map (sample_with_tags p f config.presentation column) (cond (is_some o) (s ∷ filtered_samples p f config.filtering samples) (filtered_samples p f config.filtering samples)))
      ≡ whole (cons_option (option_map (seen_with p config column s) o) (seen_samples p f config column samples))) [
        | None ↦ whole_among samples
        | Some stack ↦ ap (λ v. selected column config.presentation.divide_by s +ℤ v) (whole_among samples)
      ]

pub traces_add_up : TracesAddUp
traces_add_up p f config column = record {
  text = λ h. ap (λ (lines : List ℕ). facts_text h ++ lines ++ trace_separator) (text_among p f config column h.unit p.sample);
  values = values_among p f config column p.sample;
}

or_none : (b : Bool) → (b || false) ≡ b
or_none true = refl
or_none false = refl

or_twice : (a b : Bool) → (a || (a || b)) ≡ (a || b)
or_twice true b = refl
or_twice false b = refl

-- tags that are all this one are one
all_this : (tag t : TagTexts) (tags : List TagTexts) → list_all (same_tag t) tags ≡ true → list_any (same_tag tag) (t ∷ tags) ≡ same_tag tag t
all_this tag t [] all = or_none (same_tag tag t)
all_this tag t (u ∷ tags) all =
    let parts = and_parts _ _ all in
    ap (λ x. same_tag tag t || (same_tag tag x || list_any (same_tag tag) tags)) (sym ((tag_decides t u).0 parts.0))
    ∙ or_twice (same_tag tag t) (list_any (same_tag tag) tags)
    ∙ all_this tag t tags parts.1

-- each tag is one of them
all_held : (tags : List TagTexts) → AllByRecursion (λ t. list_any (same_tag t) tags ≡ true) tags
all_held [] = tt
all_held (t ∷ tags) = (
  ap (λ b. b || list_any (same_tag t) tags) (tag_laws.refl t),
  all_by (λ u. list_any (same_tag u) tags ≡ true) (λ u. list_any (same_tag u) (t ∷ tags) ≡ true) (λ u is. or_right (same_tag u t) (list_any (same_tag u) tags) is) tags (all_held tags),
)

-- one passes where the filter leaves one
some_left : {X : Type 0} (test : X → Bool) (xs : List X) → list_any test xs ≡ not (has_no_items (filter test xs))
some_left test [] = refl
some_left test (x ∷ xs) = elim (test x) as (λ b. (b || list_any test xs) ≡ not (has_no_items (cond b (x ∷ filter test xs) (filter test xs)))) [ true ↦ refl | false ↦ some_left test xs ]

module _ (key : List ℕ) where
  abbrev of_key : TagTexts → Bool
  of_key = has_label_key key

  -- a tag is among those of the key where it is one of them, and has the key
  among_own : (tag : TagTexts) (tags : List TagTexts) → list_any (same_tag tag) (filter of_key tags) ≡ (of_key tag && list_any (same_tag tag) tags)
  among_own tag tags = any-filter_same (same_tag tag) of_key (of_key tag) (λ other one. ap of_key (sym ((tag_decides tag other).0 one))) tags

  module _ (tags : List TagTexts) (apart : IsDistinct same_tag tags) (own : AllByRecursion (λ t. of_key t ≡ true) tags) where
    -- a sample's value is in the sum of the one tag that it has of the key
    one_tag : (v : ℤ) (held : List TagTexts) → are_one held ≡ true → ((t : TagTexts) → list_any (same_tag t) held ≡ true → list_any (same_tag t) tags ≡ true)
        → sum_over (λ t. cond (list_any (same_tag t) held) v (pos 0)) tags ≡ cond (not (has_no_items held)) v (pos 0)
    one_tag v [] one listed = sum_none tags
    one_tag v (t ∷ held) one listed =
        sum_same _ (λ tag. cond (same_tag tag t) v (pos 0)) tags (λ tag. ap (λ b. cond b v (pos 0)) (all_this tag t held one))
        ∙ one_match tag_laws v t tags apart (listed t (ap (λ b. b || list_any (same_tag t) held) (tag_laws.refl t)))

    of_sample : (s : Seen TagTexts) → are_one (filter of_key s.keys) ≡ true → ((t : TagTexts) → of_key t ≡ true → list_any (same_tag t) s.keys ≡ true → list_any (same_tag t) tags ≡ true)
        → sum_over (λ t. part (some_tag t) s) tags ≡ part (some_key key) s
    of_sample s one listed =
        sum_each (λ t. part (some_tag t) s) (λ t. cond (list_any (same_tag t) (filter of_key s.keys)) s.value (pos 0)) tags
        (all_by (λ t. of_key t ≡ true) _ (λ t has. ap (λ b. cond b s.value (pos 0)) (ap (λ b. b && list_any (same_tag t) s.keys) (sym has) ∙ sym (among_own t s.keys))) tags own)
        ∙ one_tag s.value (filter of_key s.keys) one (λ t held. let parts = and_parts _ _ (sym (among_own t s.keys) ∙ held) in listed t parts.0 parts.1)
        ∙ ap (λ b. cond b s.value (pos 0)) (sym (some_left of_key s.keys))

    tags_sum : (ss : List (Seen TagTexts)) → AllByRecursion (λ s. are_one (filter of_key s.keys) ≡ true) ss
        → ((t : TagTexts) → of_key t ≡ true → list_any (same_tag t) (all_tags ss) ≡ true → list_any (same_tag t) tags ≡ true)
        → sum_over (tag_sum ss) tags ≡ key_sum ss key
    tags_sum [] one listed = sum_none tags
    tags_sum (s ∷ ss) one listed =
        sum_plus (λ t. part (some_tag t) s) (tag_sum ss) tags
        ∙ (λ i. of_sample s one.0 (λ t has held. listed t has (list_any-append (same_tag t) s.keys (all_tags ss) ∙ ap (λ b. b || list_any (same_tag t) (all_tags ss)) held)) i
        +ℤ tags_sum ss one.1 (λ t has held. listed t has (list_any-append (same_tag t) s.keys (all_tags ss) ∙ or_right (list_any (same_tag t) s.keys) (list_any (same_tag t) (all_tags ss)) held)) i)

  module _ (samples : List (Seen TagTexts)) where
    line_total : IsTotalOrder (line_cmp samples)
    line_total = then_total (back_total (on_total (λ t. nat_abs (tag_sum samples t)) nat_cmp_total)) tag_cmp_total

    line_ties : finite.IsAntisymmetric (line_cmp samples)
    line_ties a b tie = tag_cmp_ties a b (both_equal _ _ tie).1

    ties : eq_by_cmp (line_cmp samples) ≡ same_tag
    ties = λ i a b. same_ties line_total line_ties same_tag tag_decides a b i

    own_apart : IsDistinct same_tag (key_tags samples key)
    own_apart = subst (λ e. IsDistinct e (key_tags samples key)) ties (each_once_apart (line_cmp samples) (filter of_key (all_tags samples)))

    own_members : (t : TagTexts) → list_any (same_tag t) (key_tags samples key) ≡ (of_key t && list_any (same_tag t) (all_tags samples))
    own_members t =
        (λ i. list_any (sym ties i t) (key_tags samples key))
        ∙ each_once_members line_total (filter of_key (all_tags samples)) t
        ∙ (λ i. list_any (ties i t) (filter of_key (all_tags samples)))
        ∙ among_own t (all_tags samples)

    own_keyed : AllByRecursion (λ t. of_key t ≡ true) (key_tags samples key)
    own_keyed =
        all_by (λ t. list_any (same_tag t) (key_tags samples key) ≡ true) (λ t. of_key t ≡ true)
        (λ t held. (and_parts _ _ (sym (own_members t) ∙ held)).0) (key_tags samples key) (all_held (key_tags samples key))

    tags_of_key : AllByRecursion (λ s. are_one (filter of_key s.keys) ≡ true) samples → sum_over (tag_sum samples) (key_tags samples key) ≡ key_sum samples key
    tags_of_key one =
        tags_sum (key_tags samples key) own_apart own_keyed samples one
        (λ t has held. own_members t ∙ (λ i. has i && held i))

pub tags_add_up : TagsAddUp
tags_add_up p f config column =
    let samples : List (Seen TagTexts) = tagged_samples p f config column in
    let all : whole samples ≡ whole (seen_samples p f config column p.sample) = whole_among p f config column p.sample in
    record {
      all = all;
      keys = λ key shared. sum_where_all (some_key key) samples shared ∙ all;
      tags = λ key one. tags_of_key key samples one;
    }
