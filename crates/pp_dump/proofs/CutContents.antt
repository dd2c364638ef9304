-- What a profile says whose samples and locations were cut is what the saved profile says.
use Rattle.std.proofs.Common.{◌≡◌, ℕ, ℤ, List, [], ◌∷◌, ◌++◌, map, Option, Some, None, option_map, refl, sym, ap, subst, ◌∙◌}
use Rattle.std.specs.List.{AllByRecursion, flat_map, filter_map, cons_option}
use Rattle.std.specs.Option.{option_map_or}
use Rattle.std.proofs.lemmas.List.{map-append}
use Rattle.pp_model.specs.declared.frame.Frame.{Frame}
use Rattle.pp_model.specs.declared.loaded.Loaded.{Loaded}
use Rattle.pp_model.specs.declared.profile.Location.{Location}
use Rattle.pp_model.specs.declared.profile.Sample.{Sample}
use Rattle.pp_model.specs.declared.profile.Profile.{Profile}
use Rattle.pp_model.specs.declared.verdicts.Verdicts.{Verdicts}
use Rattle.pp_model.specs.declared.filtering.Filtering.{Filtering}
use Rattle.pp_model.specs.Finders.{Finders, HoldsFinders}
use Rattle.pp_model.specs.Lookup.{text_of}
use Rattle.pp_model.specs.Rules.{NoRuleFails, IsCompact}
use Rattle.pp_tags.specs.TagFilters.{shown_labels}
use Rattle.pp_count.specs.Counts.{samples_at}
use Rattle.pp_count.specs.Seeing.{filtered_stack, filtered_from}
use Rattle.pp_share.specs.Described.{SampleText, label_text}
use Rattle.pp_merge.specs.Merge.{contents, merged}
use Rattle.pp_merge.proofs.MergeLemmas.{fits_contents}
use Rattle.pp_merge.proofs.WrittenCompact.{compact_written}
use Rattle.pp_merge.proofs.WrittenValid.{valid_written}
use Rattle.pp_restack.specs.Stacks.{by_place, made_contents}
use Rattle.pp_restack.specs.Places.{IsCutSample, with_cut, told, spread_in}
use Rattle.pp_restack.proofs.MadeContents.{groups_told, contents_made}
use Rattle.pp_dump.specs.Saved.{cut_sample, saved_contents}
use Rattle.pp_dump.specs.Places.{spread_of, AddsSamples}
use Rattle.pp_count.proofs.KeptSamples.{made_of_kept}

-- what the filters leave of the samples
module _ (p : Profile) (f : Finders) (filtering : Filtering) where
  one_told : (s : Sample) (stack : Option (List Frame)) (rest : List (SampleText × List ℤ))
      → map (told p) (option_map_or (spread_of p f s) stack []) ++ rest ≡ cons_option (option_map (cut_sample p f s) stack) rest
  one_told s None rest = refl
  one_told s (Some stack) rest = ap (λ ls. (record { locations = ls; labels = map (label_text (text_of p)) (shown_labels p f s.label) }, s.value) ∷ rest) (groups_told p (by_place stack))

  all_told : (xs : List Sample)
      → map (told p) (flat_map (λ s. option_map_or (spread_of p f s) (filtered_stack p f filtering s) []) xs)
      ≡ filter_map (λ s. option_map (cut_sample p f s) (filtered_stack p f filtering s)) xs
  all_told [] = refl
  all_told (s ∷ xs) =
      map-append (told p) (option_map_or (spread_of p f s) (filtered_stack p f filtering s) []) _
      ∙ ap (λ rest. map (told p) (option_map_or (spread_of p f s) (filtered_stack p f filtering s) []) ++ rest) (all_told xs)
      ∙ one_told s (filtered_stack p f filtering s) _

-- What the profile says that is merged alone is what the saved profile says.
pub contents_saved : (l : Loaded) (v : Verdicts) (f : Finders) (filtering : Filtering) (kept : List ℕ) (samples : List Sample) (locations : List Location)
    → NoRuleFails l.profile → HoldsFinders l v f → kept ≡ filtered_from l.profile f filtering 0 l.profile.sample
    → AddsSamples l v (samples_at l.profile kept) [] l.profile.location samples locations
    → contents (with_cut l.profile samples locations) [] ≡ saved_contents l.profile f filtering
contents_saved l v f filtering kept samples locations valid finds is adds =
    let p : Profile = l.profile in
    let each = subst (AllByRecursion (IsCutSample p locations)) (sym adds.is) adds.each in
    contents_made p samples locations valid adds.places each
    ∙ ap (made_contents p)
    (ap (λ (xs : List Sample). map (told p) (map (spread_in locations) xs)) adds.is
    ∙ ap (map (told p)) (adds.are f finds ∙ sym (made_of_kept p f filtering (spread_of p f) kept is))
    ∙ all_told p f filtering p.sample)

-- What is merged alone keeps the table rules,
pub alone_valid : (cut q : Profile) → q ≡ merged cut [] → NoRuleFails q
alone_valid cut q is = subst NoRuleFails (sym is) (valid_written (contents cut []) (fits_contents cut []))

-- and its ids are places.
pub alone_compact : (cut q : Profile) → q ≡ merged cut [] → IsCompact q
alone_compact cut q is = subst IsCompact (sym is) (compact_written (contents cut []))
