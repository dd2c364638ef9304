-- What holds of the saved profile of a profile that stays as it is when it is merged alone.
use Rattle.std.proofs.Common.{◌≡◌, ◌<◌, ◌^◌, [], ◌∷◌, map, sym, ap, subst, append-nil}
use Rattle.std.specs.List.{AllByRecursion}
use Rattle.pp_model.specs.declared.config.Config.{Config}
use Rattle.pp_model.specs.declared.profile.Profile.{Profile}
use Rattle.pp_model.specs.Finders.{Finders, no_finders}
use Rattle.pp_model.specs.Rules.{NoRuleFails}
use Rattle.pp_share.specs.Described.{MappingText, mapping_text}
use Rattle.pp_share.specs.Header.{header_of}
use Rattle.pp_merge.specs.Merge.{all_mappings, merged}
use Rattle.pp_merge.specs.Settled.{IsSettled}
use Rattle.pp_share.specs.Written.{Contents, written}
use Rattle.pp_share.proofs.NumberedLemmas.{all_mapped}
use Rattle.pp_merge.proofs.WrittenAgain.{contents_again}
use Rattle.pp_merge.proofs.WrittenCompact.{compact_written}
use Rattle.pp_merge.proofs.WrittenValid.{valid_written}
use Rattle.pp_restack.specs.Stacks.{patternless}
use Rattle.pp_dump.specs.Saved.{saved_contents, saved}
use Rattle.pp_dump.specs.Stacks.{left_stacks, whole_stacks, KeepsStacks}
use Rattle.pp_dump.specs.Unfiltered.{KeepsSums, KeepsKeys, KeepsHeader}
use Rattle.pp_dump.proofs.KeptStacks.{keeps_stacks, left_is}
use Rattle.pp_dump.proofs.NaturalStacks.{keeps_keys}
use Rattle.pp_dump.proofs.SavedHeader.{same_column}
use Rattle.pp_dump.proofs.SeenStacks.{keeps_sums}
use Rattle.pp_dump.proofs.WholeStacks.{whole_left}
use Rattle.pp_saved.proofs.SettledSaved.{settled_saved}

-- The profile is a saved one, and keeps of the other what saving keeps.
pub record IsSaved (p : Profile) (f : Finders) (config : Config) (q : Profile) : Type 0 where
  pub is : q ≡ saved p f config.filtering
  pub stacks : KeepsStacks p f config.filtering q
  pub sums : KeepsSums p f config q
  pub keys : KeepsKeys p f config q
  pub header : KeepsHeader p q
  pub valid : NoRuleFails q
  pub again : merged q [] ≡ q

-- The saved profile is such a one.
pub is_saved : (p : Profile) (f : Finders) (config : Config) → NoRuleFails p → AllByRecursion (λ m. m.start < 2 ^ 64) p.mapping → merged p [] ≡ p
    → IsSaved p f config (saved p f config.filtering)
is_saved p f config valid own_starts again =
    let starts : AllByRecursion (λ (m : MappingText). m.start < 2 ^ 64) (all_mappings (p ∷ [])) =
    subst (AllByRecursion (λ (m : MappingText). m.start < 2 ^ 64)) (sym (append-nil (map (mapping_text p) p.mapping)))
    (all_mapped (λ (m : MappingText). m.start < 2 ^ 64) (mapping_text p) p.mapping own_starts) in
    let c : Contents = saved_contents p f config.filtering in
    let q : Profile = saved p f config.filtering in
    let settled : IsSettled c = settled_saved p starts again f config.filtering in
    let stacks : KeepsStacks p f config.filtering q = keeps_stacks p f config.filtering valid starts again settled in
    let q_valid : NoRuleFails q = valid_written c settled.fits in
    let whole : (d : Config) → d.filtering.tagfocus ≡ [] → d.filtering.tagignore ≡ [] → left_stacks q no_finders d.filtering ≡ whole_stacks q =
    λ d tagfocus tagignore. whole_left q (compact_written c).locations d.filtering tagfocus tagignore q_valid in
    let sums : KeepsSums p f config q = keeps_sums p f config q stacks whole in
    let header : header_of q [] ≡ patternless p = ap (λ (what : Contents). what.header) (contents_again c settled) in
    record {
      is = λ i. q;
      stacks = stacks;
      sums = sums;
      keys = λ least d alike column within.
          keeps_keys column p f config valid within least settled (left_is p f config.filtering valid starts again) sums whole d alike;
      header = record { header = header; columns = same_column p q header };
      valid = q_valid;
      again = ap written (contents_again c settled);
    }
