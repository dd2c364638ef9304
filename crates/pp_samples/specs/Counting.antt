-- What is known of the tags that were counted so far. No public clause cites it.
use Rattle.pp_model.specs.declared.profile.Label.{Label}
use Rattle.pp_model.specs.declared.profile.Profile.{Profile}
use Rattle.pp_samples.specs.declared.key_table.TagPlace.{TagPlace}
use Rattle.pp_samples.specs.declared.tag_counts.TagCounts.{TagCounts}
use Rattle.pp_samples.specs.TagLines.{tag_texts}
use Rattle.pp_samples.specs.Places.{AreEven, HasTagPlace}
use Rattle.pp_samples.specs.Recent.{Holds}

-- The tables have all their parts, and each label that is remembered has the place of its tag.
pub record AreSound (p : Profile) (counts : TagCounts) : Type 0 where
  pub even : AreEven counts.keys
  pub known : (label : Label) → (place : TagPlace) → Holds counts.recent.slots.items label place
      → HasTagPlace counts.keys (tag_texts p label) place
