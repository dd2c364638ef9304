-- What patterns find, as predicates on texts, and the verdicts that hold these answers.
use Rattle.std.specs.Prelude.{◌≡◌, ℕ, Bool, List, [], Option, None}
use Rattle.pp_model.specs.declared.loaded.Loaded.{Loaded}
use Rattle.pp_model.specs.declared.verdicts.Verdicts.{Verdicts}
use Rattle.pp_model.specs.Judged.{judged}

-- what a pattern finds: one truth value for each text
abbrev pub Finder : Type 0
Finder = List ℕ → Bool

-- what a part of a tag filter finds of tags: one truth value for each key and value
abbrev pub TagFinder : Type 0
TagFinder = List ℕ → List ℕ → Bool

-- What the parts of a tag filter find, in order: of texts where the filter has a name, and else of tags. Two tags of
-- one text `key:value` may be told apart.
pub record TagFinders : Type 0 where
  pub texts : List Finder
  pub tags : List TagFinder

-- no part finds anything
abbrev pub no_parts : TagFinders
no_parts = record { texts = []; tags = [] }

-- What the patterns of a report and of its profile find. None stands for a pattern that isn't in force.
pub record Finders : Type 0 where
  pub drop : Option Finder
  pub keep : Option Finder
  pub focus : Option Finder
  pub ignore : Option Finder
  pub hide : Option Finder
  pub show : Option Finder
  pub show_from : Option Finder
  pub prune_from : Option Finder
  pub tagshow : Option Finder
  pub taghide : Option Finder
  pub own : Option Finder
  pub tagfocus : TagFinders
  pub tagignore : TagFinders

-- no pattern is in force
abbrev pub no_finders : Finders
no_finders = record {
  drop = None;
  keep = None;
  focus = None;
  ignore = None;
  hide = None;
  show = None;
  show_from = None;
  prune_from = None;
  tagshow = None;
  taghide = None;
  own = None;
  tagfocus = no_parts;
  tagignore = no_parts;
}

-- The verdicts of the profile and of the report are what the patterns find of its texts. The parts of tag filters are
-- not spoken of, since their subjects depend on the filter.
pub record HoldsFinders (l : Loaded) (v : Verdicts) (f : Finders) : Type 0 where
  pub drop : l.drop ≡ judged l.profile f.drop
  pub keep : l.keep ≡ judged l.profile f.keep
  pub focus : v.focus ≡ judged l.profile f.focus
  pub ignore : v.ignore ≡ judged l.profile f.ignore
  pub hide : v.hide ≡ judged l.profile f.hide
  pub show : v.show ≡ judged l.profile f.show
  pub show_from : v.show_from ≡ judged l.profile f.show_from
  pub prune_from : v.prune_from ≡ judged l.profile f.prune_from
  pub tagshow : v.tagshow ≡ judged l.profile f.tagshow
  pub taghide : v.taghide ≡ judged l.profile f.taghide
  pub own : v.own ≡ judged l.profile f.own
