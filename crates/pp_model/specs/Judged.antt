-- A loaded profile with what two patterns find of its texts.
use Rattle.std.specs.Prelude.{◌≡◌, ℕ, Bool, List, length, map, Option, Some, None}
use Rattle.std.specs.Option.{ForSome}
use Rattle.std.proofs.Common.{subst}
use Rattle.std.proofs.lemmas.List.{length-map}
use Rattle.std.proofs.lemmas.Option.{none-some, same_Some}
use Rattle.pp_model.specs.declared.profile.Profile.{Profile}
use Rattle.pp_model.specs.declared.loaded.Loaded.{Loaded}

-- a verdict per text, where there is a pattern
abbrev pub judged : Profile → Option (List ℕ → Bool) → Option (List Bool)
judged p None = None
judged p (Some finds) = Some (map finds p.text)

-- there are as many verdicts as texts
pub judged_fits : (p : Profile) (pattern : Option (List ℕ → Bool))
    → ForSome (judged p pattern) (λ found. length found ≡ length p.text)
judged_fits p None = λ found is. absurd (none-some found is)
judged_fits p (Some finds) = λ found is.
    subst (λ verdicts. length verdicts ≡ length p.text) (same_Some _ _ is) (length-map p.text finds)

-- The profile with the verdicts of the functions that are dropped and of those that stay.
abbrev pub loaded_of : Profile → Option (List ℕ → Bool) → Option (List ℕ → Bool) → Loaded
loaded_of p drop keep = record {
  profile = p;
  drop = judged p drop;
  keep = judged p keep;
  drop_fits = judged_fits p drop;
  keep_fits = judged_fits p keep;
}
