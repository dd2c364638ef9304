-- Two loaded profiles with the same profile and verdicts are the same. For crates above.
use Rattle.std.proofs.Common.{◌≡◌, List, length, Bool}
use Rattle.std.specs.Prelude.{Option}
use Rattle.std.specs.Option.{ForSome}
use Rattle.std.proofs.Props.{props}
use mathlib.Core.HLevel.{is_prop→PathP}
use Rattle.pp_model.specs.declared.loaded.Loaded.{Loaded}
use Rattle.pp_model.specs.declared.profile.Profile.{Profile}

-- that the verdicts fit the texts has one proof
fits_prop : (p : Profile) (verdicts : Option (List Bool)) → IsProp (ForSome verdicts (λ found. length found ≡ length p.text))
fits_prop p verdicts = hlevel props

-- two with the same profile and verdicts are the same
pub same_loaded : (a b : Loaded) → a.profile ≡ b.profile → a.drop ≡ b.drop → a.keep ≡ b.keep → a ≡ b
same_loaded a b profile drop keep = λ i. record {
  profile = profile i;
  drop = drop i;
  keep = keep i;
  drop_fits =
      is_prop→PathP (λ j. ForSome (drop j) (λ found. length found ≡ length (profile j).text)) (λ j. fits_prop (profile j) (drop j)) a.drop_fits b.drop_fits i;
  keep_fits =
      is_prop→PathP (λ j. ForSome (keep j) (λ found. length found ≡ length (profile j).text)) (λ j. fits_prop (profile j) (keep j)) a.keep_fits b.keep_fits i;
}
