-- The text of a proto report: it is read as the profile that was saved.
use Rattle.std.specs.Prelude.{◌≡◌, ℕ, ◌<◌, ◌^◌, List, [], Result, Ok, IfOk}
use Rattle.std.specs.List.{AllByRecursion}
use Rattle.pp_desk.specs.declared.stop.Stop.{Stop}
use Rattle.pp_model.specs.declared.loaded.Loaded.{Loaded}
use Rattle.pp_model.specs.declared.profile.Profile.{Profile}
use Rattle.pp_model.specs.declared.report.Report.TheVariants as reports
use Rattle.pp_model.specs.declared.filtering.Filtering.{Filtering}
use Rattle.pp_model.specs.Finders.{Finders}
use Rattle.pp_model.specs.Lookup.{text_of}
use Rattle.pp_model.specs.Rules.{NoRuleFails}
use Rattle.pp_pattern.specs.Report.{Finds}
use Rattle.pp_tables.specs.Encode.{encode}
use Rattle.pp_tables.specs.Read.{read}
use Rattle.pp_merge.specs.Merge.{merged}
use Rattle.pp_dump.specs.Saved.{saved}
use Rattle.pp_report.specs.declared.refusal.ReportRefusal.{ReportRefusal}
use Rattle.pp_report.specs.Patterns.{report_finders}

-- what holds of the text of a report that was made
abbrev pub OnText : Result (Result (List ℕ) ReportRefusal) Stop → (List ℕ → Type 0) → Type 0
OnText result holds = IfOk result (λ outcome. IfOk outcome holds)

-- The profile keeps the table rules, stays as it is when it is merged alone, and has no pattern of its own.
pub record IsLasting (q : Profile) : Type 0 where
  pub valid : NoRuleFails q
  pub settled : merged q [] ≡ q
  pub drop : text_of q q.drop_frames ≡ []
  pub keep : text_of q q.keep_frames ≡ []

-- What is known of the text of a saved profile as it is written. The last two are of the profile that it was saved of.
pub record IsProtoOf (p : Profile) (f : Finders) (filtering : Filtering) (text : List ℕ)
    : Type 0 where
  pub bytes : text ≡ encode (saved p f filtering)
  pub again : read text ≡ Ok (saved p f filtering)
  pub lasts : IsLasting (saved p f filtering)
  pub valid : NoRuleFails p
  pub starts : AllByRecursion (λ m. m.start < 2 ^ 64) p.mapping

-- the text is that of the profile saved by what the patterns of a proto report find
abbrev pub IsProtoBy : Finds → Loaded → Filtering → List ℕ → Type 0
IsProtoBy finds l filtering text =
    IsProtoOf l.profile (report_finders finds l reports.Proto filtering) filtering text
