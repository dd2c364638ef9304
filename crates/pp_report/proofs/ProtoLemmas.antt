-- What is known of the text of a proto report as it is written.
use Rattle.std.proofs.Common.{◌≡◌, ℕ, ◌<◌, ◌^◌, List, [], ap, ◌∙◌, subst}
use Rattle.std.specs.Prelude.{IfOk, Result, Ok, Err}
use Rattle.std.specs.List.{AllByRecursion}
use Rattle.pp_model.specs.declared.profile.Profile.{Profile}
use Rattle.pp_model.specs.declared.filtering.Filtering.{Filtering}
use Rattle.pp_model.specs.Finders.{Finders}
use Rattle.pp_model.specs.Rules.{NoRuleFails}
use Rattle.pp_share.specs.Header.{HeaderText}
use Rattle.pp_merge.specs.Merge.{merged}
use Rattle.pp_tables.specs.Encode.{encode}
use Rattle.pp_tables.specs.Read.{read}
use Rattle.pp_dump.specs.Saved.{saved}
use Rattle.pp_dump.specs.Unfiltered.{KeepsHeader}
use Rattle.pp_report.specs.SavedText.{IsLasting, IsProtoOf}

-- what was saved lasts
pub lasting : {E : Type 0} (p : Profile) (r : Result Profile E) → IfOk r (λ q. NoRuleFails q) → IfOk r (λ q. merged q [] ≡ q) → IfOk r (KeepsHeader p) → IfOk r IsLasting
lasting p (Ok q) valid settled header = record {
  valid = valid;
  settled = settled;
  drop = ap (λ (h : HeaderText). h.drop_frames) header.header;
  keep = ap (λ (h : HeaderText). h.keep_frames) header.header;
}
lasting p (Err e) valid settled header = tt

-- its text, as it was written
pub proto_of : {E : Type 0} (p : Profile) (f : Finders) (filtering : Filtering) (q r : Profile) (written : Result (List ℕ) E) → r ≡ q → q ≡ saved p f filtering → IsLasting q
    → NoRuleFails p → AllByRecursion (λ m. m.start < 2 ^ 64) p.mapping → IfOk written (λ text. text ≡ encode r) → IfOk written (λ text. read text ≡ Ok r)
    → IfOk written (IsProtoOf p f filtering)
proto_of p f filtering q r (Ok text) same is lasts valid starts bytes again = record {
  bytes = bytes ∙ ap encode (same ∙ is);
  again = again ∙ ap (λ (x : Profile). Ok x) (same ∙ is);
  lasts = subst IsLasting is lasts;
  valid = valid;
  starts = starts;
}
proto_of p f filtering q r (Err e) same is lasts valid starts bytes again = tt
