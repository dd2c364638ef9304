-- What a report shows is known by the texts of the sample types, and frames from labels leave these.
use Rattle.std.proofs.Common.{◌≡◌, ℕ, ◌<◌, true, false, List, [], ◌∷◌, length, map, refl, sym, ap, ◌∙◌, subst}
use Rattle.std.specs.Prelude.{⊤, ◌==◌, ◌&&◌, Option, Some, None, Ok, option_map, slice_get, if◌then◌else◌}
use Rattle.std.specs.List.{AllByRecursion}
use Rattle.std.specs.Option.{MatchOption, option_and_then, option_map_or}
use Rattle.std.proofs.lemmas.List.{length-map}
use Rattle.std.proofs.lemmas.Option.{slice_get-map}
use Rattle.std.proofs.lemmas.Simd.{map-map}
use Rattle.pp_model.specs.declared.loaded.Loaded.{Loaded}
use Rattle.pp_model.specs.declared.profile.Profile.{Profile}
use Rattle.pp_model.specs.declared.profile.ValueType.{ValueType}
use Rattle.pp_model.specs.declared.report.Report.{Report}
use Rattle.pp_model.specs.declared.presentation.Presentation.{Presentation}
use Rattle.pp_model.specs.Conditions.{IsColumnOf}
use Rattle.pp_model.specs.Lookup.{text_of}
use Rattle.pp_model.specs.ReportFacts.{shows_values, is_counted}
use Rattle.pp_share.specs.Header.{HeaderText, TypeText, type_text, header_of}
use Rattle.pp_share.specs.Written.{Contents, type_texts, written, written_type}
use Rattle.pp_merge.proofs.RoundTrip.{IsText, text_again}
use Rattle.pp_merge.proofs.WrittenValid.{last_texts, texts_of_types}
use Rattle.pp_count.specs.Column.{column_of}
use Rattle.pp_count.proofs.Columns.{type_names, columns_alike}
use Rattle.pp_dump.proofs.SavedHeader.{first_alone}
use Rattle.pp_restack.specs.Stacks.{patternless}
use Rattle.pp_pseudo.specs.KeyList.{key_list}
use Rattle.pp_pseudo.specs.WithTags.{tagged, tagged_contents}
use Rattle.pp_report.specs.Heads.{column_type, type_of_column, unit_text, wanted_unit}
use Rattle.pp_report.specs.Prepared.{in_column, in_unit, showing_for}
use Rattle.pp_pseudo.specs.Basis.{framed_by, framed_for}
use Rattle.pp_report.specs.Tagged.{basis_of}

-- The sample types of q, and its default, are those of p.
pub record HasTypesOf (p q : Profile) : Type 0 where
  pub types : map (type_text q) q.sample_type ≡ map (type_text p) p.sample_type
  pub default : text_of q q.default_sample_type ≡ text_of p p.default_sample_type

-- a text of the column's type
pub type_is : (get : TypeText → List ℕ) (p : Profile) (column : Option ℕ)
    → option_map_or get (column_type p column) [] ≡ option_map_or (λ t. get (type_text p t)) (type_of_column p column) []
type_is get p None = refl
type_is get p (Some n) = ap (λ (o : Option TypeText). option_map_or get o []) (slice_get-map (type_text p) p.sample_type n) ∙ by (slice_get p.sample_type n)
  where
    by : (o : Option ValueType) → option_map_or get (option_map (type_text p) o) [] ≡ option_map_or (λ t. get (type_text p t)) o []
    by None = refl
    by (Some t) = refl

module _ (p q : Profile) (same : HasTypesOf p q) where
  same_length : length q.sample_type ≡ length p.sample_type
  same_length = sym (length-map q.sample_type (type_text q)) ∙ ap length same.types ∙ length-map p.sample_type (type_text p)

  same_names : type_names q ≡ type_names p
  same_names =
      sym (map-map (λ (t : TypeText). t.kind) (type_text q) q.sample_type) ∙ ap (λ (types : List TypeText). map (λ t. t.kind) types) same.types
      ∙ map-map (λ (t : TypeText). t.kind) (type_text p) p.sample_type

  pub same_unit : (column : Option ℕ) → unit_text q column ≡ unit_text p column
  same_unit column =
      sym (type_is (λ t. t.unit) q column) ∙ ap (λ types. option_map_or (λ (t : TypeText). t.unit) (option_and_then (slice_get types) column) []) same.types
      ∙ type_is (λ t. t.unit) p column

  -- a text asks for the same column of both
  pub same_column : (text : List ℕ) → column_of q text ≡ column_of p text
  same_column = columns_alike p q same_names same.default

  same_in : (presentation : Presentation) (column : Option (Option ℕ)) → in_column q presentation column ≡ in_column p presentation column
  same_in presentation None = refl
  same_in presentation (Some column) = ap (λ unit. in_unit column (wanted_unit presentation.unit unit)) (same_unit column)

  same_values : (presentation : Presentation) → in_column q presentation (column_of q presentation.sample_index) ≡ in_column p presentation (column_of p presentation.sample_index)
  same_values presentation = ap (in_column q presentation) (same_column presentation.sample_index) ∙ same_in presentation (column_of p presentation.sample_index)

  -- a report shows the same of both
  pub same_showing : (report : Report) (presentation : Presentation) → showing_for report q presentation ≡ showing_for report p presentation
  same_showing report presentation =
      elim (shows_values report) as (λ values. (if values then in_column q presentation (column_of q presentation.sample_index) else Ok (record { column = None; wanted = None }))
      ≡ (if values then in_column p presentation (column_of p presentation.sample_index) else Ok (record { column = None; wanted = None }))) [
        | true ↦ same_values presentation
        | false ↦ refl
      ]

  -- a column of one is one of the other
  pub same_bound : (column : Option ℕ) → IsColumnOf p column → IsColumnOf q column
  same_bound column below = subst (λ n. MatchOption column ⊤ (λ c. c < n)) (sym same_length) below

-- types that were written are read again
types_again : (c : Contents) (types : List TypeText) → AllByRecursion (λ t. AllByRecursion (IsText c) (type_texts t)) types
    → map (type_text (written c)) (map (written_type c) types) ≡ types
types_again c [] all = refl
types_again c (t ∷ types) all =
    λ i. record { kind = text_again c t.kind all.0.0 i; unit = text_again c t.unit all.0.1.0 i } ∷ types_again c types all.1 i

-- a header without patterns tells the types
pub types_by_header : (p q : Profile) → header_of q [] ≡ patternless p → HasTypesOf p q
types_by_header p q header = record {
  types = ap (λ (h : HeaderText). h.types) header;
  default = sym (first_alone (text_of q q.default_sample_type)) ∙ ap (λ (h : HeaderText). h.default_sample_type) header ∙ first_alone (text_of p p.default_sample_type);
}

module _ (l : Loaded) where
  tagged_types : (roots leaves : List (List ℕ)) → HasTypesOf l.profile (tagged l roots leaves).profile
  tagged_types roots leaves =
      let c = tagged_contents l roots leaves in
      record {
        types = types_again c c.header.types (texts_of_types c);
        default = text_again c c.header.default_sample_type (last_texts c).0 ∙ first_alone (text_of l.profile l.profile.default_sample_type);
      }

  -- frames from labels leave the sample types
  pub by_types : (roots leaves : List (List ℕ)) → HasTypesOf l.profile (framed_by l roots leaves).profile
  by_types roots leaves = elim (length roots == 0 && length leaves == 0) as (λ none. HasTypesOf l.profile (if none then l else tagged l roots leaves).profile) [
    | true ↦ record { types = refl; default = refl }
    | false ↦ tagged_types roots leaves
  ]

  pub basis_types : (report : Report) (presentation : Presentation) → HasTypesOf l.profile (basis_of report l presentation).profile
  unfolding basis_of
  basis_types report presentation = elim (is_counted report) as (λ counted. HasTypesOf l.profile (if counted then framed_for l presentation else l).profile) [
    | true ↦ by_types (key_list presentation.tagroot) (key_list presentation.tagleaf)
    | false ↦ record { types = refl; default = refl }
  ]

  -- What a report shows is decided on the loaded profile.
  pub basis_shows : (report : Report) (presentation : Presentation) → showing_for report (basis_of report l presentation).profile presentation ≡ showing_for report l.profile presentation
  basis_shows report presentation = same_showing l.profile (basis_of report l presentation).profile (basis_types report presentation) report presentation
