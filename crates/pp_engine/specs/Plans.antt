-- Plans, by what is asked for.
use Rattle.std.specs.Prelude.{◌≡◌, ◌+◌, ◌<◌, ◌≤◌, length, is_some, nat_lt, IsTrue}
use Rattle.std.specs.List.{list_all}
use Rattle.pp_options.specs.declared.plan.Plan.{Plan}
use Rattle.pp_options.specs.Conditions.{is_fair, has_pattern}
use Rattle.pp_options.specs.Words.{Request}

-- What is asked for keeps what each plan keeps.
pub record IsPlan (r : Request) : Type 0 where
  pub some_origin : 0 < length r.origins
  pub few : length r.origins + length r.bases ≤ 256
  pub fair : IsTrue (list_all is_fair r.origins)
  pub kind_with_bases : is_some r.base_kind ≡ nat_lt 0 (length r.bases)
  pub normalized_by_bases : IsTrue r.normalize → IsTrue (is_some r.base_kind)
  pub patterned : IsTrue (has_pattern r.report)

-- the plan of what is asked for
abbrev pub plan_of : (r : Request) → IsPlan r → Plan
plan_of r keeps = record {
  origins = r.origins;
  bases = r.bases;
  base_kind = r.base_kind;
  normalize = r.normalize;
  report = r.report;
  config = r.config;
  some_origin = keeps.some_origin;
  few = keeps.few;
  fair = keeps.fair;
  kind_with_bases = keeps.kind_with_bases;
  normalized_by_bases = keeps.normalized_by_bases;
  patterned = keeps.patterned;
}
