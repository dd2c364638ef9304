-- The plan of words is the one that asks for the same.
use Rattle.std.proofs.Common.{◌≡◌, ◌≤◌, ◌<◌, ◌+◌, ℕ, List, length, Bool, true, refl, ap, ◌∙◌}
use Rattle.std.specs.Prelude.{is_some, nat_lt, IsTrue, Result, Ok, Err}
use Rattle.std.specs.List.{list_all}
use Rattle.std.proofs.Props.{props}
use mathlib.Core.HLevel.{is_prop→PathP}
use Rattle.pp_load.proofs.StartLemmas.{same_Ok}
use Rattle.pp_options.specs.declared.plan.Plan.{Plan}
use Rattle.pp_options.specs.declared.usage.UsageFault.{UsageFault}
use Rattle.pp_options.specs.Conditions.{is_fair, has_pattern}
use Rattle.pp_options.specs.Words.{Request, words}
use Rattle.pp_options.specs.Plans.{request_of}
use Rattle.pp_engine.specs.Words.{plan_said, planned, said_by}

-- the facts of a plan have one proof each
lt_prop : (a b : ℕ) → IsProp (a < b)
lt_prop a b = hlevel props

le_prop : (a b : ℕ) → IsProp (a ≤ b)
le_prop a b = hlevel props

same_prop : (a b : Bool) → IsProp (a ≡ b)
same_prop a b = hlevel props

within_prop : (a b : Bool) → IsProp (IsTrue a → IsTrue b)
within_prop a b = hlevel props

-- two plans that ask for the same are the same
same_plan : (a b : Plan) → request_of a ≡ request_of b → a ≡ b
same_plan a b e = λ i. record {
  origins = (e i).origins;
  bases = (e i).bases;
  base_kind = (e i).base_kind;
  normalize = (e i).normalize;
  report = (e i).report;
  config = (e i).config;
  some_origin = is_prop→PathP (λ j. 0 < length (e j).origins) (λ j. lt_prop 0 (length (e j).origins)) a.some_origin b.some_origin i;
  few = is_prop→PathP (λ j. length (e j).origins + length (e j).bases ≤ 256) (λ j. le_prop (length (e j).origins + length (e j).bases) 256) a.few b.few i;
  fair = is_prop→PathP (λ j. IsTrue (list_all is_fair (e j).origins)) (λ j. same_prop (list_all is_fair (e j).origins) true) a.fair b.fair i;
  kind_with_bases = is_prop→PathP (λ j. is_some (e j).base_kind ≡ nat_lt 0 (length (e j).bases)) (λ j. same_prop (is_some (e j).base_kind) (nat_lt 0 (length (e j).bases))) a.kind_with_bases b.kind_with_bases i;
  normalized_by_bases = is_prop→PathP (λ j. IsTrue (e j).normalize → IsTrue (is_some (e j).base_kind)) (λ j. within_prop (e j).normalize (is_some (e j).base_kind)) a.normalized_by_bases b.normalized_by_bases i;
  patterned = is_prop→PathP (λ j. IsTrue (has_pattern (e j).report)) (λ j. same_prop (has_pattern (e j).report) true) a.patterned b.patterned i;
}

same_said : (a b : Result Plan UsageFault) → said_by a ≡ said_by b → a ≡ b
same_said (Ok a) (Ok b) same = ap Ok (same_plan a b (same_Ok (request_of a) (request_of b) same))
same_said (Ok a) (Err b) same = absurd (cc)
same_said (Err a) (Ok b) same = absurd (cc)
same_said (Err a) (Err b) same =
    let fault : a ≡ b = cc in
    ap Err fault

said_again : (ws : List (List ℕ)) (said : Result Request UsageFault) (is : words ws ≡ said) → said_by (plan_said ws said is) ≡ said
said_again ws (Ok r) is = refl
said_again ws (Err fault) is = refl

-- The plan of words asks for what they do.
pub planned_again : (ws : List (List ℕ)) → said_by (planned ws) ≡ words ws
unfolding planned
planned_again ws = said_again ws (words ws) refl

-- What asks for that is their plan.
pub planned_is : (ws : List (List ℕ)) (said : Result Plan UsageFault) → words ws ≡ said_by said → planned ws ≡ said
planned_is ws said is = same_said (planned ws) said (planned_again ws ∙ is)
