-- Plans, and what reading words answers.
use Rattle.std.specs.Prelude.{◌≡◌, ℕ, ⊤, List, Result, Ok, Err}
use Rattle.pp_options.specs.declared.plan.Plan.{Plan}
use Rattle.pp_options.specs.declared.usage.UsageRefusal.{UsageRefusal}
use Rattle.pp_options.specs.declared.usage.UsageRefusal.TheVariants.{Fault, Memory}
use Rattle.pp_options.specs.Words.{Request, words}

-- what a plan asks for
abbrev pub request_of : Plan → Request
request_of plan = record {
  origins = plan.origins;
  bases = plan.bases;
  base_kind = plan.base_kind;
  normalize = plan.normalize;
  report = plan.report;
  config = plan.config;
}

-- the answer is what the words ask for, or their first fault, unless memory ran out
abbrev pub ReadsPlan : List (List ℕ) → Result Plan UsageRefusal → Type 0
ReadsPlan ws (Ok plan) = words ws ≡ Ok (request_of plan)
ReadsPlan ws (Err (Fault fault)) = words ws ≡ Err fault
ReadsPlan ws (Err Memory) = ⊤
