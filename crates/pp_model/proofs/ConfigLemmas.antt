-- Two values of a group with the same variables are the same.
use Rattle.std.proofs.Common.{◌≡◌, ◌<◌, ◌≤◌, ◌^◌}
use Rattle.std.specs.Prelude.{◌≤ℤ◌, negsuc}
use Rattle.std.proofs.Props.{props}
use mathlib.Core.HLevel.{is_prop→PathP}
use Rattle.pp_base.specs.declared.fraction.Fraction.{Fraction}
use Rattle.pp_model.specs.declared.presentation.Presentation.{Presentation}
use Rattle.pp_model.specs.declared.environment.Environment.{Environment}

-- two fractions of as many billionths are the same
pub same_fraction : (a b : Fraction) → a.billionths ≡ b.billionths → a ≡ b
same_fraction a b same = λ i. record {
  billionths = same i;
  at_most_one = is_prop→PathP (λ j. same j ≤ 1000000000) (λ j. hlevel props) a.at_most_one b.at_most_one i;
}

-- the two show alike
pub record SamePresentation (a b : Presentation) : Type 0 where
  pub sort : a.sort ≡ b.sort
  pub path_tree : a.path_tree ≡ b.path_tree
  pub nodecount : a.nodecount ≡ b.nodecount
  pub nodefraction : a.nodefraction ≡ b.nodefraction
  pub edgefraction : a.edgefraction ≡ b.edgefraction
  pub sample_index : a.sample_index ≡ b.sample_index
  pub unit : a.unit ≡ b.unit
  pub relative_percentages : a.relative_percentages ≡ b.relative_percentages
  pub divide_by : a.divide_by ≡ b.divide_by
  pub tagroot : a.tagroot ≡ b.tagroot
  pub tagleaf : a.tagleaf ≡ b.tagleaf

pub same_presentation : (a b : Presentation) → SamePresentation a b → a ≡ b
same_presentation a b same = λ i. record {
  sort = same.sort i;
  path_tree = same.path_tree i;
  nodecount = same.nodecount i;
  nodefraction = same.nodefraction i;
  edgefraction = same.edgefraction i;
  sample_index = same.sample_index i;
  unit = same.unit i;
  relative_percentages = same.relative_percentages i;
  divide_by = same.divide_by i;
  tagroot = same.tagroot i;
  tagleaf = same.tagleaf i;
  nodecount_from = is_prop→PathP (λ j. negsuc 0 ≤ℤ same.nodecount j) (λ j. hlevel props) a.nodecount_from b.nodecount_from i;
  divisor_from = is_prop→PathP (λ j. 1 ≤ same.divide_by j) (λ j. hlevel props) a.divisor_from b.divisor_from i;
  divisor_below = is_prop→PathP (λ j. same.divide_by j < 2 ^ 63) (λ j. hlevel props) a.divisor_below b.divisor_below i;
}

-- the two lend alike
pub record SameEnvironment (a b : Environment) : Type 0 where
  pub source_path : a.source_path ≡ b.source_path
  pub trim_path : a.trim_path ≡ b.trim_path
  pub workers : a.workers ≡ b.workers

pub same_environment : (a b : Environment) → SameEnvironment a b → a ≡ b
same_environment a b same = λ i. record {
  source_path = same.source_path i;
  trim_path = same.trim_path i;
  workers = same.workers i;
  workers_from = is_prop→PathP (λ j. 1 ≤ same.workers j) (λ j. hlevel props) a.workers_from b.workers_from i;
  workers_to = is_prop→PathP (λ j. same.workers j ≤ 64) (λ j. hlevel props) a.workers_to b.workers_to i;
}
