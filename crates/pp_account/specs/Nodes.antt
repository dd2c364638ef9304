-- The keys that occur, and where the limits leave them.
use Rattle.std.specs.Prelude.{ℕ, ◌==◌, ℤ, Bool, true, false, not, List, [], length, map, drop, filter, Option, if◌then◌else◌}
use Rattle.std.specs.Bool.{beq}
use Rattle.pp_model.specs.declared.config.Config.{Config}
use Rattle.pp_model.specs.declared.profile.Profile.{Profile}
use Rattle.pp_model.specs.Finders.{Finders}
use Rattle.pp_model.specs.FrameTexts.{Written}
use Rattle.pp_count.specs.declared.sums.Sums.{Sums}
use Rattle.pp_graph.specs.Figures.{figures}
use Rattle.pp_graph.specs.KeyRows.{flat_sum}
use Rattle.pp_graph.specs.Ranks.{sum_of_name, is_heavy_number}
use Rattle.pp_graph.specs.Trim.{all_report_keys, candidate_keys, shown_keys, is_heavy_key}
use Rattle.pp_graph.specs.Trimmed.{int_sum}
use Rattle.pp_account.specs.declared.nodes.NodePortions.{NodePortions}
use Rattle.pp_account.specs.declared.portion.Portion.{Portion}

-- how many keys these are, and what their flats come to
abbrev pub keys_portion : Profile → Finders → Config → Option ℕ → List Written → Portion
keys_portion p f config column keys = record {
  count = length keys;
  value = flat_sum (figures p f config column) keys;
}

-- the keys that occur and are too light to be shown
abbrev pub light_keys : Profile → Finders → Config → Option ℕ → List Written
light_keys p f config column =
    filter (λ k. not (is_heavy_key (figures p f config column) config.presentation k))
    (all_report_keys p f config column)

-- what stands past the limit, nothing where it is 0
abbrev pub past_limit : {K : Type 0} → ℕ → List K → List K
past_limit limit keys = if limit == 0 then [] else drop limit keys

-- the keys that are heavy enough, and that the limit leaves out
abbrev pub keys_beyond : Profile → Finders → Config → Option ℕ → ℕ → List Written
keys_beyond p f config column limit = past_limit limit (candidate_keys p f config column)

-- The rest is of numbers of names. No public clause cites it.

-- how many numbers these are, and what their flats come to
abbrev pub numbers_portion : List ℤ → List ℕ → Portion
numbers_portion flats numbers = record {
  count = length numbers;
  value = int_sum (map (sum_of_name flats) numbers);
}

-- the number's key is heavy, or isn't, as it is wanted
abbrev pub is_where : Sums → ℕ → ℕ → Bool → ℕ → Bool
is_where sums total billionths wanted n = beq (is_heavy_number total billionths sums n) wanted

-- those of the numbers
abbrev pub numbers_where : Sums → ℕ → ℕ → Bool → List ℕ → List ℕ
numbers_where sums total billionths wanted numbers =
    filter (is_where sums total billionths wanted) numbers

-- where the keys of these numbers end
abbrev pub node_portions : Sums → ℕ → ℕ → ℕ → List ℕ → NodePortions
node_portions sums total billionths limit order =
    let heavy = numbers_where sums total billionths true order in
    record {
      counted = numbers_portion sums.flat order;
      light = numbers_portion sums.flat (numbers_where sums total billionths false order);
      beyond = numbers_portion sums.flat (past_limit limit heavy);
      shown = numbers_portion sums.flat (shown_keys limit heavy);
    }
