-- Which keys and edges a report shows, and in which order: what follows from its figures.
use Rattle.std.specs.Prelude.{ℕ, ◌==◌, ℤ, pos, negsuc, Bool, not, ◌&&◌, List, length, take, if◌then◌else◌, Option}
use Rattle.std.specs.List.{filter, sum_by}
use Rattle.std.specs.Ordering.{then_cmp}
use Rattle.std.specs.declared.cmp.Ordering.{Ordering}
use Rattle.pp_model.specs.declared.config.Config.{Config}
use Rattle.pp_model.specs.declared.presentation.Presentation.{Presentation}
use Rattle.pp_model.specs.declared.presentation.Sort.{Sort}
use Rattle.pp_model.specs.declared.presentation.Sort.TheVariants as sorts
use Rattle.pp_model.specs.declared.profile.Profile.{Profile}
use Rattle.pp_model.specs.Finders.{Finders}
use Rattle.pp_model.specs.FrameTexts.{Written}
use Rattle.pp_grain.specs.Keys.{key_cmp}
use Rattle.pp_count.specs.Sums.{has}
use Rattle.pp_count.specs.Ranks.{is_heavy, by_size, each_once}
use Rattle.pp_graph.specs.Figures.{Figures, figures}

-- The limit that `nodecount` sets, 0 for none: its own number, and for -1 the report's.
abbrev pub node_limit : ℤ → ℕ → ℕ
node_limit (pos count) own = count
node_limit (negsuc _) own = own

-- the first of them: as many as the limit says, and all where it is 0
abbrev pub shown_keys : {K : Type 0} → ℕ → List K → List K
shown_keys limit heavy = if limit == 0 then heavy else take limit heavy

-- by the one sum, then by the other, then by the keys themselves
abbrev pub sums_order : {K : Type 0} → Sort → (K → ℤ) → (K → ℤ) → (K → K → Ordering)
    → K → K → Ordering
sums_order sorts.Flat flat cum order = then_cmp (by_size flat) (then_cmp (by_size cum) order)
sums_order sorts.Cum flat cum order = then_cmp (by_size cum) (then_cmp (by_size flat) order)

module _ (g : Figures) where
  -- report order
  abbrev pub order_by : Sort → Written → Written → Ordering
  order_by sort = sums_order sort g.flat_of g.cum_of key_cmp

  -- the keys that occur, in report order
  abbrev pub ordered_keys : Sort → List Written
  ordered_keys sort = each_once (order_by sort) g.keys

  -- the pair occurs over the keys that are kept, and its sum is at least this fraction of the total
  abbrev pub is_heavy_pair : (Written → Bool) → ℕ → Written → Written → Bool
  is_heavy_pair kept billionths caller callee =
      g.occurs_pair kept caller callee && is_heavy g.total billionths (g.sum_of_pair kept caller callee)

  -- the pair occurs over the keys that are kept, and its sum is less
  abbrev pub is_light_pair : (Written → Bool) → ℕ → Written → Written → Bool
  is_light_pair kept billionths caller callee =
      g.occurs_pair kept caller callee
      && not (is_heavy g.total billionths (g.sum_of_pair kept caller callee))

  module _ (presentation : Presentation) where
    -- whether the key's cum is at least nodefraction of the total
    abbrev pub is_heavy_key : Written → Bool
    is_heavy_key k = is_heavy g.total presentation.nodefraction.billionths (g.cum_of k)

    -- the heavy keys, in report order
    abbrev pub heavy_keys : List Written
    heavy_keys = each_once (order_by presentation.sort) (filter is_heavy_key g.keys)

    -- how many keys are not heavy
    abbrev pub light_key_count : ℕ
    light_key_count = length (filter (λ k. not (is_heavy_key k)) g.keys)

    -- how many pairs of these keys occur over them and are too light
    abbrev pub light_pair_count : List Written → ℕ
    light_pair_count shown =
        sum_by (λ caller. length (filter
        (is_light_pair (λ k. has key_cmp k shown) presentation.edgefraction.billionths caller) shown)) shown

-- The keys that a report may show: those that occur and are heavy, in report order.
abbrev pub candidate_keys : Profile → Finders → Config → Option ℕ → List Written
candidate_keys p f config column = heavy_keys (figures p f config column) config.presentation

-- The keys that it shows, in report order: the first of these, where 0 is no limit.
abbrev pub report_keys : Profile → Finders → Config → Option ℕ → ℕ → List Written
report_keys p f config column limit = shown_keys limit (candidate_keys p f config column)

-- All keys that occur, in report order.
abbrev pub all_report_keys : Profile → Finders → Config → Option ℕ → List Written
all_report_keys p f config column = ordered_keys (figures p f config column) config.presentation.sort

-- The first of them, where 0 is no limit.
abbrev pub first_report_keys : Profile → Finders → Config → Option ℕ → ℕ → List Written
first_report_keys p f config column limit = shown_keys limit (all_report_keys p f config column)

-- whether it shows the key
abbrev pub is_report_key : Profile → Finders → Config → Option ℕ → ℕ → Written → Bool
is_report_key p f config column limit k = has key_cmp k (report_keys p f config column limit)

-- how many keys occur and are too light to be shown
abbrev pub light_nodes : Profile → Finders → Config → Option ℕ → ℕ
light_nodes p f config column = light_key_count (figures p f config column) config.presentation

-- how many pairs occur over the keys that are shown, and have an edge that is too light
abbrev pub light_edges : Profile → Finders → Config → Option ℕ → ℕ → ℕ
light_edges p f config column limit =
    light_pair_count (figures p f config column) config.presentation
    (report_keys p f config column limit)
