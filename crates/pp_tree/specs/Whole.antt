-- A graph in which nothing is trimmed. No public clause cites this file.
use Rattle.std.specs.Prelude.{ℕ, Bool, true, ◌&&◌, ◌||◌, Option}
use Rattle.pp_model.specs.declared.config.Config.{Config}
use Rattle.pp_model.specs.declared.profile.Profile.{Profile}
use Rattle.pp_model.specs.Finders.{Finders}
use Rattle.pp_model.specs.FrameTexts.{Written}
use Rattle.pp_graph.specs.Figures.{figures}
use Rattle.pp_graph.specs.Trim.{is_heavy_pair}
use Rattle.pp_tree.specs.Ends.{Pairs}

-- whether a key is kept, where all are
abbrev pub any_key : Written → Bool
any_key _ = true

-- all pairs that occur
abbrev pub all_pairs : Profile → Finders → Config → Option ℕ → Pairs
all_pairs p f config column = record {
  shows = is_heavy_pair (figures p f config column) any_key 0;
  value = (figures p f config column).sum_of_pair any_key;
  keys = (figures p f config column).keys;
}

-- of these pairs those of which an end is a key of its own
abbrev pub pairs_about : (Written → Bool) → Pairs → Pairs
pairs_about own pairs = record {
  shows = λ caller callee. (own caller || own callee) && pairs.shows caller callee;
  value = pairs.value;
  keys = pairs.keys;
}
