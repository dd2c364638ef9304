-- The texts of names.
use Rattle.std.proofs.Common.{◌≢◌, All, Option, ap}
use Rattle.std.specs.Prelude.{AllPairs}
use Rattle.std.specs.Option.{option_map_or}
use Rattle.std.proofs.lemmas.Option.{slice_get-get_or}
use Rattle.pp_model.specs.Rules.{IsCompact}
use Rattle.pp_grain.specs.declared.key.Key.{Key}
use Rattle.pp_grain.specs.Keys.{key_written, IsKeyOf}
use Rattle.pp_count.specs.Table.{no_key}
use Rattle.pp_count.proofs.Keyed.{apart}
use Rattle.pp_calltree.specs.declared.texts.NameTexts.{NameTexts}
use Rattle.pp_calltree.specs.Laid.{CanLay}
use Rattle.pp_calltree.specs.Siblings.{no_written}

-- with the texts of all names, branches can be laid out
pub can_lay : (texts : NameTexts) → IsCompact texts.p.now → All (IsKeyOf texts.p.now) texts.names.now → AllPairs (λ a b. a ≢ b) texts.names.now
    → CanLay texts.p.now texts.names.now texts
can_lay texts compact keys distinct = record {
  apart = apart texts.p.now compact texts.names.now keys distinct;
  texts_are = λ k here. ap (λ (o : Option Key). option_map_or (key_written texts.p.now) o no_written) (slice_get-get_or texts.names.now k no_key here);
}
