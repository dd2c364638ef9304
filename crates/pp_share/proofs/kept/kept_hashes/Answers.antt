use Rattle.std.proofs.Common.{Option, None, Some}
use Rattle.std.specs.Prelude.{IfSome}
use Rattle.std.proofs.lemmas.Bool.{OnTrue_at}
use Rattle.pp_share.specs.declared.hashes.Hashes.{Hashes}
use Rattle.pp_share.specs.Hashes.{AreHashes, AreOwnHashes}
use Rattle.pp_share.specs.Renumbered.{new_ids}
use Rattle.pp_share.proofs.KeptHashes.{known_kept}
use Rattle.pp_share.proofs.kept.kept_hashes.Goals as goal

-- samples that keep their ids keep their hashes
pub returns-then-keeps_samples : goal.returns-then-keeps_samples
returns-then-keeps_samples c = each c.args.known c.requires
  where
    each : (known : Option Hashes) → IfSome known (AreOwnHashes c.args.samples.now) → IfSome known (AreHashes (new_ids c.args.by.now) c.args.samples.now)
    each None none = none
    each (Some known) are = known_kept c.args.by.now (OnTrue_at c.if-keeps_samples.true c.keeps_samples.ensures) c.args.samples.now known are
