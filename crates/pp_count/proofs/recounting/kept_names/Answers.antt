use Rattle.pp_count.proofs.Edged.{kept_more}
use Rattle.pp_count.proofs.recounting.kept_names.Goals as goal

pub loop-name-preserved : goal.loop-name-preserved
loop-name-preserved c = kept_more c.args.keep.now c.loop-name.name c.loop-name.kept c.push_kept.new.kept c.loop-name.invariant c.in_ok-push_kept.ensures
