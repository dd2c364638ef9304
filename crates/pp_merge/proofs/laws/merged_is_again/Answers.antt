use Rattle.std.proofs.Common.{ap}
use Rattle.pp_merge.specs.Merge.{contents}
use Rattle.pp_share.specs.Written.{written}
use Rattle.pp_merge.proofs.SettledLemmas.{settled_contents}
use Rattle.pp_merge.proofs.WrittenAgain.{contents_again}
use Rattle.pp_merge.proofs.laws.merged_is_again.Goals as goal

-- what is settled is written and read back as it is
pub returns : goal.returns
returns c = λ p ps starts. ap written (contents_again (contents p ps) (settled_contents p ps starts))
