use Rattle.std.proofs.Common.{◌&&◌, sym, ◌∙◌}
use Rattle.std.proofs.lemmas.List.Folds.{list_all-append}
use Rattle.pp_check.specs.Sound.{is_sound}
use Rattle.pp_share.specs.SampleKeys.{sample_hash}
use Rattle.pp_check.proofs.asking.AskingPiecewiseSample.append.Goals as goal

-- what is told of both parts
pub returns : goal.returns
returns c = λ xs ys a b. record {
  sound = (λ j. a.sound j && b.sound j) ∙ sym (list_all-append (is_sound c.args.self.now.p.now) xs ys);
  hashes = c.in_ok-hashes.ensures sample_hash xs ys a.hashes b.hashes;
}
