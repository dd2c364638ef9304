use Rattle.std.proofs.Common.{◌++◌, ◌<◌, length, ap, ◌∙◌, arith, map}
use Rattle.std.proofs.lemmas.List.{take_all}
use Rattle.pp_source.specs.Paths.{in_folder}
use Rattle.pp_source.proofs.PathLemmas.{in_folders}
use Rattle.pp_source.proofs.paths.put_under.Goals as goal

pub returns : goal.returns
returns c =
    let some : 0 < length c.args.folders.now = grind (arith, c.is_empty.ensures, c.if-is_empty.false) in
    c.loop-folder.invariant
    ∙ ap (λ fs. c.args.paths.now ++ map (λ f. in_folder c.args.path.now f.now) fs) (take_all c.loop-folder.folder-index c.args.folders.now (omega (arith, c.loop-folder-test.false)))
    ∙ ap (λ ps. c.args.paths.now ++ ps) (in_folders c.args.folders.now c.args.path.now _ some)
