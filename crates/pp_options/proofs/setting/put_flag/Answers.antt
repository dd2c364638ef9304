use Rattle.std.proofs.Common.{ap, ◌∙◌, sym}
use Rattle.pp_options.specs.Settings.{with_flag}
use Rattle.pp_options.proofs.SettingLemmas.{presented}
use Rattle.pp_options.proofs.setting.put_flag.Goals as goal

pub returns-in-PathTree : goal.returns-in-PathTree
returns-in-PathTree c =
    presented c.args.config.now (record c.args.config.now.presentation { path_tree = c.args.on }) _ _ _
    ∙ ap (λ which. with_flag c.args.config.now which c.args.on) (sym c.in-PathTree.is)

pub returns-in-RelativePercentages : goal.returns-in-RelativePercentages
returns-in-RelativePercentages c =
    presented c.args.config.now (record c.args.config.now.presentation { relative_percentages = c.args.on }) _ _ _
    ∙ ap (λ which. with_flag c.args.config.now which c.args.on) (sym c.in-RelativePercentages.is)
