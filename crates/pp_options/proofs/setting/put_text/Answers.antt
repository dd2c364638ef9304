use Rattle.std.proofs.Common.{ap, ◌∙◌, sym}
use Rattle.pp_options.specs.Settings.{with_text}
use Rattle.pp_options.proofs.SettingLemmas.{presented, surrounded}
use Rattle.pp_options.proofs.setting.put_text.Goals as goal

pub returns-in-Tagroot : goal.returns-in-Tagroot
returns-in-Tagroot c =
    presented c.args.config.now (record c.args.config.now.presentation { tagroot = c.args.text }) _ _ _
    ∙ ap (λ which. with_text c.args.config.now which c.args.text) (sym c.in-Tagroot.is)

pub returns-in-Tagleaf : goal.returns-in-Tagleaf
returns-in-Tagleaf c =
    presented c.args.config.now (record c.args.config.now.presentation { tagleaf = c.args.text }) _ _ _
    ∙ ap (λ which. with_text c.args.config.now which c.args.text) (sym c.in-Tagleaf.is)

pub returns-in-SampleIndex : goal.returns-in-SampleIndex
returns-in-SampleIndex c =
    presented c.args.config.now (record c.args.config.now.presentation { sample_index = c.args.text }) _ _ _
    ∙ ap (λ which. with_text c.args.config.now which c.args.text) (sym c.in-SampleIndex.is)

pub returns-in-Unit : goal.returns-in-Unit
returns-in-Unit c =
    presented c.args.config.now (record c.args.config.now.presentation { unit = c.args.text }) _ _ _
    ∙ ap (λ which. with_text c.args.config.now which c.args.text) (sym c.in-Unit.is)

pub returns-in-SourcePath : goal.returns-in-SourcePath
returns-in-SourcePath c =
    surrounded c.args.config.now (record c.args.config.now.environment { source_path = c.args.text }) _ _
    ∙ ap (λ which. with_text c.args.config.now which c.args.text) (sym c.in-SourcePath.is)

pub returns-in-TrimPath : goal.returns-in-TrimPath
returns-in-TrimPath c =
    surrounded c.args.config.now (record c.args.config.now.environment { trim_path = c.args.text }) _ _
    ∙ ap (λ which. with_text c.args.config.now which c.args.text) (sym c.in-TrimPath.is)
