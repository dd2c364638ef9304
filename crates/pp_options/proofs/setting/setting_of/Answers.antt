use Rattle.std.proofs.Common.{◌≡◌, rules, ap, ◌∙◌, sym, option_map}
use Rattle.pp_options.specs.declared.setting.Setting.TheVariants as settings
use Rattle.pp_options.specs.Settings.{setting_of}
use Rattle.pp_options.proofs.SettingLemmas.{read_fraction_is}
use Rattle.pp_options.proofs.setting.setting_of.Goals as goal

-- the fraction that was read is that of its billionths
pub returns-in-Fraction-clause-value : goal.returns-in-Fraction-clause-value
unfolding setting_of
returns-in-Fraction-clause-value c =
    let mapped : c.map-in-Fraction.result ≡ option_map (settings.Fraction c.in-Fraction.which) c.read_fraction.result = search rules in
    mapped
    ∙ read_fraction_is (settings.Fraction c.in-Fraction.which) _ _ c.read_fraction.ensures
    ∙ ap (λ v. setting_of v c.args.value.now) (sym c.in-Fraction.is)
