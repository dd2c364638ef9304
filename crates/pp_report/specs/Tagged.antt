-- The profile that a report is made of: the loaded one, or that one with frames made from labels.
use Rattle.std.specs.Prelude.{if◌then◌else◌}
use Rattle.pp_model.specs.declared.loaded.Loaded.{Loaded}
use Rattle.pp_model.specs.declared.report.Report.{Report}
use Rattle.pp_model.specs.declared.presentation.Presentation.{Presentation}
use Rattle.pp_model.specs.ReportFacts.{is_counted}
use Rattle.pp_pseudo.specs.Basis.{framed_for}

-- What a report is made of, also the texts that its patterns are asked of. One that counts no samples is made of the
-- loaded profile.
unfoldable pub basis_of : Report → Loaded → Presentation → Loaded
basis_of report l presentation = if is_counted report then framed_for l presentation else l
