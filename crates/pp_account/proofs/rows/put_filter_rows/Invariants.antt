use Rattle.std.proofs.Common.{◌≡◌}
use Rattle.pp_model.specs.Finders.{Finders}
use Rattle.pp_units.specs.Head.{facts}
use Rattle.pp_count.specs.Seeing.{HoldsFilters}
use Rattle.pp_account.specs.Account.{dropping}
use Rattle.pp_account.specs.Lines.{filter_line}
use Rattle.pp_account.proofs.Putting.{Putting}
use Rattle.pp_account.proofs.rows.put_filter_rows.Given as goal

-- the rows of the filters so far are there
abbrev pub invariant-loop-slot : goal.invariant-loop-slot
invariant-loop-slot l = (f : Finders) → HoldsFilters l.survey.l.now l.survey.v.now l.survey.config.now.filtering f
    → Putting (filter_line f l.survey.config.now.filtering l.portions (facts l.head)) dropping l.initial.out l.slot-index l.out
