use Rattle.pp_source.proofs.listing.list_report.Goals as goal

pub returns : goal.returns
returns g c f holds = c.list_ledger-text.ensures f holds (c.in_ok-ledger.ensures.sums f holds)
