use Rattle.pp_filter.proofs.filtering.save.Goals as goal

-- the numbers of the samples that were kept rise
pub saved_profile-requires-clause-kept : goal.saved_profile-requires-clause-kept
saved_profile-requires-clause-kept g c = λ _ _.
    c.in_ok-counted.ensures.rising

-- so just these are saved
pub returns : goal.returns
returns g c f holds = c.saved_profile.ensures.saved f c.args.config.now.filtering holds (c.in_ok-counted.ensures.kept f holds)
