use Rattle.pp_example.proofs.show_ranked.Goals as goal

-- what was counted and ranked can be shown
pub show-requires : goal.show-requires
show-requires c =
    let (v, column, counted) = c.requires in
    let ranked = c.in_ok-ranked.ensures v column counted in
    record { keys = counted.of_profile; fits = counted.fits; below = ranked.below; small = ranked.small }
