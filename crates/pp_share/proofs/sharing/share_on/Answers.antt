use Rattle.std.proofs.Common.{subst}
use Rattle.std.proofs.lemmas.Result.{IfOk-weaker}
use Rattle.pp_share.specs.Renumbered.{new_ids}
use Rattle.pp_share.specs.Walked.{IsWalked}
use Rattle.pp_share.proofs.ShareLemmas.{shared_is, shared_named, still_wide, still_fits}
use Rattle.pp_share.proofs.sharing.share_on.Goals as goal

-- what is written of the shared tables
pub returns : goal.returns
returns g c =
    IfOk-weaker c.write-written.result _ _
    (λ r is.
    shared_is c.args.p c.requires.joined c.in_ok-profile.ensures.few c.in_ok-profile.profile r (new_ids c.in_ok-profile.by) c.in_ok-profile.ensures.tables c.in_ok-profile.ensures.samples
    (subst (λ q. IsWalked q r) c.in_ok-sum_hashed_on.ensures is))
    c.write-written.ensures

-- values stay as they are
pub sum_hashed_on-requires-clause-sums : goal.sum_hashed_on-requires-clause-sums
sum_hashed_on-requires-clause-sums g c = λ _ _. record {
  wide = still_wide c.args.p c.in_ok-profile.profile c.in_ok-profile.ensures.tables c.requires.wide;
  fits = still_fits c.args.p c.in_ok-profile.profile c.in_ok-profile.ensures.tables c.requires.fits;
}

-- and so do the locations that samples name
pub write-written-requires-clause-named : goal.write-written-requires-clause-named
write-written-requires-clause-named g c =
    let by = new_ids c.in_ok-profile.by in
    shared_named c.args.p c.requires.joined c.in_ok-profile.ensures.few c.in_ok-profile.profile c.sum_hashed_on.new.p by by c.in_ok-profile.ensures.tables c.in_ok-profile.ensures.samples
    c.in_ok-sum_hashed_on.ensures
