use Rattle.std.proofs.Common.{rules, ◌≡◌, [], length, sym, ap, subst, ◌∙◌}
use Rattle.pp_model.specs.declared.profile.Profile.{Profile}
use Rattle.pp_model.specs.Rules.{NoRuleFails, IsCompact}
use Rattle.pp_merge.specs.Merge.{contents, merged}
use Rattle.pp_merge.specs.Settled.{IsSettled}
use Rattle.pp_share.specs.Header.{header_of}
use Rattle.pp_share.specs.Written.{Contents, written}
use Rattle.pp_merge.proofs.SettledLemmas.{settled_contents}
use Rattle.pp_merge.proofs.WrittenAgain.{contents_again}
use Rattle.pp_restack.specs.Places.{with_cut}
use Rattle.pp_restack.specs.Stacks.{patternless}
use Rattle.pp_restack.proofs.MadeContents.{starts_of}
use Rattle.pp_count.specs.Rising.{AreRisingBetween}
use Rattle.pp_dump.specs.Saved.{saved_contents, saved}
use Rattle.pp_dump.specs.Stacks.{KeepsStacks}
use Rattle.pp_dump.specs.Unfiltered.{KeepsSums, KeepsKeys}
use Rattle.pp_dump.proofs.KeptStacks.{keeps_stacks, left_is}
use Rattle.pp_dump.proofs.NaturalStacks.{keeps_keys}
use Rattle.pp_dump.proofs.SavedHeader.{header_cut, same_column}
use Rattle.pp_dump.proofs.SeenStacks.{keeps_sums}
use Rattle.pp_dump.proofs.WholeStacks.{whole_left}
use Rattle.pp_dump.proofs.CutContents.{contents_saved, alone_valid, alone_compact}
use Rattle.pp_dump.proofs.CutSizes.{cut_countable}
use Rattle.pp_dump.proofs.saved.saved_profile.Goals as goal

-- what was cut has samples of the profile, each at most once
pub merge_alone_on-requires : goal.merge_alone_on-requires
merge_alone_on-requires g c =
    let is = c.in_ok-cut.ensures in (
      search rules,
      cut_countable c.args.l.now c.args.v.now c.as_slice.result.now c.in_ok-cut.cut is c.requires.verdicts
          (subst (AreRisingBetween 0 (length c.args.l.now.profile.sample)) (sym c.as_slice.ensures) c.requires.kept) c.requires.countable,
    )

-- what was cut is merged alone
pub returns-clause-saved : goal.returns-clause-saved
returns-clause-saved g c f filtering holds kept =
    let is = c.in_ok-cut.ensures in
    c.in_ok-q.ensures ∙ ap (λ (p : Profile). merged p []) is.is
    ∙ ap written
    (contents_saved c.args.l.now c.args.v.now f filtering c.as_slice.result.now is.samples is.locations is.valid holds.found (c.as_slice.ensures ∙ kept) is.adds)

-- so it keeps the stacks that the filters leave
pub returns-clause-stacks : goal.returns-clause-stacks
returns-clause-stacks g c f filtering holds kept again =
    let is = c.in_ok-cut.ensures in
    let p = c.args.l.now.profile in
    let cut = with_cut p is.samples is.locations in
    let starts = starts_of p is.samples is.locations is.starts in
    let same : contents cut [] ≡ saved_contents p f filtering =
    contents_saved c.args.l.now c.args.v.now f filtering c.as_slice.result.now is.samples is.locations is.valid holds.found (c.as_slice.ensures ∙ kept) is.adds in
    let saved_is : c.in_ok-q.q ≡ saved p f filtering = c.in_ok-q.ensures ∙ ap (λ (q : Profile). merged q []) is.is ∙ ap written same in
    subst (KeepsStacks p f filtering) (sym saved_is)
    (keeps_stacks p f filtering is.valid starts again (subst IsSettled same (settled_contents cut [] starts)))

-- and what is merged alone stays as it is
pub returns-clause-again : goal.returns-clause-again
returns-clause-again g c =
    let is = c.in_ok-cut.ensures in
    let cut = with_cut c.args.l.now.profile is.samples is.locations in
    let merge : c.in_ok-q.q ≡ merged cut [] = c.in_ok-q.ensures ∙ ap (λ (p : Profile). merged p []) is.is in
    subst (λ (q : Profile). merged q [] ≡ q) (sym merge)
    (ap written (contents_again (contents cut []) (settled_contents cut [] (starts_of c.args.l.now.profile is.samples is.locations is.starts))))

-- what is merged keeps the table rules
pub returns-clause-valid : goal.returns-clause-valid
returns-clause-valid g c = alone_valid c.in_ok-cut.cut c.in_ok-q.q c.in_ok-q.ensures

-- without filters its stacks are left whole, so the sums are kept
pub returns-clause-sums : goal.returns-clause-sums
returns-clause-sums g c f config holds kept again =
    let q = c.in_ok-q.q in
    let compact : IsCompact q = alone_compact c.in_ok-cut.cut q c.in_ok-q.ensures in
    let valid : NoRuleFails q = alone_valid c.in_ok-cut.cut q c.in_ok-q.ensures in
    keeps_sums c.args.l.now.profile f config q (returns-clause-stacks g c f config.filtering holds kept again)
    (λ d tagfocus tagignore. whole_left q compact.locations d.filtering tagfocus tagignore valid)

-- and where no value is below 0 the keys that occur
pub returns-clause-keys : goal.returns-clause-keys
returns-clause-keys g c f config holds kept again =
    let is = c.in_ok-cut.ensures in
    let p = c.args.l.now.profile in
    let q = c.in_ok-q.q in
    let compact : IsCompact q = alone_compact c.in_ok-cut.cut q c.in_ok-q.ensures in
    let valid : NoRuleFails q = alone_valid c.in_ok-cut.cut q c.in_ok-q.ensures in
    let cut = with_cut p is.samples is.locations in
    let starts = starts_of p is.samples is.locations is.starts in
    let same : contents cut [] ≡ saved_contents p f config.filtering =
    contents_saved c.args.l.now c.args.v.now f config.filtering c.as_slice.result.now is.samples is.locations is.valid holds.found (c.as_slice.ensures ∙ kept) is.adds in
    let saved_is : q ≡ saved p f config.filtering = returns-clause-saved g c f config.filtering holds kept in
    subst (KeepsKeys p f config) (sym saved_is)
    (λ least d alike column within.
    keeps_keys column p f config is.valid within least (subst IsSettled same (settled_contents cut [] starts)) (left_is p f config.filtering is.valid starts again)
    (subst (KeepsSums p f config) saved_is (returns-clause-sums g c f config holds kept again))
    (λ e tagfocus tagignore. whole_left (saved p f config.filtering) (subst IsCompact saved_is compact).locations e.filtering tagfocus tagignore (subst NoRuleFails saved_is valid))
    d alike)

-- the header is that of what was cut, so the columns are those of the profile
pub returns-clause-header : goal.returns-clause-header
returns-clause-header g c =
    let is = c.in_ok-cut.ensures in
    let p = c.args.l.now.profile in
    let cut = with_cut p is.samples is.locations in
    let starts = starts_of p is.samples is.locations is.starts in
    let header : header_of c.in_ok-q.q [] ≡ patternless p =
    ap (λ (q : Profile). header_of q []) (c.in_ok-q.ensures ∙ ap (λ (q : Profile). merged q []) is.is)
    ∙ ap (λ (what : Contents). what.header) (contents_again (contents cut []) (settled_contents cut [] starts))
    ∙ header_cut p is.samples is.locations is.valid in
    record { header = header; columns = same_column p c.in_ok-q.q header }

-- each mapping was read
pub returns-clause-starts : goal.returns-clause-starts
returns-clause-starts g c = c.in_ok-cut.ensures.starts
