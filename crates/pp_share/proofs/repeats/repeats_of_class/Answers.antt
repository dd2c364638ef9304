use Rattle.std.proofs.Common.{length, sym, subst}
use Rattle.std.specs.Prelude.{All}
use Rattle.std.proofs.lemmas.Bool.{OnTrue_at}
use Rattle.std.proofs.lemmas.List.Sorted.{IsPermutation-trans}
use Rattle.std.proofs.lemmas.Result.{IfOk-weaker}
use Rattle.pp_share.specs.Renumbered.{new_ids}
use Rattle.pp_share.specs.Repeats.{AreEqual, IsPair}
use Rattle.pp_share.proofs.RepeatLemmas.{class_found, equal_found, pairs_found}
use Rattle.pp_share.proofs.repeats.repeats_of_class.Goals as goal

-- each pair of one hash names two of the samples
pub are_equal-requires : goal.are_equal-requires
are_equal-requires c =
    subst (All (IsPair (length c.args.samples.now))) (sym c.deref.ensures.value)
    (pairs_found (new_ids c.args.by.now) c.args.samples.now c.args.hashes.now c.args.class c.requires c.in_ok-placed.placed.items c.sort_out.new.placed.items c.in_ok-placed.ensures
    c.in_ok-repeats.ensures.same c.in_ok-repeats.repeats.items c.in_ok-repeats.ensures.found)

-- the samples of each pair of one hash are equal
pub returns-then-are_equal : goal.returns-then-are_equal
returns-then-are_equal c =
    let by = new_ids c.args.by.now in
    let samples = c.args.samples.now in
    equal_found by samples c.args.hashes.now c.args.class c.requires c.in_ok-placed.placed.items c.sort_out.new.placed.items c.in_ok-placed.ensures c.in_ok-repeats.ensures.same
    c.in_ok-repeats.repeats.items c.in_ok-repeats.ensures.found
    (subst (All (AreEqual by samples)) c.deref.ensures.value (OnTrue_at c.if-are_equal.true c.are_equal.ensures))

-- the samples are sorted again, by what they are
pub returns : goal.returns
returns c =
    let first = c.in_ok-placed.placed.items in
    let by_hash = c.sort_out.new.placed.items in
    let placed = c.sort_out-2.new.placed.items in
    IfOk-weaker c.sort_out-2.result _ _
    (λ repeats found.
    class_found (new_ids c.args.by.now) c.args.samples.now c.args.hashes.now c.args.class c.requires first placed c.in_ok-placed.ensures
    (IsPermutation-trans first by_hash placed c.in_ok-repeats.ensures.same c.sort_out-2.ensures.same) repeats.items found)
    c.sort_out-2.ensures.found
