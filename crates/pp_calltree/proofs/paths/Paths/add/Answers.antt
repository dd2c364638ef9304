use Rattle.std.proofs.Common.{ℤ, ◌++◌, ◌∷◌, [], length, reverse, sym, subst, w64, to_z, of_z}
use Rattle.std.proofs.lemmas.Int.{to_z-of_z}
use Rattle.std.proofs.lemmas.List.{length-reverse}
use Rattle.pp_calltree.specs.Paths.{AreKeptAs}
use Rattle.pp_calltree.proofs.Kept.{kept_more}
use Rattle.pp_calltree.proofs.paths.Paths.add.Goals as goal

pub returns : goal.returns
returns c = λ samples kept.
    subst (λ (z : ℤ). AreKeptAs (record { keys = c.put_rooted.new.out; parts = c.push.new.self }) (samples ++ record { value = z; keys = reverse c.args.keys.now } ∷ []))
    (to_z-of_z w64 c.args.value c.ranges.value)
    (kept_more c.args.self.now (record { keys = c.put_rooted.new.out; parts = c.push.new.self }) samples (record { value = to_z w64 (of_z w64 c.args.value); len = length c.args.keys.now })
    (reverse c.args.keys.now) c.in_ok-put_rooted.ensures c.in_ok-push.ensures.items (sym (length-reverse c.args.keys.now)) kept)
