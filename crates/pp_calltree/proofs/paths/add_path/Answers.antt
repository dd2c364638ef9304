use Rattle.std.proofs.Common.{◌≡◌, ℕ, pos, false, cond, List, ◌++◌, ◌∷◌, [], IfOk, sym, ap, subst, ◌∙◌, w64, of_z}
use Rattle.std.specs.Ordering.{int_eq}
use Rattle.std.proofs.lemmas.Bool.{false_from_ne_true}
use Rattle.std.proofs.lemmas.Bool.Decides.{Decides-int_eq}
use Rattle.std.proofs.lemmas.Int.{to_z-of_z}
use Rattle.pp_count.specs.Sums.{Seen}
use Rattle.pp_calltree.specs.CallTree.{rooted}
use Rattle.pp_calltree.specs.Paths.{AreKeptAs}
use Rattle.pp_calltree.proofs.paths.add_path.Goals as goal

pub returns : goal.returns
returns c = λ samples kept.
    let some : int_eq c.args.value (pos 0) ≡ false = false_from_ne_true (int_eq c.args.value (pos 0)) (λ e. c.if-value-eq0.false (ap (of_z w64) ((Decides-int_eq c.args.value (pos 0)).0 e))) in
    subst (λ (xs : List (Seen ℕ)). IfOk c.add.result (λ _. AreKeptAs c.add.new.self (samples ++ xs)))
    ((λ i. rooted (record { value = to_z-of_z w64 c.args.value c.ranges.value i; keys = c.args.keys.now }) ∷ [])
    ∙ sym (ap (λ b. cond b [] (rooted (record { value = c.args.value; keys = c.args.keys.now }) ∷ [])) some)) (c.add.ensures samples kept)
