use Rattle.std.proofs.Common.{◌≡◌, ℕ, suc, ◌+◌, ◌<◌, ◌==◌, Bool, false, List, [], ◌∷◌, length, get_or, take, drop, refl, arith, sym, ap, ◌∙◌, rules}
use Rattle.std.specs.List.{list_any, position_or_len}
use Rattle.std.proofs.lemmas.List.{take_all}
use Rattle.std.proofs.lemmas.List.Sums.{position_or_len_is}
use Rattle.pp_units.proofs.scan.cut_at.Goals as goal

-- no item passes
none_passes : (test : ℕ → Bool) (xs : List ℕ) → ((k : ℕ) → k < length xs → test (get_or xs k 0) ≡ false) → list_any test xs ≡ false
none_passes test [] h = refl
none_passes test (x ∷ xs) h = rw (h 0 (omega arith)) (none_passes test xs (λ k below. h (suc k) (omega arith)))

pub returns-then-b-byte-clause-before : goal.returns-then-b-byte-clause-before
returns-then-b-byte-clause-before c =
    let text = c.args.text.now in
    let first : position_or_len (λ b. b == c.args.byte) text ≡ c.loop-at.at = position_or_len_is (λ b. b == c.args.byte) text c.loop-at.at 0 (omega arith) c.loop-at.invariant (λ _. search rules) in
    c.split_at.ensures.front ∙ ap (λ n. take n text) (sym first)

pub returns-then-b-byte-clause-after : goal.returns-then-b-byte-clause-after
returns-then-b-byte-clause-after c =
    let text = c.args.text.now in
    let first : position_or_len (λ b. b == c.args.byte) text ≡ c.loop-at.at = position_or_len_is (λ b. b == c.args.byte) text c.loop-at.at 0 (omega arith) c.loop-at.invariant (λ _. search rules) in
    c.split_at-then-b-byte.ensures.back ∙ ap (λ n. drop (n + 1) text) (sym first)

pub returns-clause-found : goal.returns-clause-found
returns-clause-found c = sym (none_passes (λ b. b == c.args.byte) c.args.text.now (λ k h. c.loop-at.invariant k (omega arith)))

pub returns-clause-whole : goal.returns-clause-whole
returns-clause-whole c =
    let text = c.args.text.now in
    let all : position_or_len (λ b. b == c.args.byte) text ≡ length text = position_or_len_is (λ b. b == c.args.byte) text (length text) 0 (omega arith) (λ k h. c.loop-at.invariant k (omega arith)) (λ h. absurd (omega arith)) in
    ap (λ n. take n text) all ∙ take_all (length text) text (omega arith)
