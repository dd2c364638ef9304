use Rattle.std.proofs.Common.{◌≡◌, List, ℕ, ◌++◌, Result, Ok, Err, OnOk, pos, append_assoc, ap, codes}
use Rattle.pp_units.specs.Shown.{shown, picked}
use Rattle.pp_units.specs.Numbers.{value_text}
use Rattle.pp_units.proofs.head.put_known.Goals as goal

-- five texts, one after the other
joined : {T E : Type 0} (r : Result T E) (l0 l1 l2 l3 l4 l5 a b c d e : List ℕ) → l1 ≡ l0 ++ a → l2 ≡ l1 ++ b → l3 ≡ l2 ++ c → l4 ≡ l3 ++ d → OnOk r (l5 ≡ l4 ++ e) → OnOk r (l5 ≡ l0 ++ ((((a ++ b) ++ c) ++ d) ++ e))
joined (Err x) l0 l1 l2 l3 l4 l5 a b c d e e1 e2 e3 e4 h = tt
joined (Ok x) l0 l1 l2 l3 l4 l5 a b c d e e1 e2 e3 e4 h = rw (h, e4, e3, e2, e1) (simp append_assoc)

pub returns : goal.returns
returns c =
    let own : value_text (pos c.args.nanoseconds) (shown c.in_ok-own.own) ≡ value_text (pos c.args.nanoseconds) (picked c.args.nanoseconds (codes "ns")) =
    ap (value_text (pos c.args.nanoseconds)) c.in_ok-own.ensures in
    let size : c.put_size.new.lines ≡ c.extend.new.self ++ value_text (pos c.args.nanoseconds) (picked c.args.nanoseconds (codes "ns")) =
    rw (← own) c.in_ok-put_size.ensures in
    joined c.extend-3.result c.args.lines.now c.extend.new.self c.put_size.new.lines c.extend-2.new.self c.put_size-2.new.lines c.extend-3.new.self _ _ _ _ _ c.in_ok-extend.ensures.ok size c.in_ok-extend-2.ensures.ok c.in_ok-put_size-2.ensures c.extend-3.ensures.ok
