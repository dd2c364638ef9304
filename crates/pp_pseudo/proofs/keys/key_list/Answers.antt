use Rattle.pp_pseudo.proofs.KeyLemmas.{keys_more, keys_end}
use Rattle.pp_pseudo.proofs.keys.key_list.Goals as goal

-- a part is cut off
pub loop-part-preserved : goal.loop-part-preserved
loop-part-preserved c =
    keys_more c.loop-part.keys _ _ c.loop-part.rest.now _ _ c.loop-part.invariant c.in-Some.ensures.found
    c.in-Some.ensures.before c.in-Some.ensures.after c.in_ok-push_key.ensures

-- the rest is the last part
pub returns : goal.returns
returns c = keys_end c.loop-part.keys _ _ c.loop-part.rest.now c.loop-part.invariant c.in_default.ensures.found c.in_ok-push_key-2.ensures
