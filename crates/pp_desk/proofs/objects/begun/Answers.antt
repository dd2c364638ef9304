use Rattle.std.proofs.Common.{refl}
use Rattle.pp_desk.specs.Reader.{to_come}
use Rattle.pp_desk.proofs.objects.begun.Goals as goal

-- a new reader has all lines to come
pub returns-in_ok-new-in-None-clause-ok : goal.returns-in_ok-new-in-None-clause-ok
unfolding to_come
returns-in_ok-new-in-None-clause-ok c = λ left. rw (c.in_ok-new-in-None.ensures, c.in-None.is) refl
