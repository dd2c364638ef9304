-- Faults that are passed on.
use Rattle.std.proofs.Common.{◌≡◌, sym, subst}
use Rattle.std.specs.Prelude.{Result, Ok, Err, IsErrAnd}
use Rattle.pp_legacy.specs.declared.fault.LegacyFault.{LegacyFault}
use Rattle.pp_legacy.specs.declared.fault.LegacyRefusal.{LegacyRefusal}
use Rattle.pp_legacy.specs.declared.fault.LegacyRefusal.TheVariants as refusal
use Rattle.pp_legacy.specs.Steps.{Reading, GivesOrMemory}

-- a fault of the file is answered
pub told : {X Y : Type 0} (view : X → Y) (r : Result X LegacyRefusal) (fault : LegacyFault) (read : Reading Y)
    → IsErrAnd r (λ e. e ≡ refusal.Fault fault) → read ≡ Err fault → GivesOrMemory view r read
told view (Ok x) fault read is same = absurd is
told view (Err e) fault read is same = subst (λ f. GivesOrMemory view (Err f) read) (sym is) same

-- a refusal of one step is answered by the whole
pub passed_on : {X Y Z W : Type 0} (see : X → Y) (view : Z → W) (r : Result Z LegacyRefusal) (e : LegacyRefusal) (first : Reading Y) (whole : Reading W)
    → IsErrAnd r (λ f. f ≡ e) → GivesOrMemory see (Err e) first → ((fault : LegacyFault) → first ≡ Err fault → whole ≡ Err fault) → GivesOrMemory view r whole
passed_on see view (Ok x) e first whole is given so = absurd is
passed_on see view (Err f) e first whole is given so = subst (λ g. GivesOrMemory view (Err g) whole) (sym is) (of_refusal e given)
  where
    of_refusal : (g : LegacyRefusal) → GivesOrMemory see (Err g) first → GivesOrMemory view (Err g) whole
    of_refusal (refusal.Fault fault) told_first = so fault told_first
    of_refusal refusal.Memory told_first = tt
