-- What a write that broke off has left.
use Rattle.std.proofs.Common.{◌≡◌, ◌/◌, ℕ, List, Some, false, length, ap}
use Rattle.std.proofs.Common.{inr}
use Rattle.pp_base.specs.FileMap.{with_file, among}
use Rattle.pp_base.specs.FileAnswers.{AnswersWrite, LeavesFront}
use Rattle.pp_base.specs.Held.{FilesHeld}
use Rattle.pp_base.specs.MemForms.{half_of}
use Rattle.pp_base.specs.declared.files.FileWrite.TheVariants.{Failed}
use Rattle.pp_base.proofs.CallerLemmas.{take-IsFront}

-- the first half is a front
pub half_left : (old new : FilesHeld) (path bytes : List ℕ) → among old.locked path ≡ false
    → new ≡ record {
      content = with_file old.content path (half_of bytes);
      locked = old.locked;
      reads = old.reads;
    }
    → AnswersWrite (Some old.content) (Some new.content) (Some old.locked) path bytes Failed
half_left old new path bytes free is =
    let front : LeavesFront (Some old.content) (Some new.content) path bytes =
    (half_of bytes, take-IsFront (length bytes / 2) bytes, ap (λ (f : FilesHeld). Some f.content) is) in
    (inr front, (λ locked. cc, λ _. front))
