-- Bytes that spell a message are read as that message, and a fault stands where no message goes on.
use Rattle.std.proofs.Common.{◌≡◌, List, ℕ, Result, Ok, Err, IfOk, refl, sym, ◌∙◌}
use Rattle.fm_base.specs.declared.fail.Fail.{Fail}
use Rattle.fm_base.specs.declared.fail.Fail.TheVariants as fails
use Rattle.fm_base.specs.Answer.{Answers, ForFault, IsReadAs}
use Rattle.fm_base.specs.Input.{Input, whole}
use Rattle.nc_model.specs.Format.{IsBytes}
use Rattle.dap_client.specs.declared.message.Message.{Message}
use Rattle.dap_client.specs.DataReading.{message_at, message_or_fault}
use Rattle.dap_client.specs.Message.{IsBadData, Spells}
use Rattle.dap_client.specs.Reading.{Reads}
use Rattle.dap_client.proofs.MessageLaws.{bad_of_fault, read_of_spelled, spelled_of_read}

-- what reading all of a message returns is the outcome of the definition
pub Answers-from_Reads : (bytes : List ℕ) (i left : Input) (r : Result Message (Fail ℕ)) → i ≡ whole bytes
    → Reads (λ (m : Message). m) (message_at i) r left → Answers (message_or_fault bytes) r
unfolding message_or_fault
Answers-from_Reads bytes i left (Ok found) start e = rw (← start, e) refl
Answers-from_Reads bytes i left (Err fails.NoMemory) start e = tt
Answers-from_Reads bytes i left (Err (fails.Fault fault)) start e = rw (← start, e) refl

-- what is read is spelled
pub spelled-from_Answers : (bytes : List ℕ) (r : Result Message (Fail ℕ)) → IsBytes bytes
    → Answers (message_or_fault bytes) r → IfOk r (Spells bytes)
spelled-from_Answers bytes (Ok found) of e = spelled_of_read bytes found of e
spelled-from_Answers bytes (Err fail) of e = tt

-- what is spelled is read
pub read-from_Answers : (bytes : List ℕ) (r : Result Message (Fail ℕ)) → Answers (message_or_fault bytes) r
    → (message : Message) → Spells bytes message → IsReadAs message r
read-from_Answers bytes (Ok found) e message spelled = let same = sym e ∙ read_of_spelled bytes message spelled in cc
read-from_Answers bytes (Err fails.NoMemory) e message spelled = refl
read-from_Answers bytes (Err (fails.Fault fault)) e message spelled =
    let same = sym e ∙ read_of_spelled bytes message spelled in absurd cc

-- a fault stands where no message goes on
pub bad-from_Answers : (bytes : List ℕ) (r : Result Message (Fail ℕ)) → IsBytes bytes
    → Answers (message_or_fault bytes) r → ForFault r (IsBadData bytes)
bad-from_Answers bytes (Ok found) of e = tt
bad-from_Answers bytes (Err fails.NoMemory) of e = tt
bad-from_Answers bytes (Err (fails.Fault fault)) of e = bad_of_fault bytes fault of e
