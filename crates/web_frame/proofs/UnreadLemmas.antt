-- A reader that has looked at some bytes finds the end of the head in the others.
use Rattle.std.proofs.Common.{◌≡◌, ℕ, ◌+◌, ◌≤◌, List, ◌++◌, length, take, drop, Option, Some, None, refl, sym, ap, ◌∙◌, arith}
use Rattle.std.specs.Option.{option_map}
use Rattle.std.proofs.lemmas.List.{take-append-drop, length-take-le, take_all}
use Rattle.web_frame.specs.declared.scan.State.{State}
use Rattle.web_frame.specs.declared.scan.State.TheVariants.{Before}
use Rattle.web_frame.specs.Cut.{head_len}
use Rattle.web_frame.specs.Scan.{state_past, end_from}
use Rattle.web_frame.proofs.CutLemmas.{end_from-before, end_from_past, state_past_past}

-- the end of the head, from the bytes that were not looked at
pub head_len_from : (bytes : List ℕ) (scanned : ℕ) (state : State) → scanned ≤ length bytes
    → state_past Before (take scanned bytes) ≡ Some state
    → head_len bytes ≡ option_map (λ n. scanned + n) (end_from state (drop scanned bytes))
head_len_from bytes scanned state fits is =
    sym (end_from-before bytes) ∙ ap (end_from Before) (sym (take-append-drop scanned bytes))
    ∙ end_from_past Before state (take scanned bytes) (drop scanned bytes) is
    ∙ ap (λ k. option_map (λ n. k + n) (end_from state (drop scanned bytes))) (length-take-le scanned bytes fits)

-- the state past all bytes
pub state_past_all : (bytes : List ℕ) (scanned : ℕ) (state next : State)
    → state_past Before (take scanned bytes) ≡ Some state
    → state_past state (drop scanned bytes) ≡ Some next → state_past Before (take (length bytes) bytes) ≡ Some next
state_past_all bytes scanned state next is after =
    ap (state_past Before) (take_all (length bytes) bytes (omega arith) ∙ sym (take-append-drop scanned bytes))
    ∙ state_past_past Before state (take scanned bytes) (drop scanned bytes) is ∙ after
