-- Where a reader of bytes stands in a head, so that each byte is read once however they are cut.
use Rattle.std.specs.Prelude.{ℕ, suc, ◌==◌, if◌then◌else◌, List, [], ◌∷◌, Option, Some, None, option_map}
use Rattle.httparse.specs.Ascii.{line_feed, carriage_return}
use Rattle.web_frame.specs.declared.scan.State.{State}
use Rattle.web_frame.specs.declared.scan.State.TheVariants.{Before, BeforeReturn, Inside, LineStart, LineReturn}

-- the state after a byte, or none where the byte ends the head
unfoldable pub state_after : State → ℕ → Option State
state_after Before b = Some (if b == line_feed then Before else (if b == carriage_return then BeforeReturn else Inside))
state_after BeforeReturn b = Some (if b == line_feed then Before else Inside)
state_after Inside b = Some (if b == line_feed then LineStart else Inside)
state_after LineStart b = if b == line_feed then None else Some (if b == carriage_return then LineReturn else Inside)
state_after LineReturn b = if b == line_feed then None else Some Inside

-- the state after some bytes, or none where the head ends in them
unfoldable pub state_past : State → List ℕ → Option State
state_past state [] = Some state
state_past state (b ∷ bytes) = elim (state_after state b) [ None ↦ None | Some next ↦ state_past next bytes ]

-- how many bytes there are up to the end of the head
unfoldable pub end_from : State → List ℕ → Option ℕ
end_from state [] = None
end_from state (b ∷ bytes) =
    elim (state_after state b) [ None ↦ Some 1 | Some next ↦ option_map suc (end_from next bytes) ]
