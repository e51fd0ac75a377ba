-- The head that some bytes are, and the length behind it.
use Rattle.std.specs.Prelude.{◌≡◌, ℕ, List, [], ◌∷◌, map, true, Option, Result}
use Rattle.std.specs.List.{filter_map}
use Rattle.httparse.specs.declared.spans.HeaderSpan.{HeaderSpan}
use Rattle.httparse.specs.declared.spans.ResponseSpans.{ResponseSpans}
use Rattle.httparse.specs.Grammar.{ResponseHead}
use Rattle.httparse.specs.Spans.{IsResponseAt, header_bytes}
use Rattle.dap_client.specs.declared.fault.ClientFault.{ClientFault}
use Rattle.dap_client.specs.Reply.{IsHeadIn, IsReplyHead, is_length, len_after, length_in}

-- the bytes are one head of at most 64 lines, and the spans cover its parts
pub record IsHeadAt (bytes : List ℕ) (headers : List HeaderSpan) (spans : ResponseSpans) : Type 0 where
  pub head : ResponseHead
  pub is : IsReplyHead bytes head
  pub parts : IsResponseAt bytes headers spans head

-- the length behind the head that the bytes are, or the first fault of the head
pub record IsLenAfter (bytes : List ℕ) (result : Result ℕ ClientFault) : Type 0 where
  pub head : Option ResponseHead
  pub head_is : IsHeadIn bytes head
  pub len_is : result ≡ len_after head

-- the values of the `Content-Length` lines
abbrev pub lengths : List ℕ → List HeaderSpan → List (List ℕ)
lengths bytes lines = filter_map length_in (map (header_bytes bytes) lines)

-- the first line is a `Content-Length`, if there is one
abbrev pub IsLengthFirst : List ℕ → List HeaderSpan → Type 0
IsLengthFirst bytes [] = Unit {0}
IsLengthFirst bytes (line ∷ lines) = is_length (header_bytes bytes line) ≡ true
