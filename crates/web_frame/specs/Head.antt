-- The head that some bytes are, by the grammar of `httparse`. A grammar's head is printed in one way. So the parts that
-- a text would have as a head are cut out of it, and it is a head where they are valid and print it.
use Rattle.std.specs.Prelude.{ℕ, ◌-◌, Bool, true, false, ◌&&◌, ◌==◌, nat_lt, nat_le, if◌then◌else◌, List, [], ◌∷◌, length, reverse, map, slice_index}
use Rattle.std.specs.List.{before_first, after_first, slice_split, list_all}
use Rattle.std.specs.Str.{bytes_eq, is_utf8}
use Rattle.httparse.specs.Ascii.{line_feed, carriage_return, space, colon, digit_zero}
use Rattle.httparse.specs.Grammar.{LineEnd, crlf, lf, Field, RequestHead, print_request, is_token, is_uri_byte, is_value_byte}
use Rattle.web_frame.specs.Limit.{MAX_FIELDS}

-- a line: its text, and what ends it
pub record Line : Type 0 where
  pub text : List ℕ
  pub end : LineEnd

-- the line whose bytes before the LF, read backwards, are these
abbrev pub line_back : List ℕ → Line
line_back [] = record { text = []; end = lf }
line_back (b ∷ back) = if b == carriage_return then record { text = reverse back; end = crlf }
    else record { text = reverse (b ∷ back); end = lf }

-- the lines of a text
unfoldable pub lines_of : List ℕ → List Line
lines_of bytes = map (λ part. line_back (reverse part)) (slice_split (λ b. b == line_feed) bytes)

-- the line has no text
abbrev pub is_empty : Line → Bool
is_empty line = length line.text == 0

-- a field line: a name, a colon and a value
abbrev pub field_in : Line → Field
field_in line = record {
  name = before_first (λ b. b == colon) line.text;
  raw = after_first
      (λ b. b == colon) line.text;
  end = line.end;
}

-- the field lines before the first empty line
abbrev pub fields_in : List Line → List Field
fields_in [] = []
fields_in (line ∷ lines) = if is_empty line then [] else field_in line ∷ fields_in lines

-- the end of the first empty line
abbrev pub last_in : List Line → LineEnd
last_in [] = lf
last_in (line ∷ lines) = if is_empty line then line.end else last_in lines

-- a head without empty lines before it: a request line with single spaces, then field lines
abbrev pub head_from : Line → List Line → RequestHead
head_from line lines = record {
  blank = [];
  method = before_first (λ b. b == space) line.text;
  target = before_first (λ b. b == space) (after_first (λ b. b == space) line.text);
  minor = slice_index (after_first (λ b. b == space) (after_first (λ b. b == space) line.text)) 7 - digit_zero;
  line_end = line.end;
  fields = fields_in lines;
  last = last_in lines;
}

-- the head, with an empty line before it
abbrev pub with_blank : LineEnd → RequestHead → RequestHead
with_blank end h = record h { blank = end ∷ h.blank }

-- the head that lines would be
abbrev pub head_in : List Line → RequestHead
head_in [] = head_from (record { text = []; end = lf }) []
head_in (line ∷ lines) = if is_empty line then with_blank line.end (head_in lines) else head_from line lines

-- a field's name is a token, and its value has no control byte but the tab
abbrev pub is_field : Field → Bool
is_field f = is_token f.name && list_all is_value_byte f.raw

-- each part of a head is valid
unfoldable pub is_valid : RequestHead → Bool
is_valid h =
    is_token h.method && (nat_lt 0 (length h.target)
    && (list_all is_uri_byte h.target && (is_utf8 h.target && (nat_le h.minor 1 && list_all is_field h.fields))))

-- the head that the bytes would be
unfoldable pub head_of : List ℕ → RequestHead
head_of bytes = head_in (lines_of bytes)

-- the bytes are one whole head, of at most 64 field lines
unfoldable pub is_head : List ℕ → Bool
is_head bytes =
    let h = head_of bytes in is_valid h && (bytes_eq (print_request h) bytes && nat_le (length h.fields) MAX_FIELDS)
