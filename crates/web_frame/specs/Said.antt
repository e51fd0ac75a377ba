-- What a head says, by the list of its header lines, each a name and a value without the white space around it.
use Rattle.std.specs.Prelude.{ℕ, Bool, ◌&&◌, ◌||◌, not, ◌==◌, if◌then◌else◌, List, map, codes}
use Rattle.std.specs.Char.{to_ascii_lowercase}
use Rattle.std.specs.List.{list_any, slice_split}
use Rattle.std.specs.Str.{bytes_eq}
use Rattle.httparse.specs.Ascii.{comma}
use Rattle.httparse.specs.Grammar.{RequestHead, trim_ows}
use Rattle.httparse.specs.Spans.{name_and_value}
use Rattle.web_frame.specs.declared.request.Method.{Method}
use Rattle.web_frame.specs.declared.request.Method.TheVariants.{Get, Head, Other}
use Rattle.web_frame.specs.declared.request.Request.{Request}

-- the same text, but for the case of ASCII letters
unfoldable pub same_word : List ℕ → List ℕ → Bool
same_word a b = bytes_eq (map to_ascii_lowercase a) (map to_ascii_lowercase b)

-- a value, cut at its commas, has this word
unfoldable pub has_word : List ℕ → List ℕ → Bool
has_word word value = list_any (λ part. same_word (trim_ows part) word) (slice_split (λ b. b == comma) value)

-- a `Connection` line has this word (RFC 9110, section 7.6.1)
unfoldable pub connection_says : List ℕ → List (List ℕ × List ℕ) → Bool
connection_says word lines = list_any (λ line. same_word line.0 (codes "Connection") && has_word word line.1) lines

-- the connection closes after the reply: a `close`, or HTTP/1.0 without `keep-alive` (RFC 9112, section 9.3)
unfoldable pub says_close : ℕ → List (List ℕ × List ℕ) → Bool
says_close minor lines =
    connection_says (codes "close") lines || (minor == 0 && not (connection_says (codes "keep-alive") lines))

-- a line says that a body follows: a `Transfer-Encoding`, or a `Content-Length` that isn't `0` (RFC 9112, section 6.3)
unfoldable pub announces_body : List ℕ × List ℕ → Bool
announces_body line = same_word line.0 (codes "Transfer-Encoding")
    || (same_word line.0 (codes "Content-Length") && not (bytes_eq line.1 (codes "0")))

-- the method of a request line
unfoldable pub method_of : List ℕ → Method
method_of bytes = if bytes_eq bytes (codes "GET") then Get else (if bytes_eq bytes (codes "HEAD") then Head else Other)

-- what a head says
unfoldable pub request_of : RequestHead → Request
request_of h =
    let lines = map name_and_value h.fields in
    let body = list_any announces_body lines in
    record { method = method_of h.method; close = says_close h.minor lines; has_body = body }
