-- A reply of HTTP/1 (RFC 9112) whose body is a message: what it says, or its first fault.
use Rattle.std.specs.Prelude.{◌≡◌, ◌⊎◌, ℕ, ◌+◌, ◌-◌, ◌<◌, ◌≤◌, min, List, [], ◌∷◌, ◌++◌, length, map, take, drop, codes, Bool, true, false, not, ◌&&◌, ◌==◌, ◌||◌, nat_eq, nat_lt, nat_le, if◌then◌else◌, Option, Some, None, Result, Ok, Err}
use Rattle.std.specs.Char.{is_ascii_digit}
use Rattle.std.specs.List.{ends_with, filter_map, list_all, list_any}
use Rattle.fm_base.specs.Chain.{fault_as, ◌>>=◌, ◌>>◌, refuse_if}
use Rattle.nc_model.specs.Stamp.{number_of}
use Rattle.httparse.specs.Grammar.{ReadsResponse, ResponseHead, status_code}
use Rattle.httparse.specs.Spans.{name_and_value}
use Rattle.web_frame.specs.Limit.{MAX_FIELDS, MAX_HEAD}
use Rattle.web_frame.specs.Said.{same_word}
use Rattle.dap_client.specs.declared.fault.ClientFault.{ClientFault}
use Rattle.dap_client.specs.declared.fault.ClientFault.TheVariants.{BadData, BadHead, NoLength, TooLong, Status, ReplyEnded}
use Rattle.dap_client.specs.declared.message.Message.{Message}
use Rattle.dap_client.specs.DataReading.{message_or_fault}

-- the most bytes of a body
abbrev pub MAX_BODY : ℕ
MAX_BODY = 67108864

-- the request that is put: GET of a target, after whose reply the connection closes
unfoldable pub request_text : List ℕ → List ℕ → List ℕ
request_text address target =
    codes "GET " ++ target ++ codes " HTTP/1.1\r\nHost: " ++ address ++ codes "\r\nConnection: close\r\n\r\n"

-- whether a line is a `Content-Length`, and then its value
unfoldable pub is_length : List ℕ × List ℕ → Bool
is_length line = same_word line.0 (codes "Content-Length")

unfoldable pub length_in : List ℕ × List ℕ → Option (List ℕ)
length_in line = if is_length line then Some line.1 else None

-- whether a line is a `Transfer-Encoding`
unfoldable pub is_transfer : List ℕ × List ℕ → Bool
is_transfer line = same_word line.0 (codes "Transfer-Encoding")

-- a length of 1 to 10 digits
unfoldable pub length_of : List ℕ → Result ℕ ClientFault
length_of digits =
    if list_all is_ascii_digit digits && (nat_lt 0 (length digits) && nat_le (length digits) 10)
    then Ok (number_of digits) else Err NoLength

-- the one length that there is
unfoldable pub only_length : List (List ℕ) → Result ℕ ClientFault
only_length [] = Err NoLength
only_length (digits ∷ []) = length_of digits
only_length (digits ∷ next ∷ more) = Err NoLength

-- the length of the body, by the lines of a head
unfoldable pub announced_length : List (List ℕ × List ℕ) → Result ℕ ClientFault
announced_length lines =
    if list_any is_transfer lines then Err NoLength else only_length (filter_map length_in lines)

-- a length within the limit
unfoldable pub within_limit : ℕ → Result ℕ ClientFault
within_limit len = if nat_lt MAX_BODY len then Err (TooLong len) else Ok len

-- the length of the body behind a head with this status and these lines
unfoldable pub body_len : ℕ → List (List ℕ × List ℕ) → Result ℕ ClientFault
body_len code lines = refuse_if (not (code == 200)) (Status code) >> (announced_length lines >>= within_limit)

-- the same by the head
abbrev pub len_behind : ResponseHead → Result ℕ ClientFault
len_behind head = body_len (status_code head) (map name_and_value head.fields)

-- the bytes are one head of at most 64 lines
pub record IsReplyHead (bytes : List ℕ) (head : ResponseHead) : Type 0 where
  pub reads : ReadsResponse bytes head []
  pub few : length head.fields ≤ MAX_FIELDS

-- the head that the bytes are, or that they are none
abbrev pub IsHeadIn : List ℕ → Option ResponseHead → Type 0
IsHeadIn bytes (Some head) = IsReplyHead bytes head
IsHeadIn bytes None = (head : ResponseHead) → ¬ IsReplyHead bytes head

-- what the body says whose length and bytes from its first on are these, of an input of this length
unfoldable pub said_by : ℕ → List ℕ → ℕ → Result Message ClientFault
said_by count bytes len = if nat_lt (length bytes) len then Err (ReplyEnded count)
    else fault_as BadData (message_or_fault (take len bytes))

-- how many bytes of a body are taken of an input with this many left: none where its length isn't known
abbrev pub body_taken : ℕ → Result ℕ ClientFault → ℕ
body_taken left (Ok len) = min len left
body_taken left (Err fault) = 0

-- the length of the body behind a head, or that there is no head
abbrev pub len_after : Option ResponseHead → Result ℕ ClientFault
len_after None = Err BadHead
len_after (Some head) = len_behind head

-- what the input says behind the first n bytes, which are this head or none
abbrev pub said_behind : List ℕ → ℕ → Option ResponseHead → Result Message ClientFault
said_behind input n head = len_after head >>= said_by (length input) (drop n input)

-- whether bytes end as a head does: with a line's end and an empty line
unfoldable pub ends_head : List ℕ → Bool
ends_head bytes = ends_with nat_eq bytes (codes "\n\n") || ends_with nat_eq bytes (codes "\n\r\n")

-- no head ends in the first n bytes
abbrev pub HasNoEnd : List ℕ → ℕ → Type 0
HasNoEnd input n = (m : ℕ) → m ≤ n → ends_head (take m input) ≡ false

-- the first head ends behind n bytes
pub record EndsAt (input : List ℕ) (n : ℕ) : Type 0 where
  pub within : n ≤ length input
  pub ends : ends_head (take n input) ≡ true
  pub first : (m : ℕ) → m < n → ends_head (take m input) ≡ false

-- the input ends before its head does
pub record EndsEarly (input : List ℕ) (count : ℕ) (outcome : Result Message ClientFault) : Type 0 where
  pub short : length input < MAX_HEAD
  pub no_end : HasNoEnd input (length input)
  pub all : count ≡ length input
  pub outcome_is : outcome ≡ Err (ReplyEnded (length input))

-- the head is too long
pub record HasLongHead (input : List ℕ) (count : ℕ) (outcome : Result Message ClientFault) : Type 0 where
  pub long : MAX_HEAD ≤ length input
  pub no_end : HasNoEnd input MAX_HEAD
  pub most : count ≡ MAX_HEAD
  pub outcome_is : outcome ≡ Err BadHead

-- a head ends within the limit, and the outcome is what is said behind it
pub record HasHead (input : List ℕ) (count : ℕ) (outcome : Result Message ClientFault) : Type 0 where
  pub n : ℕ
  pub few : n ≤ MAX_HEAD
  pub ends : EndsAt input n
  pub head : Option ResponseHead
  pub head_is : IsHeadIn (take n input) head
  pub count_is : count ≡ n + body_taken (length input - n) (len_after head)
  pub outcome_is : outcome ≡ said_behind input n head

-- The outcome is what the first `count` bytes of the input say, none of which stands behind the reply in front: its
-- message, or its first fault.
abbrev pub Says : List ℕ → ℕ → Result Message ClientFault → Type 0
Says input count outcome =
    EndsEarly input count outcome ⊎ (HasLongHead input count outcome ⊎ HasHead input count outcome)
