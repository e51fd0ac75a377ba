-- The head of a reply, line by line (RFC 9112, section 2; ESE-RFC-004, the headers of a response).
use Rattle.std.specs.Prelude.{ℕ, List, [], ◌++◌, codes, Bool, true, false}
use Rattle.std.specs.Fmt.{decimal}
use Rattle.dap_reply.specs.declared.body.BodyKind.{BodyKind}
use Rattle.dap_reply.specs.declared.head.Head.{Head}
use Rattle.dap_reply.specs.declared.status.Status.{Status}
use Rattle.dap_reply.specs.declared.status.Status.TheVariants.{Fine, BadRequest, NotFound, NotAllowed, TooLarge, HeadTooLarge}
use Rattle.dap_reply.specs.Kind.{description_of, media_of, status_text}

-- a line of a head
unfoldable pub head_line : List ℕ → List ℕ → List ℕ
head_line name value = name ++ codes ": " ++ value ++ codes "\r\n"

-- whether the connection stays
unfoldable pub connection_word : Bool → List ℕ
connection_word true = codes "close"
connection_word false = codes "keep-alive"

-- the methods that are taken, where one wasn't
unfoldable pub allow_line : Status → List ℕ
allow_line NotAllowed = head_line (codes "Allow") (codes "GET, HEAD")
allow_line Fine = []
allow_line BadRequest = []
allow_line NotFound = []
allow_line TooLarge = []
allow_line HeadTooLarge = []

-- the first line
unfoldable pub status_line : Status → List ℕ
status_line status = codes "HTTP/1.1 " ++ status_text status ++ codes "\r\n"

-- what the body is
unfoldable pub kind_lines : BodyKind → List ℕ
kind_lines kind =
    head_line (codes "Content-Description") (description_of kind)
    ++ head_line (codes "Content-Type") (media_of kind)

-- how many operations left the collection, and how many bytes the body has
unfoldable pub count_lines : ℕ → ℕ → List ℕ
count_lines revision len =
    head_line (codes "X-Collection-Revision") (decimal revision)
    ++ head_line (codes "Content-Length") (decimal len)

-- whether the connection stays, and the end of the head
unfoldable pub last_lines : Status → Bool → List ℕ
last_lines status last =
    head_line (codes "Connection") (connection_word last) ++ allow_line status ++ codes "\r\n"

-- a head
unfoldable pub head_text : Head → List ℕ
head_text head =
    status_line head.status
    ++ head_line (codes "XDODS-Server") (codes "dods/3.2")
    ++ kind_lines head.kind
    ++ count_lines head.revision head.len
    ++ last_lines head.status head.last

-- the reply where memory runs out, which is a connection's last
unfoldable pub no_memory_reply : List ℕ
no_memory_reply =
    codes "HTTP/1.1 503 Service Unavailable\r\n"
    ++ head_line (codes "Content-Length") (codes "0")
    ++ head_line (codes "Connection") (codes "close")
    ++ codes "\r\n"
