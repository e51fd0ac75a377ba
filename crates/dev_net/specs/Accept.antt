-- Accepts that gave no connection.
use Rattle.std.specs.Prelude.{ℤ, pos, Bool, ◌||◌, if◌then◌else◌, Option, Some, None}
use Rattle.std.specs.Ordering.{int_eq}
use Rattle.std.specs.declared.io.ErrorKind.{ErrorKind}
use Rattle.std.specs.declared.io.ErrorKind.TheVariants.{ConnectionAborted, ConnectionReset, Interrupted, WouldBlock}
use Rattle.dev_net.specs.declared.accepting.Accepting.{Accepting}
use Rattle.dev_net.specs.declared.accepting.Accepting.TheVariants.{Later, Again, Short, Failed}

-- whether an error number says that the socket isn't one that listens any more: EBADF, EINVAL, ENOTSOCK
abbrev pub is_no_socket : ℤ → Bool
is_no_socket number = int_eq number (pos 9) || int_eq number (pos 22) || int_eq number (pos 88)

-- what becomes of accepts after an error of this number
abbrev pub accepting_at : Option ℤ → Accepting
accepting_at None = Short
accepting_at (Some number) = if is_no_socket number then Failed else Short

-- what becomes of accepts after an error of this kind and number: the peer may be gone already, or a signal have come
abbrev pub accepting_of : ErrorKind → Option ℤ → Accepting
accepting_of WouldBlock number = Later
accepting_of ConnectionAborted number = Again
accepting_of ConnectionReset number = Again
accepting_of Interrupted number = Again
accepting_of kind number = accepting_at number
