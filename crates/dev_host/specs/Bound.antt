-- Sockets that are open.
use Rattle.std.specs.Prelude.{ℕ, List, [], ◌∷◌, nat_eq, if◌then◌else◌, Option, Some, None}
use Rattle.std.specs.Cmp.Lexicographic.{pointwise}
use Rattle.std.specs.declared.net.tcp.TcpListener.{TcpListener}
use Rattle.dev_host.specs.declared.bound.Bound.{Bound}

-- the listener that was opened at this very address, if one was
abbrev pub listener_at : List Bound → List ℕ → Option TcpListener
listener_at [] address = None
listener_at (one ∷ more) address =
    if pointwise nat_eq one.address address then Some one.listener else listener_at more address
