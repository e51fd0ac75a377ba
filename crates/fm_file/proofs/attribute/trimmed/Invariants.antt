-- All bytes from `len` on are zero.
use Rattle.std.proofs.Common.{◌≡◌, ◌+◌, ◌-◌, ◌≤◌, length, take, ◌==◌}
use Rattle.std.specs.List.{suffix_len}
use Rattle.fm_file.proofs.attribute.trimmed.Given as goal

abbrev pub invariant-loop-len : goal.invariant-loop-len
invariant-loop-len l =
    (l.len ≤ length l.bytes)
    × (suffix_len (λ byte. byte == 0) l.bytes
    ≡ (length l.bytes - l.len) + suffix_len (λ byte. byte == 0) (take l.len l.bytes))

abbrev pub decreases-loop-len : goal.decreases-loop-len
decreases-loop-len l = l.len
