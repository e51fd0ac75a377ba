-- Known bytes that are kept by tries, and then read or written.
use Rattle.std.proofs.Common.{◌+◌, ℕ, List, ◌++◌, take, drop, append-nil, Option, Some, None, sym, ap, subst, ◌∙◌}
use Rattle.std.proofs.Math.Seq.{take-add}
use Rattle.std.specs.Io.KnownBytes.{Keeps, Appends, Consumes}
use Rattle.std.proofs.KnownBytes.{Appends-nil, Appends-trans, Consumes-kept, Keeps-refl, Keeps-trans}

-- bytes that were kept, and then read
pub Consumes-after : (a b c : Option (List ℕ)) (bytes : List ℕ) → Keeps a b → Consumes b c bytes → Consumes a c bytes
Consumes-after None b c bytes kept read = tt
Consumes-after (Some x) None c bytes kept read = absurd kept
Consumes-after (Some x) (Some y) None bytes kept read = absurd read
Consumes-after (Some x) (Some y) (Some z) bytes kept read = sym kept ∙ read

-- bytes that were kept, and then written after
pub Appends-after : (a b c : Option (List ℕ)) (bytes : List ℕ) → Keeps a b → Appends b c bytes → Appends a c bytes
Appends-after None b c bytes kept written = tt
Appends-after (Some x) None c bytes kept written = absurd kept
Appends-after (Some x) (Some y) None bytes kept written = absurd written
Appends-after (Some x) (Some y) (Some z) bytes kept written = written ∙ ap (λ (l : List ℕ). l ++ bytes) kept

-- a write of no bytes keeps them
pub Keeps-none : (a b : Option (List ℕ)) (bytes : List ℕ) → Appends a b (take 0 bytes) → Keeps a b
Keeps-none None b bytes written = tt
Keeps-none (Some x) None bytes written = absurd written
Keeps-none (Some x) (Some y) bytes written = written ∙ append-nil x

-- a read of no bytes keeps them
pub Keeps-unread : (a b : Option (List ℕ)) (bytes : List ℕ) → Consumes a b (take 0 bytes) → Keeps a b
Keeps-unread None b bytes read = tt
Keeps-unread (Some x) None bytes read = absurd read
Keeps-unread (Some x) (Some y) bytes read = sym read

pub ruleset known = (Consumes-after, Appends-after, Keeps-none, Keeps-unread, Keeps-refl, Keeps-trans)

-- the first i bytes were written, and then n more
pub Appends-more : (a b c : Option (List ℕ)) (i n : ℕ) (bytes : List ℕ)
    → Appends a b (take i bytes) → Appends b c (take n (drop i bytes)) → Appends a c (take (i + n) bytes)
Appends-more a b c i n bytes first next =
    subst (Appends a c) (sym (take-add i n bytes)) (Appends-trans a b c _ _ first next)

pub ruleset whole = (Appends-more, Appends-nil)
