-- A content that is shorter than the limit is the whole rest of the reader.
use Rattle.std.proofs.Common.{◌≡◌, ◌<◌, ℕ, List, length, take, length-take, ap, ◌∙◌, arith}
use Rattle.std.proofs.lemmas.List.{take_all}

pub short_take : (most : ℕ) (bytes content : List ℕ) → content ≡ take most bytes → length content < most
    → content ≡ bytes
short_take most bytes content is short =
    is ∙ take_all most bytes (omega (arith, short, ap length is, length-take most bytes))

pub ruleset contents = (short_take)
