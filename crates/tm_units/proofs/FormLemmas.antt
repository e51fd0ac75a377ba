-- Whether a text begins in a form, one byte after the other.
use Rattle.std.proofs.Common.{◌≡◌, ℕ, ◌+◌, ◌<◌, ◌≤◌, false, ◌&&◌, List, length, get_or, drop, ap₂}
use Rattle.std.proofs.lemmas.List.{drop_more, drop_all}
use Rattle.nc_model.specs.Stamp.{begins_in_form, is_like}

-- the bytes at one offset, and those after it
pub begins_in_form-turn : (form text : List ℕ) (i : ℕ) → i < length form → i < length text
    → begins_in_form (drop i form) (drop i text)
    ≡ (is_like (get_or form i 0) (get_or text i 0) && begins_in_form (drop (i + 1) form) (drop (i + 1) text))
begins_in_form-turn form text i inner within = ap₂ begins_in_form (drop_more form i 0 inner) (drop_more text i 0 within)

-- a text that has ended before its form
pub begins_in_form-short : (form text : List ℕ) (i : ℕ) → i < length form → length text ≤ i
    → begins_in_form (drop i form) (drop i text) ≡ false
begins_in_form-short form text i inner past = ap₂ begins_in_form (drop_more form i 0 inner) (drop_all i text past)

pub ruleset turns = (begins_in_form-turn, begins_in_form-short)
