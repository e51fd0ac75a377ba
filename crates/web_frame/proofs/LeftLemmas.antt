-- The bytes after the first heads of a stream, and what bytes that follow leave of them.
use Rattle.std.proofs.Common.{◌≡◌, ℕ, suc, List, [], ◌++◌, drop, refl, sym, ap, ◌∙◌, append_assoc, append-nil}
use Rattle.std.proofs.lemmas.List.{drop-append-le}
use Rattle.web_frame.specs.Cut.{cut_of, Cut, whole}
use Rattle.web_frame.specs.Items.{bytes_after, past_cut}
use Rattle.web_frame.proofs.ItemLemmas.{cut_whole-append, cut_whole_fits}

-- these bytes are left after the first n heads, whatever follows
pub record Leaves (bytes : List ℕ) (n : ℕ) (left : List ℕ) : Type 0 where
  pub leaves : (more : List ℕ) → bytes_after n (bytes ++ more) ≡ left ++ more

-- all bytes are left before the first head
pub Leaves-start : (bytes : List ℕ) → Leaves bytes 0 bytes
unfolding bytes_after
Leaves-start bytes = record { leaves = λ more. refl }

-- bytes that follow are left too
pub Leaves-feed : {bytes : List ℕ} {n : ℕ} {left : List ℕ} (piece : List ℕ) → Leaves bytes n left
    → Leaves (bytes ++ piece) n (left ++ piece)
Leaves-feed {bytes} {n} {left} piece l = record {
  leaves = λ more. ap (bytes_after n) (append_assoc bytes piece more) ∙ l.leaves (piece ++ more)
      ∙ sym (append_assoc left piece more);
}

-- after one head more, the bytes after it are left
pub Leaves-head : {bytes : List ℕ} {n : ℕ} {left : List ℕ} (len : ℕ) → Leaves bytes n left → cut_of left ≡ whole len
    → Leaves bytes (suc n) (drop len left)
unfolding bytes_after
Leaves-head {bytes} {n} {left} len l is = record {
  leaves = λ more. ap (λ (found : List ℕ). past_cut (cut_of found) found) (l.leaves more)
      ∙ ap (λ (cut : Cut). past_cut cut (left ++ more)) (cut_whole-append left more len is)
      ∙ drop-append-le len left more (cut_whole_fits left len is).1;
}

-- the bytes that are left
pub left-is : {bytes : List ℕ} {n : ℕ} {left : List ℕ} → Leaves bytes n left → left ≡ bytes_after n bytes
left-is {bytes} {n} {left} l =
    sym (append-nil left) ∙ sym (l.leaves []) ∙ ap (bytes_after n) (append-nil bytes)
