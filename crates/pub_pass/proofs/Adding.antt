-- The exchange that adds an operation keeps the rule of the book.
use Rattle.std.proofs.Common.{◌≡◌, ℕ, ◌+◌, ◌<◌, ◌==◌, Bool, true, false, List, [], ◌∷◌, ◌++◌, length, refl, ap, sym, subst, arith, inl, length-append, None}
use Rattle.std.proofs.lemmas.List.{append-nil}
use Rattle.std.proofs.lemmas.Bool.Decides.{nat_tests}
use mathlib.Core.List.{IsPrefix}
use prog.Atomic.{either}
use Rattle.logbook.specs.Pages.{Cell, cell, keeps, no_nib, step, Moves, Goes}
use Rattle.fm_model.specs.declared.op.Op.{Op}
use Rattle.pub_pass.specs.Book.{Counts, Adds}
use Rattle.pub_pass.proofs.Beginnings.{whole}

abbrev pub shown : List Op → List Op
shown log = []

abbrev pub moved : List Op → List Op → ℕ → Type 0
moved xs ys n = Unit {0}

pub adds_goes : (log v : List Op) (op : Op) (old : ℕ) → length v ≡ old → IsPrefix v log → (b : Bool)
    → (length log == old) ≡ b
    → Goes Counts shown moved 0 (v, (no_nib, None)) (λ n. either (n == old) (old + 1) n)
    (Adds (step 0 old (old + 1) op) (v, (no_nib, None))) ((length log, true) ∷ (0, true) ∷ []) log
adds_goes log v op old len pre true is =
    let here : length log ≡ old = grind (arith, nat_tests) in
    let same : v ≡ log = whole v log pre (omega arith) in
    let n : either (length log == old) (old + 1) (length log) ≡ length (log ++ op ∷ []) =
    rw is (omega (arith, length-append log (op ∷ []))) in (
      keeps,
      op ∷ [],
      None,
      tt,
      record { words = ap (λ (k : ℕ). (k, true) ∷ (0, true) ∷ []) n },
      inl (refl, refl),
      rw is (ap (λ w. w ++ op ∷ []) (sym same)),
    )
adds_goes log v op old len pre false is =
    let all : log ++ [] ≡ log = append-nil log in
    let n : either (length log == old) (old + 1) (length log) ≡ length (log ++ []) = rw is (ap length (sym all)) in (
      keeps,
      [],
      None,
      tt,
      record { words = ap (λ (k : ℕ). (k, true) ∷ (0, true) ∷ []) n },
      inl (refl, refl),
      rw is (ap length all),
    )

-- whatever the book is, the exchange adds the operation to all that was seen, or finds that the log is longer
pub adds_moves : (v : List Op) (op : Op) (old : ℕ) → length v ≡ old
    → Moves Counts shown moved 0 (v, (no_nib, None)) (λ n. either (n == old) (old + 1) n)
    (Adds (step 0 old (old + 1) op) (v, (no_nib, None)))
adds_moves v op old len cs log kept pre away =
    let P : List Cell → Type 0 = λ c. (0 < length c) × ((cell c 0).1 ≡ true)
    × Goes Counts shown moved 0 (v, (no_nib, None)) (λ n. either (n == old) (old + 1) n)
    (Adds (step 0 old (old + 1) op) (v, (no_nib, None))) c log in
    subst P (sym kept.words) (omega arith, refl, adds_goes log v op old len pre (length log == old) refl)
