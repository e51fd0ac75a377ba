-- What is read is spelled so, what is spelled so is read, and a text has one reading at most.
use Rattle.std.proofs.Common.{◌≡◌, ℕ, ◌+◌, Bool, true, false, cond, ◌==◌, List, [], ◌++◌, length, codes, Ok, Err, refl, sym, ap, subst, ◌∙◌, ℤ, pos, ◌-ℤ◌}
use Rattle.std.proofs.lemmas.Bool.{eqb-true}
use Rattle.std.proofs.lemmas.List.{append-nil, nil_from_length}
use Rattle.std.specs.Char.{eq_ignore_ascii_case}
use Rattle.fm_base.specs.Input.{Input, whole}
use Rattle.nc_model.specs.UnitsReading.{UnitsParser as Parser, has_ended, next_passes, end_at, letters_at, spaces_at, gap_at, unit_at, date_at, zone_after, time_of_day_at, letter_at, last_zone_at, clock_at, after_date_at, units_at, Written}
use Rattle.nc_model.specs.UnitsSpelling.{SpellsUnits}
use Rattle.fm_base.proofs.Exact.{input, done, bind_ok, ok_pair}
use Rattle.tm_units.proofs.UnitsReadings.{Lawful-units}
use Rattle.fm_base.specs.Parser.{◌>>=◌, pure}

-- a parser that reads to the end of the text
record Ends {A : Type 0} (p : Parser A) : Type 0 where
  ends : (i : Input) (a : A) (j : Input) → p i ≡ Ok (a, j) → j.rest ≡ []

Ends-then : {A B : Type 0} (p : Parser A) {q : A → Parser B} → ((a : A) → Ends (q a)) → Ends (p >>= q)
Ends-then p {q = q} each = record {
  ends = λ i b k e. let x = bind_ok (p i) q (b, k) e in
      (each x.0.0).ends x.0.1 b k x.2;
}

-- nothing is read after the end
Ends-last : {A B : Type 0} {p : Parser A} (f : A → B) → Ends p → Ends (p >>= λ a. pure (f a))
Ends-last {A} {B} {p} f ep = record {
  ends = λ i b k e.
      let x = bind_ok (p i) (λ a. pure (f a)) (b, k) e in
      let same = ok_pair (f x.0.0) b x.0.1 k x.2 in
      subst (λ (h : Input). h.rest ≡ []) same.1 (ep.ends i x.0.0 x.0.1 x.1);
}

ended : (i j : Input) → has_ended i ≡ true → i ≡ j → j.rest ≡ []
ended i j e same = subst (λ (h : Input). h.rest ≡ []) same (nil_from_length i.rest (eqb-true (length i.rest) 0 e))

Ends-unless_ended : {A : Type 0} {p : Parser A} (missing : A) → Ends p
    → Ends (λ i. cond (has_ended i) (Ok (missing, i)) (p i))
Ends-unless_ended {A} {p} missing ep = record { ends = λ i a j e. by_end i a j (has_ended i) refl e }
  where
    by_end : (i : Input) (a : A) (j : Input) (b : Bool) → has_ended i ≡ b → cond b (Ok (missing, i)) (p i) ≡ Ok (a, j)
        → j.rest ≡ []
    by_end i a j true is e = ended i j is (ok_pair missing a i j e).1
    by_end i a j false is e = ep.ends i a j e

Ends-either : {A : Type 0} {p q : Parser A} (test : Input → Bool) → Ends p → Ends q
    → Ends (λ i. cond (test i) (p i) (q i))
Ends-either {A} {p} {q} test ep eq = record { ends = λ i a j e. by_test i a j (test i) e }
  where
    by_test : (i : Input) (a : A) (j : Input) (b : Bool) → cond b (p i) (q i) ≡ Ok (a, j) → j.rest ≡ []
    by_test i a j true e = ep.ends i a j e
    by_test i a j false e = eq.ends i a j e

Ends-allowed : {A : Type 0} {p : Parser A} (bad : Bool) → Ends p → Ends (λ i. cond bad (Err i.at) (p i))
Ends-allowed true ep = record { ends = λ i a j e. absurd cc }
Ends-allowed false ep = ep

Ends-end : Ends end_at
unfolding end_at
Ends-end = record { ends = λ i u j e. by_end i u j (has_ended i) refl e }
  where
    by_end : (i : Input) (u : Unit {0}) (j : Input) (b : Bool) → has_ended i ≡ b
        → cond b (done {A = Unit {0} × Input} (tt, i)) (Err i.at) ≡ Ok (u, j) → j.rest ≡ []
    by_end i u j true is e = ended i j is (ok_pair tt u i j e).1
    by_end i u j false is e = absurd cc

Ends-last_zone : (strict : Bool) → Ends (last_zone_at strict)
unfolding last_zone_at
Ends-last_zone strict =
    Ends-then spaces_at
    (λ gap. Ends-unless_ended (pos 0)
    (Ends-then (zone_after strict gap)
    (λ zone. Ends-then spaces_at (λ gap. Ends-last (λ (u : Unit {0}). zone) Ends-end))))

Ends-clock : (strict : Bool) → Ends (clock_at strict)
unfolding clock_at
Ends-clock strict =
    Ends-then (time_of_day_at strict) (λ time. Ends-last (λ (zone : ℤ). pos time -ℤ zone) (Ends-last_zone strict))

Ends-after_date : (strict : Bool) → Ends (after_date_at strict)
unfolding after_date_at
Ends-after_date strict =
    Ends-either (next_passes (λ other. eq_ignore_ascii_case other 116))
    (Ends-then (letter_at 116) (λ t. Ends-clock strict))
    (Ends-then spaces_at (λ gap. Ends-unless_ended (pos 0) (Ends-allowed (gap == 0) (Ends-clock strict))))

Ends-units : (strict : Bool) → Ends (units_at strict)
unfolding units_at
Ends-units strict =
    Ends-then spaces_at
    (λ front. Ends-then (unit_at strict)
    (λ per. Ends-then gap_at
    (λ gap. Ends-then (letters_at (codes "since")) (λ since. Ends-then gap_at (λ gap. Ends-then (date_at strict) (λ day.
    Ends-last (λ (seconds : ℤ). record { per = per; day = day; seconds = seconds }) (Ends-after_date strict)))))))

-- what is spelled so is read to the end
pub spelled_read : (strict : Bool) (text : List ℕ) (w : Written) → SpellsUnits strict text w
    → units_at strict (whole text) ≡ Ok (w, input (0 + length text) [])
spelled_read strict text w s =
    subst (λ (l : List ℕ). units_at strict (input 0 l) ≡ Ok (w, input (0 + length text) [])) (append-nil text)
    ((Lawful-units.exact strict).again 0 text [] w s refl)

-- what is read is spelled so
pub read_spelled : (strict : Bool) (text : List ℕ) (w : Written) (j : Input)
    → units_at strict (whole text) ≡ Ok (w, j) → SpellsUnits strict text w
read_spelled strict text w j e =
    let took = (Lawful-units.exact strict).takes (whole text) w j e in
    let none = (Ends-units strict).ends (whole text) w j e in
    let all : text ≡ took.text = took.split ∙ ap (λ (l : List ℕ). took.text ++ l) none ∙ append-nil took.text in
    subst (λ (l : List ℕ). SpellsUnits strict l w) (sym all) took.spelled
