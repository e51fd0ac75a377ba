-- A text is cut into the lines that it was printed from.
use Rattle.std.proofs.Common.{◌≡◌, ℕ, ◌+◌, ◌-◌, ◌<◌, Bool, true, false, not, cond, eqb, List, [], ◌∷◌, ◌++◌, length, reverse, map, take, drop, refl, sym, ap, subst, ◌∙◌, arith, append_assoc, inl, inr}
use Rattle.std.specs.List.{All, AllPass, slice_split, before_first, after_first, position_or_len}
use Rattle.std.proofs.lemmas.Bool.{cases_eq, ne_eqb}
use Rattle.std.proofs.lemmas.List.{reverse-append, reverse-reverse, take_at, drop_at, length_push, length-reverse, get_or-reverse}
use Rattle.std.proofs.lemmas.List.Elements.{All-head, All-tail, All-append, All-cons, All-nil}
use Rattle.std.proofs.lemmas.List.Splits.{slice_split_at}
use Rattle.httparse.specs.Grammar.{LineEnd, crlf, lf, print_end}
use Rattle.web_frame.specs.Head.{Line, line_back, lines_of}

-- no element is this byte
abbrev pub Lacks : ℕ → List ℕ → Type 0
Lacks c bytes = All (λ b. eqb b c ≡ false) bytes

-- a byte that passes a test is none that fails it
passes_other : (test : ℕ → Bool) (c b : ℕ) → test c ≡ false → test b ≡ true → eqb b c ≡ false
passes_other test c b fails passes = elim (cases_eq b c) [
  | inl same ↦
      let both : true ≡ false = sym passes ∙ ap test same ∙ fails in
      cc
  | inr other ↦ ne_eqb b c other
]

pub Lacks-from_AllPass : (test : ℕ → Bool) (c : ℕ) (bytes : List ℕ) → test c ≡ false → AllPass test bytes
    → Lacks c bytes
Lacks-from_AllPass test c bytes fails pass = λ k d below. passes_other test c _ fails (pass k d below)

-- the first element that passes stands behind the front that has none
pub position_behind : {X : Type 0} (p : X → Bool) (front : List X) (x : X) (more : List X)
    → All (λ y. p y ≡ false) front → p x ≡ true
    → position_or_len p (front ++ x ∷ more) ≡ length front
position_behind p [] x more none here = rw here refl
position_behind {X} p (y ∷ front) x more none here =
    let first : p y ≡ false = All-head (λ (z : X). p z ≡ false) y front none in
    let others : position_or_len p (front ++ x ∷ more) ≡ length front =
    position_behind p front x more (All-tail (λ (z : X). p z ≡ false) y front none) here in
    rw first (rw others (omega arith))

pub before_first_at : {X : Type 0} (p : X → Bool) (front : List X) (x : X) (more : List X)
    → All (λ y. p y ≡ false) front → p x ≡ true
    → before_first p (front ++ x ∷ more) ≡ front
before_first_at p front x more none here =
    rw (position_behind p front x more none here) (take_at front (x ∷ more) _ refl)

pub after_first_at : {X : Type 0} (p : X → Bool) (front : List X) (x : X) (more : List X) → All (λ y. p y ≡ false) front
    → p x ≡ true
    → after_first p (front ++ x ∷ more) ≡ more
after_first_at p front x more none here =
    rw (position_behind p front x more none here)
    (ap (λ l. drop (length front + 1) l) (sym (append_assoc front (x ∷ []) more))
    ∙ drop_at (front ++ x ∷ []) more _ (length_push front x))

abbrev as_line : List ℕ → LineEnd → Line
as_line text end = record { text = text; end = end }

-- a line without a CR, read backwards
line_back_plain : (back : List ℕ) → Lacks 13 back → line_back back ≡ record { text = reverse back; end = lf }
line_back_plain [] none = refl
line_back_plain (b ∷ back) none = rw (All-head (λ (z : ℕ). eqb z 13 ≡ false) b back none) refl

pub Lacks-reverse : (c : ℕ) (bytes : List ℕ) → Lacks c bytes → Lacks c (reverse bytes)
Lacks-reverse c bytes none = λ k d below.
    let fits : k < length bytes = omega (arith, ap (λ n. n) (length-reverse bytes)) in
    rw (get_or-reverse bytes k d fits) (none (length bytes - 1 - k) d (omega arith))

-- a text without CR or LF, and its end, are the first line
pub lines_of_line : (text : List ℕ) (end : LineEnd) (rest : List ℕ) → Lacks 13 text → Lacks 10 text
    → lines_of (text ++ (print_end end ++ rest)) ≡ record { text = text; end = end } ∷ lines_of rest
unfolding lines_of
lines_of_line text lf rest no_cr no_lf =
    let split : slice_split (λ b. eqb b 10) (text ++ 10 ∷ rest) ≡ text ∷ slice_split (λ b. eqb b 10) rest =
    slice_split_at (λ b. eqb b 10) text 10 rest no_lf refl in
    let line : line_back (reverse text) ≡ record { text = text; end = lf } =
    line_back_plain (reverse text) (Lacks-reverse 13 text no_cr)
    ∙ ap (λ (t : List ℕ). as_line t lf) (reverse-reverse text) in
    let lines : List (List ℕ) → List Line = λ parts. map (λ part. line_back (reverse part)) parts in
    ap lines split ∙ ap (λ (l : Line). l ∷ lines (slice_split (λ b. eqb b 10) rest)) line
lines_of_line text crlf rest no_cr no_lf =
    let front : List ℕ = text ++ 13 ∷ [] in
    let none : Lacks 10 front = All-append (λ (z : ℕ). eqb z 10 ≡ false) text (13 ∷ []) no_lf
    (All-cons (λ (z : ℕ). eqb z 10 ≡ false) 13 [] refl (All-nil (λ (z : ℕ). eqb z 10 ≡ false))) in
    let split : slice_split (λ b. eqb b 10) (front ++ 10 ∷ rest) ≡ front ∷ slice_split (λ b. eqb b 10) rest =
    slice_split_at (λ b. eqb b 10) front 10 rest none refl in
    let line : line_back (reverse front) ≡ record { text = text; end = crlf } =
    ap line_back (reverse-append text (13 ∷ [])) ∙ ap (λ (t : List ℕ). as_line t crlf) (reverse-reverse text) in
    let lines : List (List ℕ) → List Line = λ parts. map (λ part. line_back (reverse part)) parts in
    let regroup : text ++ (13 ∷ 10 ∷ rest) ≡ front ++ 10 ∷ rest = sym (append_assoc text (13 ∷ []) (10 ∷ rest)) in
    ap (λ (l : List ℕ). lines (slice_split (λ b. eqb b 10) l)) regroup ∙ ap lines split
    ∙ ap (λ (l : Line). l ∷ lines (slice_split (λ b. eqb b 10) rest)) line
