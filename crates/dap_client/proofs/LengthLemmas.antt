-- The lines of a head that say how long its body is.
use Rattle.std.proofs.Common.{◌≡◌, ℕ, ◌+◌, ◌<◌, ◌≤◌, Bool, true, false, cond, not, ◌==◌, List, [], ◌∷◌, length, drop, get_or, Some, None, IfOk, Result, Ok, Err, refl, sym, ap, subst, ◌∙◌}
use Rattle.std.specs.Prelude.{nat_lt}
use Rattle.std.specs.List.{cons_option}
use Rattle.std.proofs.lemmas.Bool.{ltb-false}
use Rattle.std.proofs.lemmas.List.{drop_all}
use Rattle.httparse.specs.declared.spans.HeaderSpan.{HeaderSpan}
use Rattle.httparse.specs.Spans.{header_bytes, span_bytes}
use Rattle.fm_base.specs.Chain.{◌>>=◌, ◌>>◌, refuse_if}
use Rattle.dap_client.specs.declared.fault.ClientFault.{ClientFault}
use Rattle.dap_client.specs.declared.fault.ClientFault.TheVariants.{NoLength, Status, TooLong}
use Rattle.dap_client.specs.Length.{IsLengthFirst, lengths}
use Rattle.dap_client.specs.Reply.{MAX_BODY, announced_length, body_len, is_length, length_in, length_of, only_length, within_limit}
use Rattle.dap_client.proofs.TurnLemmas.{drop_here}

-- a line that covers nothing
abbrev pub no_line : HeaderSpan
no_line = record { name = record { start = 0; end = 0 }; value = record { start = 0; end = 0 } }

-- the values of a line and of others, by whether it is a length
abbrev with_line : List ℕ → HeaderSpan → List HeaderSpan → Bool → List (List ℕ)
with_line raw line lines b = cons_option (cond b (Some (span_bytes raw line.value)) None) (lengths raw lines)

-- a line that is no length
pub lengths-other : (raw : List ℕ) (lines : List HeaderSpan) (n : ℕ) (line d : HeaderSpan) → n < length lines
    → line ≡ get_or lines n d → is_length (header_bytes raw line) ≡ false
    → lengths raw (drop n lines) ≡ lengths raw (drop (n + 1) lines)
unfolding length_in
lengths-other raw lines n line d below there e =
    ap (λ (l : List HeaderSpan). lengths raw l) (drop_here lines n line d below there)
    ∙ ap (with_line raw line (drop (n + 1) lines)) e

-- a line that is one
pub first-here : (raw : List ℕ) (lines : List HeaderSpan) (n : ℕ) (line d : HeaderSpan) → n < length lines
    → line ≡ get_or lines n d → is_length (header_bytes raw line) ≡ true → IsLengthFirst raw (drop n lines)
first-here raw lines n line d below there e =
    subst (IsLengthFirst raw) (sym (drop_here lines n line d below there)) e

-- no line is left
pub first-none : (raw : List ℕ) (lines : List HeaderSpan) (n : ℕ) → length lines ≤ n
    → IsLengthFirst raw (drop n lines)
first-none raw lines n past = subst (IsLengthFirst raw) (sym (drop_all n lines past)) tt

-- the values from the first length on
pub lengths-from : (raw : List ℕ) (line : HeaderSpan) (rest : List HeaderSpan) → IsLengthFirst raw (line ∷ rest)
    → lengths raw (line ∷ rest) ≡ span_bytes raw line.value ∷ lengths raw rest
unfolding length_in
lengths-from raw line rest first = ap (with_line raw line rest) first

-- the values of all lines are those from the first length on
from_first : (raw : List ℕ) (lines : List HeaderSpan) (n : ℕ) (d : HeaderSpan)
    → lengths raw lines ≡ lengths raw (drop n lines) → IsLengthFirst raw (drop n lines) → n < length lines
    → lengths raw lines ≡ span_bytes raw (get_or lines n d).value ∷ lengths raw (drop (n + 1) lines)
from_first raw lines n d same first below =
    let here = drop_here lines n (get_or lines n d) d below refl in
    same ∙ ap (λ (l : List HeaderSpan). lengths raw l) here
    ∙ lengths-from raw (get_or lines n d) (drop (n + 1) lines) (subst (IsLengthFirst raw) here first)

-- there is no length
pub only_length-none : (raw : List ℕ) (lines : List HeaderSpan) (n : ℕ)
    → lengths raw lines ≡ lengths raw (drop n lines) → length lines ≤ n → Err NoLength ≡ only_length (lengths raw lines)
unfolding only_length
only_length-none raw lines n same past =
    sym (ap only_length (same ∙ ap (λ (l : List HeaderSpan). lengths raw l) (drop_all n lines past)))

-- there is one, and another
pub only_length-more : (raw : List ℕ) (lines rest : List HeaderSpan) (n m : ℕ)
    → lengths raw lines ≡ lengths raw (drop n lines) → IsLengthFirst raw (drop n lines) → n < length lines
    → rest ≡ drop (n + 1) lines → lengths raw rest ≡ lengths raw (drop m rest) → IsLengthFirst raw (drop m rest)
    → m < length rest → Err NoLength ≡ only_length (lengths raw lines)
unfolding only_length
only_length-more raw lines rest n m same first below is later next within =
    let front = from_first raw lines n no_line same first below in
    let back = from_first raw rest m no_line later next within in
    sym (ap only_length (front ∙ ap (λ (l : List (List ℕ)). span_bytes raw (get_or lines n no_line).value ∷ l)
    (ap (λ (l : List HeaderSpan). lengths raw l) (sym is) ∙ back)))

-- there is one
pub only_length-one : (raw : List ℕ) (lines rest : List HeaderSpan) (n m : ℕ) (d : HeaderSpan)
    (result : Result ℕ ClientFault) → lengths raw lines ≡ lengths raw (drop n lines)
    → IsLengthFirst raw (drop n lines) → n < length lines → rest ≡ drop (n + 1) lines
    → lengths raw rest ≡ lengths raw (drop m rest) → length rest ≤ m
    → result ≡ length_of (span_bytes raw (get_or lines n d).value) → result ≡ only_length (lengths raw lines)
unfolding only_length
only_length-one raw lines rest n m d result same first below is later past e =
    let front = from_first raw lines n d same first below in
    let back : lengths raw (drop (n + 1) lines) ≡ [] = ap (λ (l : List HeaderSpan). lengths raw l) (sym is) ∙ later
    ∙ ap (λ (l : List HeaderSpan). lengths raw l) (drop_all m rest past) in
    e ∙ sym (ap only_length
    (front ∙ ap (λ (l : List (List ℕ)). span_bytes raw (get_or lines n d).value ∷ l) back))

pub ruleset length_lines = (lengths-other, first-here, first-none)

pub ruleset one_length = (only_length-none, only_length-more, only_length-one)

-- a length that is taken is within the limit
pub few-len : (code : ℕ) (lines : List (List ℕ × List ℕ)) → IfOk (body_len code lines) (λ len. len ≤ MAX_BODY)
unfolding body_len within_limit
few-len code lines = by_test (code == 200)
  where
    by_limit : (len : ℕ) (b : Bool) → nat_lt MAX_BODY len ≡ b
        → IfOk {T = ℕ} {E = ClientFault} (cond b (Err (TooLong len)) (Ok len)) (λ n. n ≤ MAX_BODY)
    by_limit len true e = tt
    by_limit len false e = ltb-false MAX_BODY len e

    by_len : (r : Result ℕ ClientFault) → IfOk (r >>= within_limit) (λ n. n ≤ MAX_BODY)
    by_len (Ok len) = by_limit len (nat_lt MAX_BODY len) refl
    by_len (Err fault) = tt

    by_test : (b : Bool)
        → IfOk (refuse_if (not b) (Status code) >> (announced_length lines >>= within_limit)) (λ n. n ≤ MAX_BODY)
    by_test true = by_len (announced_length lines)
    by_test false = tt
