-- Where names and numbers lead reading.
use Rattle.std.proofs.Common.{◌≡◌, ℕ, ◌+◌, ◌-◌, ◌*◌, ◌≤◌, true, List, [], ◌∷◌, ◌++◌, length, Option, Some, refl, sym, ap, ◌∙◌, append_assoc, append-nil, arith}
use Rattle.std.specs.Char.{is_ascii_digit}
use Rattle.std.specs.List.{list_all}
use Rattle.std.specs.Option.{option_and_then}
use Rattle.std.proofs.lemmas.Bool.{cond-true, and_parts, and_from, lt-ltb}
use Rattle.std.proofs.lemmas.List.{length-append}
use Rattle.std.proofs.lemmas.Option.{option_and_then_some, same_Some}
use Rattle.nc_model.specs.Stamp.{number_after}
use Rattle.fm_base.specs.Name.{is_name_byte}
use Rattle.dap_model.specs.Constraint.{Separated, SpellsName, SpellsNumber}
use Rattle.dap_model.specs.ConstraintReading.{Begun, State, before_name, in_name, before_number, in_number, with_name, step_to_name, step_name, step_number, step}

-- where reading stands after all bytes of a text
unfoldable pub run : State → List ℕ → Option State
run state [] = Some state
run state (byte ∷ rest) = option_and_then (λ next. run next rest) (step state byte)

-- first one text and then another
pub run-append : (state between : State) (first second : List ℕ) → run state first ≡ Some between
    → run state (first ++ second) ≡ run between second
unfolding run
run-append state between [] second h = ap (λ (s : State). run s second) (same_Some state between h)
run-append state between (byte ∷ first) second h =
    option_and_then_some (λ (next : State). run next first) (step state byte) between h
    (λ next took e. ap (option_and_then (λ (s : State). run s (first ++ second))) took
    ∙ run-append next between first second e)

-- one byte and then more
pub run-cons : (state next : State) (byte : ℕ) (rest : List ℕ) → step state byte ≡ Some next
    → run state (byte ∷ rest) ≡ run next rest
unfolding run
run-cons state next byte rest h = ap (option_and_then (λ (s : State). run s rest)) h

more_name : (begun : Begun) (name text : List ℕ) → list_all is_name_byte text ≡ true
    → run (in_name begun name) text ≡ Some (in_name begun (name ++ text))
unfolding run step step_name
more_name begun name [] passes = ap (λ (n : List ℕ). Some (in_name begun n)) (sym (append-nil name))
more_name begun name (byte ∷ text) passes =
    let tests = and_parts (is_name_byte byte) (list_all is_name_byte text) passes in
    run-cons (in_name begun name) (in_name begun (name ++ byte ∷ [])) byte text (cond-true _ _ _ tests.0)
    ∙ more_name begun (name ++ byte ∷ []) text tests.1
    ∙ ap (λ (n : List ℕ). Some (in_name begun n)) (append_assoc name (byte ∷ []) text)

run-name : (begun : Begun) (text name : List ℕ) → SpellsName text name
    → run (before_name begun) text ≡ Some (in_name begun name)
unfolding step step_to_name
run-name begun [] name s = absurd (omega (arith, s.some))
run-name begun (byte ∷ text) name s =
    let tests = and_parts (is_name_byte byte) (list_all is_name_byte text) s.bytes in
    run-cons (before_name begun) (in_name begun (byte ∷ [])) byte text (cond-true _ _ _ tests.0)
    ∙ more_name begun (byte ∷ []) text tests.1
    ∙ ap (λ (n : List ℕ). Some (in_name begun n)) (sym s.name_is)

-- reading stands in the last name of a path
pub record InPath (begun : Begun) (path : List (List ℕ)) (state : Option State) : Type 0 where
  pub earlier : Begun
  pub name : List ℕ
  pub ran : state ≡ Some (in_name earlier name)
  pub whole : with_name earlier name ≡ record begun { path = begun.path ++ path }

pub run-path : (begun : Begun) (text : List ℕ) (path : List (List ℕ)) → Separated 46 SpellsName text path
    → InPath begun path (run (before_name begun) text)
unfolding step step_name is_name_byte
run-path begun text [] s = absurd s
run-path begun text (name ∷ []) s =
    record { earlier = begun; name = name; ran = run-name begun text name s; whole = refl }
run-path begun text (name ∷ next ∷ path) s =
    let others = run-path (with_name begun name) s.1 (next ∷ path) s.3 in
    record {
      earlier = others.earlier;
      name = others.name;
      ran = ap (run (before_name begun)) s.4
          ∙ run-append (before_name begun) (in_name begun name) s.0 (46 ∷ s.1) (run-name begun s.0 name s.2)
          ∙ run-cons (in_name begun name) (before_name (with_name begun name)) 46 s.1 refl
          ∙ others.ran;
      whole =
          others.whole ∙ ap (λ (each : List (List ℕ)). record begun { path = each })
          (append_assoc begun.path (name ∷ []) (next ∷ path));
    }

more_digits : (begun : Begun) (numbers : List ℕ) (count value : ℕ) (text : List ℕ) → list_all is_ascii_digit text ≡ true
    → count + length text ≤ 18
    → run (in_number begun numbers count value) text ≡ Some
    (in_number begun numbers (count + length text) (number_after value text))
unfolding run step step_number
more_digits begun numbers count value [] passes few =
    ap (λ (n : ℕ). Some (in_number begun numbers n value)) (omega arith)
more_digits begun numbers count value (byte ∷ text) passes few =
    let tests = and_parts (is_ascii_digit byte) (list_all is_ascii_digit text) passes in
    let below = lt-ltb count 18 (omega arith) in
    run-cons (in_number begun numbers count value)
    (in_number begun numbers (count + 1) (value * 10 + (byte - 48))) byte text
    (cond-true _ _ _ (and_from _ _ tests.0 below))
    ∙ more_digits begun numbers (count + 1) (value * 10 + (byte - 48)) text tests.1 (omega arith)
    ∙ ap (λ (n : ℕ). Some (in_number begun numbers n (number_after (value * 10 + (byte - 48)) text))) (omega arith)

-- reading stands in a number of this value
record InDigits (begun : Begun) (numbers : List ℕ) (value : ℕ) (state : Option State) : Type 0 where
  count : ℕ
  ran : state ≡ Some (in_number begun numbers count value)

run-number : (begun : Begun) (numbers : List ℕ) (text : List ℕ) (value : ℕ) → SpellsNumber text value
    → InDigits begun numbers value (run (before_number begun numbers) text)
unfolding step
run-number begun numbers [] value s = absurd (omega (arith, s.some))
run-number begun numbers (byte ∷ text) value s =
    let tests = and_parts (is_ascii_digit byte) (list_all is_ascii_digit text) s.digits in
    let first : byte - 48 ≡ 0 * 10 + (byte - 48) = omega arith in
    record {
      count = 1 + length text;
      ran =
          run-cons (before_number begun numbers) (in_number begun numbers 1 (byte - 48)) byte text
          (cond-true _ _ _ tests.0)
          ∙ more_digits begun numbers 1 (byte - 48) text tests.1 (omega (arith, s.few))
          ∙ ap (λ (v : ℕ). Some (in_number begun numbers (1 + length text) (number_after v text))) first
          ∙ ap (λ (v : ℕ). Some (in_number begun numbers (1 + length text) v)) (sym s.value);
    }

-- reading stands in the last of some numbers
pub record InNumbers (begun : Begun) (all : List ℕ) (state : Option State) : Type 0 where
  pub earlier : List ℕ
  pub count : ℕ
  pub value : ℕ
  pub ran : state ≡ Some (in_number begun earlier count value)
  pub whole : earlier ++ value ∷ [] ≡ all

pub run-numbers : (begun : Begun) (before : List ℕ) (text : List ℕ) (numbers : List ℕ)
    → length before + length numbers ≤ 3 → Separated 58 SpellsNumber text numbers
    → InNumbers begun (before ++ numbers) (run (before_number begun before) text)
unfolding step step_number
run-numbers begun before text [] few s = absurd s
run-numbers begun before text (number ∷ []) few s =
    let last = run-number begun before text number s in
    record { earlier = before; count = last.count; value = number; ran = last.ran; whole = refl }
run-numbers begun before text (number ∷ next ∷ numbers) few s =
    let first = run-number begun before s.0 number s.2 in
    let others =
    run-numbers begun (before ++ number ∷ []) s.1 (next ∷ numbers)
    (omega (arith, length-append before (number ∷ []))) s.3 in
    let below = lt-ltb (length before) 2 (omega arith) in
    record {
      earlier = others.earlier;
      count = others.count;
      value = others.value;
      ran = ap (run (before_number begun before)) s.4
          ∙ run-append (before_number begun before) (in_number begun before first.count number) s.0 (58 ∷ s.1) first.ran
          ∙ run-cons (in_number begun before first.count number) (before_number begun (before ++ number ∷ [])) 58 s.1
          (cond-true _ _ _ below)
          ∙ others.ran;
      whole = others.whole ∙ append_assoc before (number ∷ []) (next ∷ numbers);
    }
