-- One step of a reader through bytes.
use Rattle.std.proofs.Common.{◌≡◌, ℕ, suc, ◌+◌, ◌<◌, ◌≤◌, List, [], ◌∷◌, length, get_or, drop, Option, Some, None, refl, sym, ap, subst, ◌∙◌, arith}
use Rattle.std.specs.Option.{option_map}
use Rattle.std.proofs.lemmas.List.{drop_more, drop_all}
use Rattle.web_frame.specs.declared.scan.State.{State}
use Rattle.web_frame.specs.Scan.{state_after, state_past, end_from}

option_map_more : (i : ℕ) (o : Option ℕ)
    → option_map (λ n. i + n) (option_map (λ n. suc n) o) ≡ option_map (λ n. i + 1 + n) o
option_map_more i None = refl
option_map_more i (Some n) = ap Some (omega arith)

-- the end from a byte on, where it doesn't end the head
pub end_from_after : (p q : State) (b : ℕ) (bytes : List ℕ) → state_after p b ≡ Some q
    → end_from p (b ∷ bytes) ≡ option_map suc (end_from q bytes)
unfolding end_from
end_from_after p q b bytes is =
    let by : Option State → Option ℕ =
    λ o. elim o as (λ _. Option ℕ) [ None ↦ Some 1 | Some next ↦ option_map suc (end_from next bytes) ] in
    ap by is

-- and where it does
pub end_from_here : (p : State) (b : ℕ) (bytes : List ℕ) → state_after p b ≡ None → end_from p (b ∷ bytes) ≡ Some 1
unfolding end_from
end_from_here p b bytes is =
    let by : Option State → Option ℕ =
    λ o. elim o as (λ _. Option ℕ) [ None ↦ Some 1 | Some next ↦ option_map suc (end_from next bytes) ] in
    ap by is

-- the state past a byte
pub state_past_after : (p q : State) (b : ℕ) (bytes : List ℕ) → state_after p b ≡ Some q
    → state_past p (b ∷ bytes) ≡ state_past q bytes
unfolding state_past
state_past_after p q b bytes is =
    let by : Option State → Option State =
    λ o. elim o as (λ _. Option State) [ None ↦ None | Some next ↦ state_past next bytes ] in
    ap by is

pub end_from_more : (p q : State) (bytes : List ℕ) (i : ℕ) → i < length bytes
    → state_after p (get_or bytes i 0) ≡ Some q
    → option_map (λ n. i + n) (end_from p (drop i bytes)) ≡ option_map (λ n. i + 1 + n)
    (end_from q (drop (i + 1) bytes))
end_from_more p q bytes i below is =
    ap (λ l. option_map (λ n. i + n) (end_from p l)) (drop_more bytes i 0 below)
    ∙ ap (option_map (λ n. i + n)) (end_from_after p q (get_or bytes i 0) (drop (i + 1) bytes) is)
    ∙ option_map_more i (end_from q (drop (i + 1) bytes))

pub end_from_found : (p : State) (bytes : List ℕ) (i : ℕ) → i < length bytes → state_after p (get_or bytes i 0) ≡ None
    → option_map (λ n. i + n) (end_from p (drop i bytes)) ≡ Some (i + 1)
end_from_found p bytes i below is =
    ap (λ l. option_map (λ n. i + n) (end_from p l)) (drop_more bytes i 0 below)
    ∙ ap (option_map (λ n. i + n)) (end_from_here p (get_or bytes i 0) (drop (i + 1) bytes) is)

pub end_from_none : (p : State) (bytes : List ℕ) (i : ℕ) → length bytes ≤ i
    → option_map (λ n. i + n) (end_from p (drop i bytes)) ≡ None
unfolding end_from
end_from_none p bytes i past = rw (drop_all i bytes past) refl

pub state_past_more : (p q : State) (bytes : List ℕ) (i : ℕ) → i < length bytes
    → state_after p (get_or bytes i 0) ≡ Some q
    → state_past p (drop i bytes) ≡ state_past q (drop (i + 1) bytes)
state_past_more p q bytes i below is =
    ap (state_past p) (drop_more bytes i 0 below) ∙ state_past_after p q (get_or bytes i 0) (drop (i + 1) bytes) is

pub state_past_none : (p : State) (bytes : List ℕ) (i : ℕ) → length bytes ≤ i → state_past p (drop i bytes) ≡ Some p
unfolding state_past
state_past_none p bytes i past = rw (drop_all i bytes past) refl
