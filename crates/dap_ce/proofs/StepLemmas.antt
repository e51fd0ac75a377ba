-- Where one byte leads the machine that reads constraints, by the byte.
use Rattle.std.proofs.Common.{◌≡◌, ◌≢◌, ℕ, ◌+◌, ◌-◌, ◌<◌, ◌≤◌, true, false, List, [], ◌∷◌, ◌++◌, length, take, drop, get_or, Some, None, ◌∙◌, ap, sym, arith}
use Rattle.std.proofs.lemmas.Bool.{cond-true, cond-false, eq-eqb, ne_eqb}
use Rattle.std.proofs.lemmas.List.{drop-append-le, drop-take, length-take-le, take_more}
use Rattle.fm_base.specs.Name.{is_name_byte}
use Rattle.dap_model.specs.ConstraintReading.{Begun, before_name, in_name, step_name, step_on, with_name}

pub step_on-none : (begun : Begun) (byte : ℕ) → byte ≢ 91 → byte ≢ 44 → step_on begun byte ≡ None
unfolding step_on
step_on-none begun byte slab comma = cond-false _ _ _ (ne_eqb byte 91 slab) ∙ cond-false _ _ _ (ne_eqb byte 44 comma)

pub step_name-more : (begun : Begun) (text : List ℕ) (from at : ℕ) → from ≤ at → at < length text
    → is_name_byte (get_or text at 0) ≡ true
    → step_name begun (drop from (take at text)) (get_or text at 0)
    ≡ Some (in_name begun (drop from (take (at + 1) text)))
unfolding step_name
step_name-more begun text from at begins within name =
    let byte = get_or text at 0 in
    let long : length (take at text) ≡ at = length-take-le at text (omega arith) in
    let more : drop from (take (at + 1) text) ≡ drop from (take at text) ++ byte ∷ [] =
    ap (drop from) (take_more text at 0 within)
    ∙ drop-append-le from (take at text) (byte ∷ []) (omega (arith, long)) in
    cond-true _ _ _ name ∙ ap (λ (n : List ℕ). Some (in_name begun n)) (sym more)

pub step_name-dot : (begun : Begun) (name : List ℕ) (byte : ℕ) → is_name_byte byte ≡ false → byte ≡ 46
    → step_name begun name byte ≡ Some (before_name (with_name begun name))
unfolding step_name
step_name-dot begun name byte other dot = cond-false _ _ _ other ∙ cond-true _ _ _ (eq-eqb byte 46 dot)

pub step_name-on : (begun : Begun) (name : List ℕ) (byte : ℕ) → is_name_byte byte ≡ false → byte ≢ 46
    → step_name begun name byte ≡ step_on (with_name begun name) byte
unfolding step_name
step_name-on begun name byte other dot = cond-false _ _ _ other ∙ cond-false _ _ _ (ne_eqb byte 46 dot)

-- the bytes of a text between two offsets
pub slice_between : (text : List ℕ) (from at : ℕ) → from ≤ at
    → drop from (take at text) ≡ take (at - from) (drop from text)
slice_between text from at begun =
    ap (λ (n : ℕ). drop from (take n text)) (omega arith) ∙ drop-take from (at - from) text
