-- Bytes that moved over a link, one turn after the other.
use Rattle.std.proofs.Common.{◌≡◌, ◌≤◌, ℕ, ◌+◌, List, [], ◌++◌, length, take, drop, Option, Some, None, refl, sym, ap, subst, ◌∙◌, append_assoc, append-nil, arith, length-append}
use Rattle.std.specs.Prelude.{IfSome}
use Rattle.std.proofs.Math.Seq.{take-add}
use Rattle.std.proofs.lemmas.List.{drop-drop, length-take}
use Rattle.dev_traits.specs.declared.link.Taken.TheVariants as takes
use Rattle.dev_traits.specs.Link.{Wire, after_put, after_take, GivesNext}
use Rattle.dev_traits.proofs.LinkLemmas.{after_take_nothing}
use Rattle.dev_traits.specs.Moved.{moved, AreNext, IsOver}

-- a wire of these bytes
wire_of : List ℕ → List ℕ → List ℕ → Option Wire
wire_of taken left put = Some (record { taken = taken; left = left; put = put })

-- nothing moved
pub moved-none : (held : Option Wire) → moved [] [] held ≡ held
unfolding wire_of
moved-none None = refl
moved-none (Some w) =
    ap (λ (l : List ℕ). wire_of l w.left (w.put ++ [])) (append-nil w.taken)
    ∙ ap (λ (l : List ℕ). wire_of w.taken w.left l) (append-nil w.put)

-- bytes are put after others moved
pub moved-put : (taken written bytes : List ℕ) (held : Option Wire)
    → after_put bytes (moved taken written held) ≡ moved taken (written ++ bytes) held
unfolding wire_of
moved-put taken written bytes None = refl
moved-put taken written bytes (Some w) =
    ap (λ (l : List ℕ). wire_of (w.taken ++ taken) (drop (length taken) w.left) l) (append_assoc w.put written bytes)

-- more bytes are taken
pub moved-more : (taken more written : List ℕ) (held : Option Wire)
    → moved more [] (moved taken written held) ≡ moved (taken ++ more) written held
unfolding wire_of
moved-more taken more written None = refl
moved-more taken more written (Some w) =
    let count : length taken + length more ≡ length (taken ++ more) = sym (length-append taken more) in
    let left : drop (length more) (drop (length taken) w.left) ≡ drop (length (taken ++ more)) w.left =
    drop-drop (length more) (length taken) w.left ∙ ap (λ (n : ℕ). drop n w.left) count in
    ap (λ (l : List ℕ). wire_of l (drop (length more) (drop (length taken) w.left)) ((w.put ++ written) ++ []))
    (append_assoc w.taken taken more)
    ∙ ap (λ (l : List ℕ). wire_of (w.taken ++ (taken ++ more)) l ((w.put ++ written) ++ [])) left
    ∙ ap (λ (l : List ℕ). wire_of (w.taken ++ (taken ++ more)) (drop (length (taken ++ more)) w.left) l)
    (append-nil (w.put ++ written))

pub next-none : (held : Option Wire) → AreNext [] held
next-none None = tt
next-none (Some w) = refl

pub next-more : (taken more written : List ℕ) (held : Option Wire) → AreNext taken held
    → AreNext more (moved taken written held) → AreNext (taken ++ more) held
next-more taken more written None first then = tt
next-more taken more written (Some w) first then =
    ap (λ (n : ℕ). take n w.left) (length-append taken more)
    ∙ take-add (length taken) (length more) w.left
    ∙ ap (λ (l : List ℕ). l ++ take (length more) (drop (length taken) w.left)) first
    ∙ ap (λ (l : List ℕ). taken ++ l) then

-- the bytes that a call of a link gave
pub next-given : (held : Option Wire) (buf : List ℕ) (count : ℕ)
    → IfSome held (λ wire. GivesNext wire buf (takes.Bytes count)) → count ≤ length buf → AreNext (take count buf) held
next-given None buf count given within = tt
next-given (Some w) buf count given within =
    let len : length (take count buf) ≡ count = omega (arith, length-take count buf) in
    ap (λ (n : ℕ). take n w.left) len ∙ sym given.1

pub moved-given : (held : Option Wire) (buf : List ℕ) (count : ℕ)
    → IfSome held (λ wire. GivesNext wire buf (takes.Bytes count)) → count ≤ length buf
    → after_take count held ≡ moved (take count buf) [] held
unfolding wire_of
moved-given None buf count given within = refl
moved-given (Some w) buf count given within =
    let len : count ≡ length (take count buf) = omega (arith, length-take count buf) in
    ap (λ (l : List ℕ). wire_of (w.taken ++ l) (drop count w.left) w.put) (sym given.1)
    ∙ ap (λ (n : ℕ). wire_of (w.taken ++ take count buf) (drop n w.left) w.put) len
    ∙ ap (λ (l : List ℕ). wire_of (w.taken ++ take count buf) (drop (length (take count buf)) w.left) l)
    (sym (append-nil w.put))

-- at the end of input nothing is left
pub over-given : (held now : Option Wire) (buf : List ℕ) → IfSome held (λ wire. GivesNext wire buf takes.End)
    → now ≡ after_take 0 held → IsOver now
over-given None now buf given is = subst IsOver (sym is) tt
over-given (Some w) now buf given is = subst IsOver (sym is) given

-- a call that took nothing
pub same-given : (held now : Option Wire) → now ≡ after_take 0 held → now ≡ held
same-given held now is = is ∙ sym (after_take_nothing held)
