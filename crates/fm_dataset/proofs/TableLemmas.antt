-- The numbers of slots and of coordinate variables, one after another.
use Rattle.std.proofs.Common.{◌≡◌, ℕ, zero, suc, ◌+◌, ◌<◌, Bool, true, false, cond, List, [], ◌∷◌, ◌++◌, length, get_or, take, filter, Some, refl, ap, ◌∙◌, sym, arith, length-append}
use Rattle.std.specs.List.{slice_get}
use Rattle.std.proofs.Math.ListN.{get_or-append}
use Rattle.std.proofs.Math.Seq.{get_or-append_seam}
use Rattle.std.proofs.lemmas.List.{take_more}
use Rattle.std.proofs.lemmas.List.Elements.{filter-append}
use Rattle.std.proofs.lemmas.Option.{none-some, same_Some}
use borrow.Author.Count.{below_more}
use Rattle.fm_model.specs.declared.proto.Proto.{Proto}
use Rattle.fm_model.specs.declared.proto.ProtoVar.{ProtoVar}
use Rattle.fm_model.specs.LoadVars.{slotted_vars}
use Rattle.fm_dataset.specs.Kept.{has_slot, slot_number, slots_in}

pub slot_none : (proto : Proto) → slot_number proto 0 ≡ 0
unfolding slot_number
slot_none proto = refl

-- one more of the first variables
pub slot_more : (proto : Proto) (n : ℕ) (var : ProtoVar) → n < length proto.vars → var ≡ get_or proto.vars n var
    → slot_number proto (n + 1) ≡ slot_number proto n + slots_in proto var
unfolding slot_number
slot_more proto n var within there =
    ap (λ vars. length (filter (has_slot proto) vars))
    (take_more proto.vars n var within ∙ ap (λ (v : ProtoVar). take n proto.vars ++ v ∷ []) (sym there))
    ∙ ap length (filter-append (has_slot proto) (take n proto.vars) (var ∷ []))
    ∙ length-append (filter (has_slot proto) (take n proto.vars)) (filter (has_slot proto) (var ∷ []))
    ∙ ap (λ (k : ℕ). length (filter (has_slot proto) (take n proto.vars)) + k) (one (has_slot proto var))
  where
    one : (b : Bool) → length (cond b (var ∷ []) []) ≡ cond b 1 0
    one true = refl
    one false = refl

-- an item that passes stands among those that pass where as many pass before it
passing_at : {A : Type 0} (test : A → Bool) (xs : List A) (n : ℕ) (x : A) → slice_get xs n ≡ Some x
    → test x ≡ true → slice_get (filter test xs) (length (filter test (take n xs))) ≡ Some x
passing_at test [] n x e passes = absurd (none-some x e)
passing_at {A} test (y ∷ ys) zero x e passes = here (test y) (ap test (same_Some y x e) ∙ passes)
  where
    here : (b : Bool) → b ≡ true → slice_get (cond b (y ∷ filter test ys) (filter test ys)) 0 ≡ Some x
    here true is = e
    here false is = absurd cc
passing_at {A} test (y ∷ ys) (suc n) x e passes = later (test y) (passing_at test ys n x e passes)
  where
    later : (b : Bool) → slice_get (filter test ys) (length (filter test (take n ys))) ≡ Some x
        → slice_get (cond b (y ∷ filter test ys) (filter test ys))
        (length (cond b (y ∷ filter test (take n ys)) (filter test (take n ys)))) ≡ Some x
    later true found = found
    later false found = found

-- a variable with a slot has the slot of its number
pub slot_found : (proto : Proto) (n : ℕ) (var : ProtoVar) → slice_get proto.vars n ≡ Some var
    → has_slot proto var ≡ true → slice_get (slotted_vars proto) (slot_number proto n) ≡ Some var
unfolding slotted_vars slot_number
slot_found proto n var e has = passing_at (has_slot proto) proto.vars n var e has

-- what holds of each number by its index holds with one more number
pub each_push : (P : ℕ → ℕ → Type 0) (xs new : List ℕ) (x n : ℕ) → new ≡ xs ++ x ∷ [] → length xs ≡ n
    → ((k : ℕ) → k < n → P k (get_or xs k 0)) → P n x → (k : ℕ) → k < n + 1 → P k (get_or new k 0)
each_push P xs new x n new_is long each here =
    rw new_is (below_more (λ (k : ℕ). P k (get_or (xs ++ x ∷ []) k 0)) n
    (λ k below. let within : k < length xs = omega arith in rw (get_or-append xs (x ∷ []) 0 k within) (each k below))
    (rw (← long, get_or-append_seam xs x [] 0) (rw long here)))

pub length_push : (xs new : List ℕ) (x n : ℕ) → new ≡ xs ++ x ∷ [] → length xs ≡ n → length new ≡ n + 1
length_push xs new x n new_is long = ap length new_is ∙ length-append xs (x ∷ []) ∙ ap (λ (k : ℕ). k + 1) long
