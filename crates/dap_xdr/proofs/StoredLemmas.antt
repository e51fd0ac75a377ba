-- What stands in a file, as elements of an array.
use Rattle.std.proofs.Common.{◌≡◌, ◌≢◌, ℕ, ◌-◌, ◌*◌, ◌/◌, ◌≤◌, List, [], ◌∷◌, ◌++◌, length, min, take, drop, refl, sym, ap, ap₂, subst, ◌∙◌, arith}
use Rattle.std.specs.List.{All, flat_map}
use Rattle.std.proofs.lemmas.List.Elements.{All-tail}
use Rattle.dap_model.specs.Xdr.{element_bytes, number_bytes, bits_in, AreBitsOf}
use Rattle.dap_model.specs.declared.declaration.DapKind.{DapKind}
use Rattle.dap_model.specs.declared.declaration.DapKind.TheVariants.{Byte, Int16, Int32, Float32, Float64, Text}
use Rattle.dap_number.specs.Front.{IsFront, widened_bytes}
use Rattle.dap_number.specs.Overlay.{overlay}
use Rattle.dap_xdr.specs.Stretch.{stored_bytes, AreBytesOf}
use Rattle.std.proofs.lemmas.List.{length-drop, length-take}
use Rattle.std.proofs.lemmas.Nat.{from_be_bytes-to_be_bytes_2}
use Rattle.dap_xdr.proofs.WidenLemmas.{length-widened, widened-take}
use Rattle.dap_number.proofs.FrontLemmas.{overlay-front}

-- all but numbers of two bytes are sent as they stand
pub stored-same : (kind : DapKind) (bits : ℕ) → kind ≢ Int16 → stored_bytes kind bits ≡ element_bytes kind bits
unfolding stored_bytes element_bytes number_bytes
stored-same Byte bits other = refl
stored-same Int16 bits other = absurd (other refl)
stored-same Int32 bits other = refl
stored-same Float32 bits other = refl
stored-same Float64 bits other = refl
stored-same Text bits other = refl

pub all-same : (kind : DapKind) (numbers : List ℕ) → kind ≢ Int16
    → flat_map (stored_bytes kind) numbers ≡ flat_map (element_bytes kind) numbers
all-same kind [] other = refl
all-same kind (bits ∷ numbers) other =
    ap₂ (λ (l r : List ℕ). l ++ r) (stored-same kind bits other) (all-same kind numbers other)

-- numbers of two bytes are widened one by one
pub widened-numbers : (numbers : List ℕ) → All (AreBitsOf Int16) numbers
    → widened_bytes (flat_map (stored_bytes Int16) numbers) ≡ flat_map (element_bytes Int16) numbers
unfolding widened_bytes stored_bytes element_bytes bits_in
widened-numbers [] fit = refl
widened-numbers (bits ∷ numbers) fit =
    ap₂ (λ (l r : List ℕ). l ++ r)
    (ap (number_bytes Int16) (from_be_bytes-to_be_bytes_2 bits (fit 0 bits (omega arith))))
    (widened-numbers numbers (All-tail (AreBitsOf Int16) bits numbers fit))

-- what is written of stored numbers that are sent as they stand
pub put-same : (kind : DapKind) (numbers stored old : List ℕ) (skip count : ℕ) → kind ≢ Int16
    → AreBytesOf kind numbers stored → count ≡ min (length old) (length stored - skip)
    → IsFront (drop skip (flat_map (element_bytes kind) numbers)) old (overlay (drop skip stored) old) count
put-same kind numbers stored old skip count other are is =
    let same : stored ≡ flat_map (element_bytes kind) numbers = are.bytes_are ∙ all-same kind numbers other in
    subst (λ (l : List ℕ). IsFront (drop skip l) old (overlay (drop skip stored) old) count) same
    (overlay-front (drop skip stored) old count (is ∙ ap (λ (n : ℕ). min (length old) n) (sym
    (length-drop skip stored))))

-- what is written of stored numbers of two bytes
pub put-widened : (numbers stored old new : List ℕ) (count : ℕ) → AreBytesOf Int16 numbers stored
    → count ≡ 4 * min (length stored / 2) (length old / 4)
    → new ≡ widened_bytes (take (count / 2) stored) ++ drop count old
    → IsFront (drop 0 (flat_map (element_bytes Int16) numbers)) old new count
put-widened numbers stored old new count are is written =
    let many = min (length stored / 2) (length old / 4) in
    let all : widened_bytes stored ≡ flat_map (element_bytes Int16) numbers =
    ap widened_bytes are.bytes_are ∙ widened-numbers numbers are.fit in
    let half : count / 2 ≡ 2 * many = omega (arith, is) in
    let within : 2 * many ≤ length stored = omega arith in
    let front : widened_bytes (take (count / 2) stored) ≡ take count (flat_map (element_bytes Int16) numbers) =
    ap (λ (n : ℕ). widened_bytes (take n stored)) half
    ∙ widened-take many (2 * many) stored refl within
    ∙ ap₂ take (omega (arith, is)) all in
    let long : length (widened_bytes (take (2 * many) stored)) ≡ 2 * (2 * many) =
    length-widened many (2 * many) stored refl within in
    record {
      fits = omega (arith, is);
      within = omega (
        arith,
        is,
        ap length front,
        ap (λ (n : ℕ). length (widened_bytes (take n stored))) half,
        long,
        length-take count (flat_map (element_bytes Int16) numbers),
      );
      new_is = written ∙ ap (λ (l : List ℕ). l ++ drop count old) front;
    }

pub ruleset stored = (put-same, put-widened)
