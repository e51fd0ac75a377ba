-- What holds of a zone after spaces, which may lack its sign.
use Rattle.std.proofs.Common.{◌≡◌, ◌⊎◌, inl, inr, ℕ, zero, suc, Bool, true, false, ◌==◌, ltb, List, [], ◌++◌, length, replicate, refl, sym, ap, subst, ◌∙◌, ℤ, arith}
use Rattle.std.proofs.lemmas.Bool.{ne_eqb, lt-ltb, ltb-true}
use Rattle.std.proofs.lemmas.List.{length-replicate}
use Rattle.std.proofs.Math.Dec.{eqb-suc-zero}
use Rattle.std.specs.Char.{is_ascii_digit}
use Rattle.nc_model.specs.UnitsRanges.{OutShift, OutZone}
use Rattle.nc_model.specs.UnitsReading.{zone_after}
use Rattle.nc_model.specs.UnitsSpelling.{SpellsShift, SpellsZone, SpellsZoneAfter}
use Rattle.fm_base.proofs.Exact.{Stops}
use Rattle.tm_units.proofs.Lawful.{Lawful, Lawful-outs}
use Rattle.tm_units.proofs.LawfulChoices.{GoesOn, Lawful-digit_follows}
use Rattle.tm_units.proofs.UnitsBegins.{Begins, begins_test, whole_test, begins_before, BeginsWithDigit, number_begins, digit_before, digit_first, digit_whole, out_number_begins, out_after_begins}
use Rattle.tm_units.proofs.UnitsDistances.{Lawful-shift}
use Rattle.tm_units.proofs.UnitsTimes.{EndsTime}
use Rattle.tm_units.proofs.UnitsZoneWords.{plain_ends}
use Rattle.tm_units.proofs.UnitsZones.{Lawful-zone, zone_starts}

abbrev pub Space : ℕ → Bool
Space = λ other. other == 32

-- no digit is a space
digit_apart : (byte : ℕ) → is_ascii_digit byte ≡ true → Space byte ≡ false
digit_apart byte digit = ne_eqb byte 32 (λ e. not_digit (subst (λ (b : ℕ). is_ascii_digit b ≡ true) e digit))
  where
    not_digit : is_ascii_digit 32 ≡ true → ⊥
    not_digit e = let same : false ≡ true = e in absurd cc

-- a space and what follows it
pub gap_ends : (text : List ℕ) → Begins text 32 → EndsTime text
gap_ends text begins =
    plain_ends 32 text begins (record { digit = refl; zero_byte = refl; colon = refl; point = refl })

-- spaces and what follows them
pub spaces_end : (count : ℕ) (text front back : List ℕ) → text ≡ front ++ back → front ≡ replicate count 32
    → EndsTime back → EndsTime text
spaces_end zero text front back is none may =
    subst EndsTime (sym (is ∙ ap (λ (l : List ℕ). l ++ back) none)) may
spaces_end (suc count) text front back is some may =
    gap_ends text (record {
      more = replicate count 32 ++ back;
      text_is = is ∙ ap (λ (l : List ℕ). l ++ back) some;
    })

-- a zone after `gap` spaces, by its first byte
abbrev pub TheZoneAfter : ℕ → Bool → List ℕ → ℤ → Type 0
TheZoneAfter gap strict text zone =
    ((ltb 0 gap ≡ true) × SpellsShift strict text zone) ⊎ SpellsZone strict text zone

-- what begins with no space
pub record StartsApart (text : List ℕ) : Type 0 where
  pub byte : ℕ
  pub begins : Begins text byte
  pub no_space : Space byte ≡ false

pub digit_starts : (text : List ℕ) → BeginsWithDigit text → StartsApart text
digit_starts text s = record { byte = s.byte; begins = s.begins; no_space = digit_apart s.byte s.digit }

shift_begins : (strict : Bool) (text : List ℕ) (zone : ℤ) → SpellsShift strict text zone → BeginsWithDigit text
shift_begins strict text zone s =
    digit_before text s.hour_text s.minute_text s.text_is
    (number_begins strict 1 2 0 23 s.hour_text s.hour (omega arith) s.hour_is)

out_shift_begins : (offset : ℕ) (text : List ℕ) → OutShift offset text → BeginsWithDigit text
out_shift_begins offset text (inl hour) = out_number_begins 2 0 23 offset text hour
out_shift_begins offset text (inr minute) =
    digit_before text minute.front minute.back minute.text_is
    (number_begins true 1 2 0 23 minute.front minute.value (omega arith) minute.first)

pub zone_after_starts : (gap : ℕ) (strict : Bool) (text : List ℕ) (zone : ℤ) → TheZoneAfter gap strict text zone
    → StartsApart text
zone_after_starts gap strict text zone (inl s) = digit_starts text (shift_begins strict text zone s.1)
zone_after_starts gap strict text zone (inr s) =
    let first = zone_starts strict text zone s in
    record { byte = first.byte; begins = first.begins; no_space = first.no_space }

pub out_zone_starts : (gap offset : ℕ) (text : List ℕ) → OutZone gap offset text → StartsApart text
out_zone_starts gap offset text (inl shift) = digit_starts text (out_shift_begins offset text shift.1)
out_zone_starts gap offset text (inr (inl ahead)) =
    record { byte = 43; begins = out_after_begins 43 offset text ahead; no_space = refl }
out_zone_starts gap offset text (inr (inr behind)) =
    record { byte = 45; begins = out_after_begins 45 offset text behind; no_space = refl }

pub Lawful-zone_after : (gap : ℕ)
    → Lawful (TheZoneAfter gap) (λ zone. EndsTime) (OutZone gap) (λ strict. zone_after strict gap)
unfolding zone_after
Lawful-zone_after gap =
    Lawful-outs
    (λ offset text o. elim o [ inl s ↦ inl (ltb-true 0 gap s.0, s.1) | inr s ↦ inr s ])
    (λ offset text o. elim o [ inl s ↦ inl (lt-ltb 0 gap s.0, s.1) | inr s ↦ inr s ])
    (Lawful-digit_follows {S = SpellsShift} {T = SpellsZone} (ltb 0 gap) Lawful-shift Lawful-zone
    (λ strict text rest zone s. digit_first text rest (shift_begins strict text zone s))
    (λ strict text rest zone s may. let first = zone_starts strict text zone s in
    begins_test is_ascii_digit first.byte false text rest first.begins first.plain.digit)
    (λ offset rest o. digit_whole rest (out_shift_begins offset rest o))
    (λ offset rest o. elim o [
      | inl ahead ↦ whole_test is_ascii_digit 43 false rest (out_after_begins 43 offset rest ahead) refl
      | inr behind ↦ whole_test is_ascii_digit 45 false rest (out_after_begins 45 offset rest behind) refl
    ]))

pub to_zone_after : (count : ℕ) (strict : Bool) (front text : List ℕ) (zone : ℤ) → front ≡ replicate count 32
    → TheZoneAfter count strict text zone → SpellsZoneAfter strict front text zone
to_zone_after zero strict front text zone is (inl s) = let no = s.0 in absurd cc
to_zone_after (suc more) strict front text zone is (inl s) = inl (record { more = more; text_is = is }, s.1)
to_zone_after count strict front text zone is (inr s) = inr s

pub from_zone_after : (count : ℕ) (strict : Bool) (front text : List ℕ) (zone : ℤ) → front ≡ replicate count 32
    → SpellsZoneAfter strict front text zone → TheZoneAfter count strict text zone
from_zone_after count strict front text zone is (inl s) =
    let first = length-replicate {A = ℕ} count 32 in
    let second = length-replicate {A = ℕ} (suc s.0.more) 32 in
    inl (lt-ltb 0 count (omega (arith, ap length is, ap length s.0.text_is, first, second)), s.1)
from_zone_after count strict front text zone is (inr s) = inr s

pub starts_no_space : (text rest : List ℕ) → StartsApart text → Stops Space (text ++ rest)
starts_no_space text rest s = begins_test Space s.byte false text rest s.begins s.no_space

pub starts_before : (text front back : List ℕ) → text ≡ front ++ back → StartsApart front → StartsApart text
starts_before text front back is s =
    record { byte = s.byte; begins = begins_before s.byte text front back is s.begins; no_space = s.no_space }

pub starts_goes_on : (text : List ℕ) → StartsApart text → GoesOn text
starts_goes_on text s = subst GoesOn (sym s.begins.text_is) (eqb-suc-zero (length s.begins.more))

pub at_end : (P : List ℕ → Type 0) (rest : List ℕ) → rest ≡ [] → P [] → P rest
at_end P rest end h = subst P (sym end) h
