-- What holds of the end of a text after its time.
use Rattle.std.proofs.Common.{◌≡◌, inl, inr, ℕ, zero, suc, Bool, true, false, List, [], ◌++◌, replicate, refl, sym, ap, subst, ◌∙◌, append_assoc, ℤ, pos, ◌-ℤ◌, arith}
use Rattle.std.proofs.lemmas.List.{append-nil}
use Rattle.nc_model.specs.UnitsRanges.{OutZone, OutTime, OutClock, OutAfterSpaces}
use Rattle.nc_model.specs.UnitsReading.{end_at, spaces_at, zone_after, last_zone_at, clock_at}
use Rattle.nc_model.specs.UnitsSpelling.{SpellsTime, SpellsZoneAfter, SpellsLastZone, SpellsClock}
use Rattle.fm_base.specs.Parser.{◌>>=◌, pure}
use Rattle.fm_base.proofs.Exact.{Stops, AtEnd, Is}
use Rattle.tm_units.proofs.Lawful.{Lawful, Seq, Lawful-as, Lawful-then, Lawful-after, Lawful-first, Lawful-map, after_nothing}
use Rattle.tm_units.proofs.LawfulChoices.{Optional, Ended, Lawful-unless_ended, Lawful-end}
use Rattle.tm_units.proofs.UnitsBegins.{whole_test, begins_before, BeginsWithDigit, number_begins, digit_before, out_number_begins, out_after_begins}
use Rattle.tm_units.proofs.UnitsRuns.{Repeats}
use Rattle.tm_units.proofs.UnitsTerms.{Lawful-many}
use Rattle.tm_units.proofs.UnitsTimes.{EndsTime, Lawful-time}
use Rattle.tm_units.proofs.UnitsZoneAfter.{Space, StartsApart, TheZoneAfter, at_end, digit_starts, gap_ends, spaces_end, starts_before, starts_goes_on, starts_no_space, zone_after_starts, out_zone_starts, Lawful-zone_after, to_zone_after, from_zone_after}
use Rattle.tm_units.proofs.UnitsZoneWords.{plain_ends, nothing_ends}
use Rattle.tm_units.proofs.UnitsZones.{zone_starts}

-- a zone, the spaces after it, and the end
abbrev ToEnd : ℕ → Bool → List ℕ → ℤ → Type 0
ToEnd gap =
    Seq (TheZoneAfter gap)
    (λ zone. Seq (λ strict. Repeats 32) (λ gap. Seq (λ strict. Ended) (λ u strict. Is zone)))

abbrev TheLast : Bool → List ℕ → ℤ → Type 0
TheLast = Seq (λ strict. Repeats 32) (λ gap strict. Optional (pos 0) (ToEnd gap strict))

to_end_starts : (gap : ℕ) (strict : Bool) (text : List ℕ) (zone : ℤ) → ToEnd gap strict text zone → StartsApart text
to_end_starts gap strict text zone s =
    starts_before text s.front s.back s.text_is (zone_after_starts gap strict s.front s.a s.first)

Lawful-to_end : (gap : ℕ) → Lawful (ToEnd gap) (λ zone. AtEnd) (OutZone gap)
    (λ strict. zone_after strict gap >>= λ zone. spaces_at >>= λ gap. end_at >>= λ end. pure zone)
Lawful-to_end gap =
    Lawful-first {T = λ zone. Seq (λ strict. Repeats 32) (λ gap. Seq (λ strict. Ended) (λ u strict. Is zone))}
    {q = λ zone strict. spaces_at >>= λ gap. end_at >>= λ end. pure zone} (Lawful-zone_after gap)
    (λ zone. Lawful-first {T = λ gap. Seq (λ strict. Ended) (λ u strict. Is zone)}
    {q = λ gap strict. end_at >>= λ end. pure zone} (Lawful-many 32)
    (λ gap. Lawful-map (λ (u : Unit {0}). zone) Lawful-end)
    (λ strict a b front back rest s t may. after_nothing (Stops Space) back rest (t.text_is
    ∙ ap (λ (l : List ℕ). l ++ t.back) t.first.0 ∙ t.second.text_is) (at_end (Stops Space) rest may refl)))
    (λ strict a b front back rest s t may.
    spaces_end t.a (back ++ rest) t.front (t.back ++ rest)
    (ap (λ (l : List ℕ). l ++ rest) t.text_is ∙ append_assoc t.front t.back rest) t.first
    (after_nothing EndsTime t.back rest
    (t.second.text_is ∙ ap (λ (l : List ℕ). l ++ t.second.back) t.second.first.0 ∙ t.second.second.text_is)
    (at_end EndsTime rest may nothing_ends)))

last_stops : (gap : ℕ) (strict : Bool) (back rest : List ℕ) (zone : ℤ) → Optional (pos 0) (ToEnd gap strict) back zone
    → AtEnd rest → Stops Space (back ++ rest)
last_stops gap strict back rest zone (inl none) end =
    after_nothing (Stops Space) back rest none.0 (at_end (Stops Space) rest end refl)
last_stops gap strict back rest zone (inr s) end = starts_no_space back rest (to_end_starts gap strict back zone s)

to_last : (strict : Bool) (text : List ℕ) (zone : ℤ) → TheLast strict text zone → SpellsLastZone strict text zone
to_last strict text zone s = by_end s.second
  where
    by_end : Optional (pos 0) (ToEnd s.a strict) s.back zone → SpellsLastZone strict text zone
    by_end (inl none) =
        inl (
          record {
            count = s.a;
            text_is = s.text_is ∙ ap (λ (l : List ℕ). s.front ++ l) none.0 ∙ append-nil s.front ∙ s.first;
          },
          none.1,
        )
    by_end (inr t) =
        let value : t.a ≡ zone = t.second.second.second.value in
        inr (record {
          front = s.front;
          zone_text = t.front;
          back = t.second.front;
          front_is = record { count = s.a; text_is = s.first };
          zone_is = subst (λ (z : ℤ). SpellsZoneAfter strict s.front t.front z) value
              (to_zone_after s.a strict s.front t.front t.a s.first t.first);
          back_is = record { count = t.second.a; text_is = t.second.first };
          text_is = s.text_is
              ∙ ap (λ (l : List ℕ). s.front ++ l) (t.text_is
              ∙ ap (λ (l : List ℕ). t.front ++ l) (t.second.text_is
              ∙ ap (λ (l : List ℕ). t.second.front ++ l) (t.second.second.text_is
              ∙ ap (λ (l : List ℕ). l ++ t.second.second.back) t.second.second.first.0
              ∙ t.second.second.second.text_is)
              ∙ append-nil t.second.front));
        })

from_last : (strict : Bool) (text : List ℕ) (zone : ℤ) → SpellsLastZone strict text zone → TheLast strict text zone
from_last strict text zone (inl s) =
    record {
      a = s.0.count;
      front = text;
      back = [];
      first = s.0.text_is;
      second = inl (refl, s.1);
      text_is = sym (append-nil text);
    }
from_last strict text zone (inr s) = record {
  a = s.front_is.count;
  front = s.front;
  back = s.zone_text ++ s.back;
  first = s.front_is.text_is;
  second = inr (record {
    a = zone;
    front = s.zone_text;
    back = s.back;
    first = from_zone_after s.front_is.count strict s.front s.zone_text zone s.front_is.text_is s.zone_is;
    second = record {
      a = s.back_is.count;
      front = s.back;
      back = [];
      first = s.back_is.text_is;
      second = record {
        a = tt;
        front = [];
        back = [];
        first = (refl, refl);
        second = record { value = refl; text_is = refl };
        text_is = refl;
      };
      text_is = sym (append-nil s.back);
    };
    text_is = refl;
  });
  text_is = s.text_is;
}

Lawful-last_zone : Lawful SpellsLastZone (λ zone. AtEnd) (OutAfterSpaces OutZone) last_zone_at
unfolding last_zone_at
Lawful-last_zone =
    Lawful-as to_last from_last
    (Lawful-after {T = λ gap strict. Optional (pos 0) (ToEnd gap strict)} {U = OutZone} (Lawful-many 32)
    (λ gap. Lawful-unless_ended {S = ToEnd gap} (pos 0) (Lawful-to_end gap)
    (λ strict text zone s. starts_goes_on text (to_end_starts gap strict text zone s))
    (λ offset rest o. starts_goes_on rest (out_zone_starts gap offset rest o)))
    (λ strict a b front back rest s t may. last_stops a strict back rest b t may)
    (λ a front back offset s o. let first = out_zone_starts a offset back o in
    whole_test Space first.byte false back first.begins first.no_space))

-- no time goes on with what may follow it
last_zone_ends : (strict : Bool) (text rest : List ℕ) (zone : ℤ) → SpellsLastZone strict text zone → AtEnd rest
    → EndsTime (text ++ rest)
last_zone_ends strict text rest zone (inl s) end =
    spaces_end s.0.count (text ++ rest) text rest refl s.0.text_is (at_end EndsTime rest end nothing_ends)
last_zone_ends strict text rest zone (inr s) end =
    let more = s.back ++ rest in
    let whole : text ++ rest ≡ s.front ++ (s.zone_text ++ more) = ap (λ (l : List ℕ). l ++ rest) s.text_is
    ∙ append_assoc s.front (s.zone_text ++ s.back) rest
    ∙ ap (λ (l : List ℕ). s.front ++ l) (append_assoc s.zone_text s.back rest) in
    elim s.zone_is [
      | inl shift ↦ gap_ends (text ++ rest) (record {
        more = replicate shift.0.more 32 ++ (s.zone_text ++ more);
        text_is = whole ∙ ap (λ (l : List ℕ). l ++ (s.zone_text ++ more)) shift.0.text_is;
      })
      | inr zone_text ↦
          let first = zone_starts strict s.zone_text zone zone_text in
          spaces_end s.front_is.count (text ++ rest) s.front (s.zone_text ++ more) whole s.front_is.text_is
          (plain_ends first.byte (s.zone_text ++ more)
          (begins_before first.byte (s.zone_text ++ more) s.zone_text more refl first.begins) first.plain)
    ]

-- no time goes on with what is out of its range after it
out_zone_ends : (offset : ℕ) (text : List ℕ) → OutAfterSpaces OutZone offset text → EndsTime text
out_zone_ends offset text o = by_zone o.value o.first o.next
  where
    by_zone : (count : ℕ) → o.front ≡ replicate count 32 → OutZone count o.left o.back → EndsTime text
    by_zone zero is (inl shift) = let some = shift.0 in absurd (omega arith)
    by_zone (suc count) is (inl shift) =
        gap_ends text (record {
          more = replicate count 32 ++ o.back;
          text_is = o.text_is ∙ ap (λ (l : List ℕ). l ++ o.back) is;
        })
    by_zone count is (inr (inl ahead)) =
        spaces_end count text o.front o.back o.text_is is
        (plain_ends 43 o.back (out_after_begins 43 o.left o.back ahead)
        (record { digit = refl; zero_byte = refl; colon = refl; point = refl }))
    by_zone count is (inr (inr behind)) =
        spaces_end count text o.front o.back o.text_is is
        (plain_ends 45 o.back (out_after_begins 45 o.left o.back behind)
        (record { digit = refl; zero_byte = refl; colon = refl; point = refl }))

abbrev TheClock : Bool → List ℕ → ℤ → Type 0
TheClock = Seq SpellsTime (λ time. Seq SpellsLastZone (λ zone strict. Is (pos time -ℤ zone)))

to_clock : (strict : Bool) (text : List ℕ) (seconds : ℤ) → TheClock strict text seconds
    → SpellsClock strict text seconds
to_clock strict text seconds s = record {
  time_text = s.front;
  zone_text = s.second.front;
  time = s.a;
  zone = s.second.a;
  time_is = s.first;
  zone_is = s.second.first;
  seconds_is = s.second.second.value;
  text_is = s.text_is
      ∙ ap (λ (l : List ℕ). s.front ++ l) (s.second.text_is
      ∙ ap (λ (l : List ℕ). s.second.front ++ l) s.second.second.text_is ∙ append-nil s.second.front);
}

from_clock : (strict : Bool) (text : List ℕ) (seconds : ℤ) → SpellsClock strict text seconds
    → TheClock strict text seconds
from_clock strict text seconds s = record {
  a = s.time;
  front = s.time_text;
  back = s.zone_text;
  first = s.time_is;
  second = record {
    a = s.zone;
    front = s.zone_text;
    back = [];
    first = s.zone_is;
    second =
        record { value = s.seconds_is; text_is = refl };
    text_is = sym (append-nil s.zone_text);
  };
  text_is = s.text_is;
}

pub Lawful-clock : Lawful SpellsClock (λ seconds. AtEnd) OutClock clock_at
unfolding clock_at
Lawful-clock =
    Lawful-as to_clock from_clock
    (Lawful-then {T = λ time. Seq SpellsLastZone (λ zone strict. Is (pos time -ℤ zone))}
    {U = λ time. OutAfterSpaces OutZone}
    {q = λ time strict. last_zone_at strict >>= λ zone. pure (pos time -ℤ zone)} Lawful-time
    (λ time. Lawful-map (λ zone. pos time -ℤ zone) Lawful-last_zone)
    (λ strict a b front back rest s t may.
    subst (λ (l : List ℕ). EndsTime (l ++ rest)) (sym (t.text_is ∙ ap (λ (l : List ℕ). t.front ++ l) t.second.text_is
    ∙ append-nil t.front)) (last_zone_ends strict t.front rest t.a t.first may))
    (λ a front back offset s o. out_zone_ends offset back o))

clock_begins : (strict : Bool) (text : List ℕ) (seconds : ℤ) → SpellsClock strict text seconds → BeginsWithDigit text
clock_begins strict text seconds s =
    let time = s.time_is in
    digit_before text s.time_text s.zone_text s.text_is
    (digit_before s.time_text time.hour_text time.past_text time.text_is
    (number_begins strict 1 2 0 23 time.hour_text time.hour (omega arith) time.hour_is))

pub clock_starts : (strict : Bool) (text : List ℕ) (seconds : ℤ) → SpellsClock strict text seconds → StartsApart text
clock_starts strict text seconds s = digit_starts text (clock_begins strict text seconds s)

out_time_begins : (offset : ℕ) (text : List ℕ) → OutTime offset text → BeginsWithDigit text
out_time_begins offset text (inl hour) = out_number_begins 2 0 23 offset text hour
out_time_begins offset text (inr past) =
    digit_before text past.front past.back past.text_is
    (number_begins true 1 2 0 23 past.front past.value (omega arith) past.first)

pub out_clock_starts : (offset : ℕ) (text : List ℕ) → OutClock offset text → StartsApart text
out_clock_starts offset text (inl time) = digit_starts text (out_time_begins offset text time)
out_clock_starts offset text (inr zone) =
    let time = zone.first in
    digit_starts text (digit_before text zone.front zone.back zone.text_is
    (digit_before zone.front time.hour_text time.past_text time.text_is
    (number_begins true 1 2 0 23 time.hour_text time.hour (omega arith) time.hour_is)))
