-- What holds of zones, which differ in their first byte.
use Rattle.std.proofs.Common.{◌≡◌, ◌⊎◌, inl, inr, ℕ, ◌<◌, Bool, true, false, ◌==◌, List, [], ◌∷◌, ◌++◌, codes, refl, sym, ap, subst, ◌∙◌, IsTrue, ℤ, pos, neg_ℤ, arith}
use Rattle.std.proofs.lemmas.Bool.{ne_eqb}
use Rattle.std.proofs.lemmas.List.{append-nil}
use Rattle.nc_model.specs.UnitsRanges.{Out, EitherOut, OutAfterByte, OutDistance}
use Rattle.nc_model.specs.UnitsReading.{next_passes, byte_at, distance_at, zone_at, is_same_word}
use Rattle.nc_model.specs.UnitsSpelling.{SpellsDistance, SpellsSigned, SpellsZone}
use Rattle.fm_base.specs.Parser.{◌>>=◌, pure}
use Rattle.fm_base.proofs.Exact.{input, Is}
use Rattle.tm_units.proofs.Lawful.{Lawful, Seq, Lawful-as, Lawful-before, Lawful-map, Lawful-outs}
use Rattle.tm_units.proofs.LawfulChoices.{Lawful-either}
use Rattle.tm_units.proofs.UnitsBegins.{Begins, begins_test, whole_test, After, after_begins, out_after_begins, Lawful-after_byte}
use Rattle.tm_units.proofs.UnitsDistances.{Lawful-distance}
use Rattle.tm_units.proofs.UnitsTimes.{EndsTime}
use Rattle.tm_units.proofs.UnitsZoneWords.{IsPlain, Word, Named, named_starts, Lawful-named}

-- a sign and a distance
abbrev Signed : ℕ → (ℕ → ℤ) → Bool → List ℕ → ℤ → Type 0
Signed sign value = After sign (Seq SpellsDistance (λ distance strict. Is (value distance)))

Lawful-signed : (sign : ℕ) (value : ℕ → ℤ)
    → Lawful (Signed sign value) (λ zone. EndsTime) (OutAfterByte sign OutDistance)
    (λ strict. byte_at sign >>= λ u. distance_at strict >>= λ distance. pure (value distance))
Lawful-signed sign value =
    Lawful-after_byte {S = Seq SpellsDistance (λ distance strict. Is (value distance))} sign
    (Lawful-map value Lawful-distance)

abbrev Ahead : Bool → List ℕ → ℤ → Type 0
Ahead = Signed 43 (λ distance. pos distance)

abbrev Behind : Bool → List ℕ → ℤ → Type 0
Behind = Signed 45 (λ distance. neg_ℤ (pos distance))

abbrev Western : Bool → List ℕ → ℤ → Type 0
Western strict text zone = Behind strict text zone ⊎ Named strict text zone

named_not : (sign : ℕ) (strict : Bool) (text rest : List ℕ) (zone : ℤ) → sign < 65 → Named strict text zone
    → next_passes (λ other. other == sign) (input 0 (text ++ rest)) ≡ false
named_not sign strict text rest zone low s =
    let first = named_starts strict text zone s in
    begins_test (λ other. other == sign) first.byte false text rest first.begins
    (ne_eqb first.byte sign (λ e. let above = first.above in omega arith))

-- a zone, by its first byte
abbrev TheZone : Bool → List ℕ → ℤ → Type 0
TheZone strict text zone = Ahead strict text zone ⊎ Western strict text zone

-- a distance out of its range, after a sign
abbrev pub OutSigned : Out
OutSigned = EitherOut (OutAfterByte 43 OutDistance) (OutAfterByte 45 OutDistance)

Lawful-the_zone : Lawful TheZone (λ zone. EndsTime) OutSigned zone_at
unfolding zone_at
Lawful-the_zone =
    Lawful-either {S = Ahead} {T = Western} (λ other. other == 43) (Lawful-signed 43 (λ distance. pos distance))
    (Lawful-outs (λ offset text o. elim o [ inl out ↦ out | inr none ↦ absurd none ]) (λ offset text o. inl o)
    (Lawful-either {S = Behind} {T = Named} (λ other. other == 45)
    (Lawful-signed 45 (λ distance. neg_ℤ (pos distance))) (Lawful-before (λ zone rest may. tt) Lawful-named)
    (λ strict text rest zone s.
    begins_test (λ other. other == 45) 45 true text rest (after_begins 45 text zone s) refl)
    (λ strict text rest zone s may. named_not 45 strict text rest zone (omega arith) s)
    (λ offset rest o. whole_test (λ other. other == 45) 45 true rest (out_after_begins 45 offset rest o) refl)
    (λ offset rest none. absurd none)))
    (λ strict text rest zone s.
    begins_test (λ other. other == 43) 43 true text rest (after_begins 43 text zone s) refl)
    (λ strict text rest zone s may. elim s [
      | inl west ↦ begins_test (λ other. other == 43) 45 false text rest (after_begins 45 text zone west) refl
      | inr named ↦ named_not 43 strict text rest zone (omega arith) named
    ])
    (λ offset rest o. whole_test (λ other. other == 43) 43 true rest (out_after_begins 43 offset rest o) refl)
    (λ offset rest o. whole_test (λ other. other == 43) 45 false rest (out_after_begins 45 offset rest o) refl)

to_signed : (sign : ℕ) (value : ℕ → ℤ) (strict : Bool) (text : List ℕ) (zone : ℤ)
    (s : Signed sign value strict text zone) → SpellsSigned strict sign text s.second.a
to_signed sign value strict text zone s = record {
  distance_text = s.second.front;
  distance_is = s.second.first;
  text_is =
      s.text_is ∙ ap (λ (l : List ℕ). l ++ s.back) s.first
      ∙ ap (λ (l : List ℕ). sign ∷ l) (s.second.text_is
      ∙ ap (λ (l : List ℕ). s.second.front ++ l) s.second.second.text_is ∙ append-nil s.second.front);
}

to_word : (word : List ℕ) (strict : Bool) (text : List ℕ) (zone : ℤ) → Word word strict text zone
    → IsTrue (is_same_word text word)
to_word word strict text zone s =
    subst (λ (l : List ℕ). IsTrue (is_same_word l word))
    (sym (s.text_is ∙ ap (λ (l : List ℕ). s.front ++ l) s.second.text_is ∙ append-nil s.front)) s.first

from_word : (word : List ℕ) (strict : Bool) (text : List ℕ) (zone : ℤ) → IsTrue (is_same_word text word)
    → zone ≡ pos 0 → Word word strict text zone
from_word word strict text zone s is = record {
  a = tt;
  front = text;
  back = [];
  first = s;
  second = record { value = sym is; text_is = refl };
  text_is = sym (append-nil text);
}

to_zone : (strict : Bool) (text : List ℕ) (zone : ℤ) → TheZone strict text zone → SpellsZone strict text zone
to_zone strict text zone (inl s) =
    inl (record {
      distance = s.second.a;
      signed = to_signed 43 (λ distance. pos distance) strict text zone s;
      zone_is = sym s.second.second.value;
    })
to_zone strict text zone (inr (inl s)) =
    inr (inl (record {
      distance = s.second.a;
      signed = to_signed 45 (λ distance. neg_ℤ (pos distance)) strict text zone s;
      zone_is = sym s.second.second.value;
    }))
to_zone strict text zone (inr (inr (inl s))) =
    inr (inr (record { word = inl (to_word (codes "z") strict text zone s); zone_is = sym s.second.value }))
to_zone strict text zone (inr (inr (inr (inl s)))) =
    inr (inr (record { word = inr (inl (to_word (codes "gmt") strict text zone s)); zone_is = sym s.second.value }))
to_zone strict text zone (inr (inr (inr (inr s)))) =
    inr (inr (record { word = inr (inr (to_word (codes "utc") strict text zone s)); zone_is = sym s.second.value }))

from_signed : (sign : ℕ) (value : ℕ → ℤ) (strict : Bool) (text : List ℕ) (distance : ℕ) (zone : ℤ)
    → SpellsSigned strict sign text distance → zone ≡ value distance → Signed sign value strict text zone
from_signed sign value strict text distance zone s is = record {
  a = tt;
  front = sign ∷ [];
  back = s.distance_text;
  first = refl;
  second = record {
    a = distance;
    front = s.distance_text;
    back = [];
    first = s.distance_is;
    second =
        record { value = sym is; text_is = refl };
    text_is = sym (append-nil s.distance_text);
  };
  text_is = s.text_is;
}

from_zone : (strict : Bool) (text : List ℕ) (zone : ℤ) → SpellsZone strict text zone → TheZone strict text zone
from_zone strict text zone (inl s) =
    inl (from_signed 43 (λ distance. pos distance) strict text s.distance zone s.signed s.zone_is)
from_zone strict text zone (inr (inl s)) =
    inr (inl (from_signed 45 (λ distance. neg_ℤ (pos distance)) strict text s.distance zone s.signed s.zone_is))
from_zone strict text zone (inr (inr s)) = inr (inr (elim s.word [
  | inl z ↦ inl (from_word (codes "z") strict text zone z s.zone_is)
  | inr word ↦ inr (elim word [
    | inl gmt ↦ inl (from_word (codes "gmt") strict text zone gmt s.zone_is)
    | inr utc ↦ inr (from_word (codes "utc") strict text zone utc s.zone_is)
  ])
]))

pub Lawful-zone : Lawful SpellsZone (λ zone. EndsTime) OutSigned zone_at
Lawful-zone = Lawful-as to_zone from_zone Lawful-the_zone

-- the first byte of a zone
pub record Starts (text : List ℕ) : Type 0 where
  pub byte : ℕ
  pub begins : Begins text byte
  pub plain : IsPlain byte
  pub no_space : (byte == 32) ≡ false

pub zone_starts : (strict : Bool) (text : List ℕ) (zone : ℤ) → SpellsZone strict text zone → Starts text
zone_starts strict text zone s = by_zone (from_zone strict text zone s)
  where
    sign_starts : (sign : ℕ) → Begins text sign → IsPlain sign → (sign == 32) ≡ false → Starts text
    sign_starts sign begins plain apart =
        record { byte = sign; begins = begins; plain = plain; no_space = apart }

    by_zone : TheZone strict text zone → Starts text
    by_zone (inl s) = sign_starts 43 (after_begins 43 text zone s)
        (record { digit = refl; zero_byte = refl; colon = refl; point = refl }) refl
    by_zone (inr (inl s)) = sign_starts 45 (after_begins 45 text zone s)
        (record { digit = refl; zero_byte = refl; colon = refl; point = refl }) refl
    by_zone (inr (inr s)) =
        let first = named_starts strict text zone s in
        record {
          byte = first.byte;
          begins = first.begins;
          plain = first.plain;
          no_space = ne_eqb first.byte 32 (λ e. let above = first.above in omega arith);
        }
