-- The first fault of a header is settled by the bytes up to the end of its field, and a header goes on up to there.
use Rattle.std.proofs.Common.{◌≡◌, ◌⊎◌, inl, inr, ℕ, ◌+◌, ◌≤◌, Bool, true, false, cond, not, ◌||◌, ◌==◌, List, [], ◌∷◌, ◌++◌, length, take, drop, codes, Ok, Err, refl, sym, ap, ap₂, subst, ◌∙◌, length-append, take-append-drop, arith}
use Rattle.std.specs.Str.{bytes_eq}
use Rattle.std.specs.Cmp.Lexicographic.{same_text}
use Rattle.std.proofs.lemmas.Bool.{le-ltb, or_parts, eqb-false}
use Rattle.std.proofs.lemmas.List.{take_at, drop_at}
use Rattle.nc_model.specs.declared.fault.HeaderFault.{HeaderFault}
use Rattle.nc_model.specs.declared.fault.HeaderFault.TheVariants.{BadMagic, BadVersion, Truncated, BadTag, BadCount, BadName, BadType, BadDimId, TwoRecordDims, RecordNotFirst, RepeatedName, Streaming}
use Rattle.nc_model.specs.declared.header.Header.{Header}
use Rattle.nc_model.specs.FaultOffsets.{IsSettled, IsPastEnd, Begins, IsFaultAt, IsFaultOf}
use Rattle.nc_model.specs.Format.{IsBytes}
use Rattle.fm_base.specs.Input.{Input, whole}
use Rattle.fm_base.specs.Parser.{Outcome, value_of}
use Rattle.nc_model.specs.Reading.{HeaderParser, version_at, header_at, header_or_fault}
use Rattle.nc_model.specs.Spelling.{SpellsHeader}
use Rattle.fm_base.proofs.Exact.{input, Took, Exact, Anything}
use Rattle.fm_base.proofs.ListLemmas.{agree_less, Agree}
use Rattle.fm_base.proofs.Local.{after, Beyond, Taken, IsWhole, Failed, after_fails, failed, fault_is, stepped}
use Rattle.fm_base.proofs.Parts.{Begun, begun_as, begun_same, second_begun}
use Rattle.nc_model.proofs.HeaderBegun.{after_version, AfterVersion, header_text, part_after_version}
use Rattle.nc_model.proofs.HeaderFaults.{offsets, IsCutAt}
use Rattle.nc_model.proofs.HeaderLaws.{read-from_HeaderOf}
use Rattle.nc_model.proofs.HeaderParts.{SpellsVersion, Exact-version_at}
use Rattle.nc_model.proofs.Steps.{ExactBytes, IsOfParts-bytes}

-- what is read exactly, whatever follows it, depends on what was taken
Taken-exact : {A : Type 0} {S : List ℕ → A → Type 0} {p : HeaderParser A} → Exact S Anything p
    → (at : ℕ) (rest : List ℕ) (a : A) (j : Input)
    → Took S (input at rest) a j → Taken offsets p at rest a j
Taken-exact {A} {S} {p} ep at rest a j t =
    let n : ℕ = length t.text in
    let front : take n rest ≡ t.text = ap (take n) t.split ∙ take_at t.text j.rest n refl in
    let back : drop n rest ≡ j.rest = ap (drop n) t.split ∙ drop_at t.text j.rest n refl in
    record {
      count = n;
      input_is = ap₂ (λ (m : ℕ) (l : List ℕ). input m l) t.offset (sym back);
      within = omega (arith, ap length t.split, length-append t.text j.rest);
      again = λ other looked.
          let same : Agree n rest other = agree_less n (n + 0) rest other (omega arith) looked in
          let split : t.text ++ drop n other ≡ other = ap (λ (l : List ℕ). l ++ drop n other) (sym front ∙ same)
          ∙ take-append-drop n other in
          subst (λ (l : List ℕ). p (input at l) ≡ Ok (a, after n (input at other))) split
          (ep.again at t.text (drop n other) a t.spelled tt);
    }

-- how a header fails after its version: what settles the fault, and what stands before it
record FailsLater (bytes : List ℕ) (fault : HeaderFault) : Type 0 where
  settled : Failed offsets header_at 0 bytes fault
  begun : Begun offsets SpellsHeader 0 bytes fault

-- a header fails in its version, or after it
header_fails : (bytes : List ℕ) (fault : HeaderFault) → IsBytes bytes → header_at (whole bytes) ≡ Err fault
    → (version_at (whole bytes) ≡ Err fault) ⊎ FailsLater bytes fault
unfolding header_at
header_fails bytes fault fits e = elim (stepped (version_at (whole bytes)) after_version (Err fault) e) [
  | inl wrong ↦
      inl (wrong.1 ∙ ap (λ (x : HeaderFault). Err x) (sym (fault_is {A = Header} fault wrong.0 wrong.2)))
  | inr s ↦
      let exact : ExactBytes SpellsVersion version_at = Exact-version_at in
      let took = exact.takes (whole bytes) s.a s.j fits s.first in
      let left = IsOfParts-bytes.back took.text s.j.rest (subst IsBytes took.split fits) in
      let part = part_after_version s.a took.spelled.known in
      let t = Taken-exact Exact-version_at 0 bytes s.a s.j took in
      inr (record {
        settled = after_fails version_at after_version 0 bytes s.a s.j fault t
            (part.local.fails (0 + t.count) (drop t.count bytes) fault
            (subst (λ (i : Input). after_version s.a i ≡ Err fault) t.input_is s.second));
        begun = begun_as (λ header. header) header_text
            (second_begun SpellsVersion AfterVersion 0 bytes s.a s.j fault took
            (part.fails s.j.at s.j.rest fault left s.second));
      })
]

header_at-fault : (bytes : List ℕ) (fault : HeaderFault) → header_or_fault bytes ≡ Err fault
    → header_at (whole bytes) ≡ Err fault
unfolding header_or_fault
header_at-fault bytes fault e = by_outcome (header_at (whole bytes)) e
  where
    by_outcome : (r : Outcome Header HeaderFault) → value_of r ≡ Err fault → r ≡ Err fault
    by_outcome (Ok x) k = absurd cc
    by_outcome (Err first) k = cc

fault-header_at : (bytes : List ℕ) (fault : HeaderFault) → header_at (whole bytes) ≡ Err fault
    → header_or_fault bytes ≡ Err fault
unfolding header_or_fault
fault-header_at bytes fault e = ap value_of e

-- a fault of another field than one that is cut short
settled : (bytes : List ℕ) (fault : HeaderFault) → Failed offsets header_at 0 bytes fault
    → ((n : ℕ) → IsCutAt n fault → ⊥)
    → IsSettled bytes fault
settled bytes fault f uncut = elim f.why [
  | inl w ↦ record {
    offset = 0 + f.count;
    size = f.size;
    some = f.some;
    within = let within = w.within in omega arith;
    stands = w.stands;
    same = λ other agree. again w other agree;
    none = λ other agree header spelled. let no = sym (again w other agree) ∙ read-from_HeaderOf other header spelled in
        absurd cc;
  }
  | inr c ↦ absurd (uncut (0 + f.count) c.fault_is)
]
  where
    again : IsWhole offsets header_at 0 bytes fault f.count f.size → (other : List ℕ)
        → take (0 + f.count + f.size) other ≡ take (0 + f.count + f.size) bytes → header_or_fault other ≡ Err fault
    again w other agree =
        let sum : 0 + f.count + f.size ≡ f.count + f.size = omega arith in
        fault-header_at other fault (w.again other (sym (subst (λ (n : ℕ). take n other ≡ take n bytes) sum agree)))

-- a field that is cut short
past_end : (bytes : List ℕ) (offset : ℕ) → Failed offsets header_at 0 bytes (Truncated offset) → IsPastEnd bytes offset
past_end bytes offset f = elim f.why [
  | inl w ↦ let no = w.uncut (offset + 1) in absurd (omega arith)
  | inr c ↦
      let here : offset ≡ f.count = let is = c.fault_is in omega arith in
      let some = f.some in
      record {
        size = f.size;
        within = let within = c.within in omega arith;
        short = let short = c.short in omega arith;
        same = λ other agree ends. fault-header_at other (Truncated offset)
            (c.again other (sym (subst (λ (n : ℕ). take n other ≡ take n bytes) here agree)) (omega arith));
        long = λ other agree goes_on e.
            let beyond = c.long other (sym (subst (λ (n : ℕ). take n other ≡ take n bytes) here agree)) (omega arith) in
            let later : 0 + (f.count + f.size) ≤ offset =
            subst (λ (r : Outcome Header HeaderFault). Beyond offsets (0 + (f.count + f.size)) r)
            (header_at-fault other (Truncated offset) e) beyond in
            absurd (omega arith);
      }
]

-- what stands before the field at fault begins a header
begins_at : (bytes : List ℕ) (fault : HeaderFault) (offset : ℕ) (b : Begun offsets SpellsHeader 0 bytes fault)
    → offset ≡ 0 + b.count → Begins bytes offset
begins_at bytes fault offset b here =
    let same : offset ≡ b.count = omega arith in
    record {
      text = b.some.text;
      header = b.some.a;
      spelled = b.some.spelled;
      within = let within = b.within in omega arith;
      same = subst (λ (n : ℕ). take n bytes ≡ take n b.some.text) (sym same) (begun_same b);
    }

-- a field after the version that is at fault, at this offset
field_fault : (bytes : List ℕ) (fault : HeaderFault) (offset : ℕ) (b : Begun offsets SpellsHeader 0 bytes fault)
    → offset ≡ 0 + b.count
    → Failed offsets header_at 0 bytes fault → ((n : ℕ) → IsCutAt n fault → ⊥) → IsFaultAt bytes fault offset
field_fault bytes fault offset b here f uncut = (begins_at bytes fault offset b here, settled bytes fault f uncut)

after_version_fault : (bytes : List ℕ) (fault : HeaderFault) → Begun offsets SpellsHeader 0 bytes fault
    → Failed offsets header_at 0 bytes fault → IsFaultOf bytes fault
after_version_fault bytes BadMagic b f = absurd b.stands
after_version_fault bytes (BadVersion version) b f = absurd b.stands
after_version_fault bytes (Truncated at) b f = (begins_at bytes (Truncated at) at b b.stands, past_end bytes at f)
after_version_fault bytes (BadTag at) b f = field_fault bytes (BadTag at) at b b.stands f (λ n cut. cut)
after_version_fault bytes (BadCount at) b f = field_fault bytes (BadCount at) at b b.stands f (λ n cut. cut)
after_version_fault bytes (BadName at) b f = field_fault bytes (BadName at) at b b.stands f (λ n cut. cut)
after_version_fault bytes (BadType at) b f = field_fault bytes (BadType at) at b b.stands f (λ n cut. cut)
after_version_fault bytes (BadDimId at) b f = field_fault bytes (BadDimId at) at b b.stands f (λ n cut. cut)
after_version_fault bytes (TwoRecordDims at) b f = field_fault bytes (TwoRecordDims at) at b b.stands f (λ n cut. cut)
after_version_fault bytes (RecordNotFirst at) b f = field_fault bytes (RecordNotFirst at) at b b.stands f (λ n cut. cut)
after_version_fault bytes (RepeatedName at) b f = field_fault bytes (RepeatedName at) at b b.stands f (λ n cut. cut)
after_version_fault bytes Streaming b f = settled bytes Streaming f (λ n cut. cut)

-- a version that is none, or no magic
magic_fault : (bytes : List ℕ) (fault : HeaderFault) → IsFaultOf bytes BadMagic → failed {A = ℕ} BadMagic ≡ Err fault
    → IsFaultOf bytes fault
magic_fault bytes fault bad e = subst (IsFaultOf bytes) (fault_is {A = ℕ} BadMagic fault e) bad

version_fault : (bytes : List ℕ) (fault : HeaderFault) → version_at (whole bytes) ≡ Err fault → IsFaultOf bytes fault
unfolding version_at
version_fault [] fault e = magic_fault [] fault (inl (omega arith)) e
version_fault (a ∷ []) fault e = magic_fault (a ∷ []) fault (inl (omega arith)) e
version_fault (a ∷ b ∷ []) fault e = magic_fault (a ∷ b ∷ []) fault (inl (omega arith)) e
version_fault (a ∷ b ∷ c ∷ []) fault e = magic_fault (a ∷ b ∷ c ∷ []) fault (inl (omega arith)) e
version_fault (a ∷ b ∷ c ∷ d ∷ rest) fault e =
    by_magic (bytes_eq (a ∷ b ∷ c ∷ []) (codes "CDF")) refl
    (rw (le-ltb (length (a ∷ b ∷ c ∷ d ∷ rest)) 4 (omega arith)) at e)
  where
    bytes : List ℕ
    bytes = a ∷ b ∷ c ∷ d ∷ rest

    read : Outcome ℕ HeaderFault
    read = Ok (d, input (0 + 4) rest)

    by_version : a ∷ b ∷ c ∷ [] ≡ codes "CDF" → (known : Bool) → (d == 1 || d == 2) ≡ known
        → cond known read (Err (BadVersion d)) ≡ Err fault → IsFaultOf bytes fault
    by_version magic true is f = absurd cc
    by_version magic false is f =
        let others = or_parts (d == 1) (d == 2) is in
        subst (IsFaultOf bytes) (fault_is {A = ℕ} (BadVersion d) fault f) (record {
          begins = ap (λ (l : List ℕ). l ++ d ∷ []) magic;
          not_1 = eqb-false d 1 others.0;
          not_2 = eqb-false d 2 others.1;
        })

    by_magic : (same : Bool) → bytes_eq (a ∷ b ∷ c ∷ []) (codes "CDF") ≡ same
        → cond (not same) (Err BadMagic) (cond (d == 1 || d == 2) read (Err (BadVersion d))) ≡ Err fault
        → IsFaultOf bytes fault
    by_magic false is f = magic_fault bytes fault
        (inr (λ magic. let no = sym is ∙ ap (λ (l : List ℕ). bytes_eq l (codes "CDF")) magic in absurd cc)) f
    by_magic true is f = by_version (same_text (a ∷ b ∷ c ∷ []) (codes "CDF") (sym is)) (d == 1 || d == 2) refl f

-- what settles the first fault of a header
pub fault_is_settled : (bytes : List ℕ) (fault : HeaderFault) → IsBytes bytes → header_or_fault bytes ≡ Err fault
    → IsFaultOf bytes fault
fault_is_settled bytes fault fits e = elim (header_fails bytes fault fits (header_at-fault bytes fault e)) [
  | inl version ↦ version_fault bytes fault version
  | inr later ↦ after_version_fault bytes fault later.begun later.settled
]

pub ruleset fault_laws = (fault_is_settled)
