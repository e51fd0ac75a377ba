-- The parts of a printed head are cut out of it again, so `is_head` decides whether bytes are one whole head.
use Rattle.std.proofs.Common.{◌≡◌, ℕ, ◌+◌, ◌-◌, ◌<◌, ◌≤◌, Bool, true, false, ◌&&◌, if◌then◌else◌, eqb, leb, ltb, List, [], ◌∷◌, ◌++◌, length, map, codes, refl, sym, ap, subst, ◌∙◌, append_assoc, append-nil, arith, inl, inr}
use Rattle.std.specs.List.{All, AllPass, flat_map, list_all, before_first, after_first}
use Rattle.std.specs.Str.{bytes_eq, is_utf8}
use Rattle.std.specs.Prelude.{IsUtf8}
use Rattle.std.specs.Prelude.{slice_index}
use Rattle.std.proofs.lemmas.List.{length-append}
use Rattle.std.proofs.lemmas.List.Sums.{AllPass-from_list_all, list_all-from_AllPass}
use Rattle.std.specs.Bool.{Decides}
use Rattle.std.proofs.lemmas.Bool.{ne_eqb, cases_Bool, leb-true, le-leb}
use Rattle.std.proofs.lemmas.Bool.Decides.{Decides-and, Decides-ltb, Decides-like}
use Rattle.std.proofs.lemmas.Slice.Eq.{bytes_eq-Decides}
use Rattle.std.proofs.lemmas.Str.{IsUtf8-from_is_utf8, is_utf8-from_IsUtf8}
use Rattle.std.proofs.lemmas.List.Elements.{All-head, All-tail, All-append, All-cons, All-nil}
use Rattle.httparse.specs.Grammar.{LineEnd, crlf, lf, print_end, print_blank, print_version, Field, print_field, IsField, print_section, is_token_byte, is_uri_byte, is_value_byte, IsToken, is_token, RequestHead, IsRequestHead, ReadsRequest, print_request}
use Rattle.httparse.proofs.GrammarLemmas.{print_request-append, cons-append}
use Rattle.web_frame.specs.Head.{Line, lines_of, is_empty, field_in, fields_in, last_in, head_from, with_blank, head_in, head_of, is_field, is_valid, is_head}
use Rattle.web_frame.specs.Items.{item_of, bad_head}
use Rattle.web_frame.proofs.LineLemmas.{Lacks, Lacks-from_AllPass, before_first_at, after_first_at, lines_of_line}

pub item_of_nothing : item_of [] ≡ bad_head
unfolding item_of is_head head_of lines_of is_valid
item_of_nothing = refl

-- a text that has a byte isn't empty
some_text : (front : List ℕ) (b : ℕ) (back : List ℕ) (end : LineEnd)
    → is_empty (record { text = front ++ b ∷ back; end = end }) ≡ false
some_text front b back end =
    ne_eqb (length (front ++ b ∷ back)) 0 (λ none. absurd (omega (arith, length-append front (b ∷ back))))

-- the lines of what empty lines and more print
head_with_blank : (ends : List LineEnd) (more : List ℕ)
    → head_in (lines_of (print_blank ends ++ more)) ≡ record
    (head_in (lines_of more)) { blank = ends ++ (head_in (lines_of more)).blank }
head_with_blank [] more = refl
head_with_blank (end ∷ ends) more =
    let split : print_blank (end ∷ ends) ++ more ≡ [] ++ (print_end end ++ (print_blank ends ++ more)) =
    append_assoc (print_end end) (print_blank ends) more in
    let line : lines_of ([] ++ (print_end end ++ (print_blank ends ++ more)))
    ≡ record { text = []; end = end } ∷ lines_of (print_blank ends ++ more) =
    lines_of_line [] end (print_blank ends ++ more) (All-nil (λ (z : ℕ). eqb z 13 ≡ false))
    (All-nil (λ (z : ℕ). eqb z 10 ≡ false)) in
    ap (λ (l : List ℕ). head_in (lines_of l)) split ∙ ap head_in line ∙ ap (with_blank end) (head_with_blank ends more)

-- no byte of a token is one of these
token_lacks : (c : ℕ) (name : List ℕ) → is_token_byte c ≡ false → IsToken name → Lacks c name
token_lacks c name fails token = Lacks-from_AllPass is_token_byte c name fails token.1

not_token : (is_token_byte 13 ≡ false) × (is_token_byte 10 ≡ false) × (is_token_byte 58 ≡ false)
    × (is_token_byte 32 ≡ false)
unfolding is_token_byte
not_token = (refl, refl, refl, refl)

one_lacks : (c b : ℕ) (bytes : List ℕ) → eqb b c ≡ false → Lacks c bytes → Lacks c (b ∷ bytes)
one_lacks c b bytes other none = All-cons (λ (z : ℕ). eqb z c ≡ false) b bytes other none

both_lack : (c : ℕ) (front back : List ℕ) → Lacks c front → Lacks c back → Lacks c (front ++ back)
both_lack c front back none other = All-append (λ (z : ℕ). eqb z c ≡ false) front back none other

-- the first of the lines that a field and more print is that field
field_line : (f : Field) (more : List ℕ) → IsField f
    → lines_of (print_field f ++ more) ≡ record { text = f.name ++ 58 ∷ f.raw; end = f.end } ∷ lines_of more
field_line f more valid =
    let no_cr : Lacks 13 (f.name ++ 58 ∷ f.raw) = both_lack 13 f.name (58 ∷ f.raw)
    (token_lacks 13 f.name not_token.0 valid.name)
    (one_lacks 13 58 f.raw refl (Lacks-from_AllPass is_value_byte 13 f.raw refl valid.raw)) in
    let no_lf : Lacks 10 (f.name ++ 58 ∷ f.raw) = both_lack 10 f.name (58 ∷ f.raw)
    (token_lacks 10 f.name not_token.1 valid.name)
    (one_lacks 10 58 f.raw refl (Lacks-from_AllPass is_value_byte 10 f.raw refl valid.raw)) in
    ap lines_of (append_assoc (f.name ++ 58 ∷ f.raw) (print_end f.end) more)
    ∙ lines_of_line (f.name ++ 58 ∷ f.raw) f.end more no_cr no_lf

abbrev as_field : List ℕ → List ℕ → LineEnd → Field
as_field name raw end = record { name = name; raw = raw; end = end }

-- and it is read as that field
field_in_text : (f : Field) → IsField f → field_in (record { text = f.name ++ 58 ∷ f.raw; end = f.end }) ≡ f
field_in_text f valid =
    let no_colon : Lacks 58 f.name = token_lacks 58 f.name not_token.2 valid.name in
    let text : List ℕ = f.name ++ 58 ∷ f.raw in
    ap (λ (n : List ℕ). as_field n (after_first (λ b. eqb b 58) text) f.end)
    (before_first_at (λ b. eqb b 58) f.name 58 f.raw no_colon refl)
    ∙ ap (λ (r : List ℕ). as_field f.name r f.end) (after_first_at (λ b. eqb b 58) f.name 58 f.raw no_colon refl)

-- the fields before the empty line, and its end
section_read : (fields : List Field) (last : LineEnd) (more : List ℕ) → All IsField fields
    → (fields_in (lines_of (flat_map print_field fields ++ (print_end last ++ more))) ≡ fields)
    × (last_in (lines_of (flat_map print_field fields ++ (print_end last ++ more))) ≡ last)
section_read [] last more valid =
    let line : lines_of ([] ++ (print_end last ++ more)) ≡ record { text = []; end = last } ∷ lines_of more =
    lines_of_line [] last more (All-nil (λ (z : ℕ). eqb z 13 ≡ false)) (All-nil (λ (z : ℕ). eqb z 10 ≡ false)) in
    (ap fields_in line, ap last_in line)
section_read (f ∷ fields) last more valid =
    let first : IsField f = All-head IsField f fields valid in
    let others = section_read fields last more (All-tail IsField f fields valid) in
    let rest : List ℕ = flat_map print_field fields ++ (print_end last ++ more) in
    let line : lines_of (flat_map print_field (f ∷ fields) ++ (print_end last ++ more))
    ≡ record { text = f.name ++ 58 ∷ f.raw; end = f.end } ∷ lines_of rest =
    ap lines_of (append_assoc (print_field f) (flat_map print_field fields) (print_end last ++ more))
    ∙ field_line f rest first in
    let some : is_empty (record { text = f.name ++ 58 ∷ f.raw; end = f.end }) ≡ false =
    some_text f.name 58 f.raw f.end in
    let read : field_in (record { text = f.name ++ 58 ∷ f.raw; end = f.end }) ≡ f = field_in_text f first in
    let after : List Field = fields_in (lines_of rest) in (
      ap fields_in line
          ∙ ap (λ b. if b then [] else field_in (record { text = f.name ++ 58 ∷ f.raw; end = f.end }) ∷ after) some
          ∙ ap (λ (g : Field). g ∷ after) read
          ∙ ap (λ (l : List Field). f ∷ l) others.0,
      ap last_in line ∙ ap (λ b. if b then f.end else last_in (lines_of rest)) some ∙ others.1,
    )

-- a version has neither CR nor LF
version_lacks : (minor : ℕ) → minor ≤ 1 → Lacks 13 (print_version minor) × Lacks 10 (print_version minor)
version_lacks minor few = (
  both_lack 13 (codes "HTTP/1.") ((48 + minor) ∷ [])
      (Lacks-from_AllPass is_uri_byte 13 (codes "HTTP/1.") refl
      (AllPass-from_list_all is_uri_byte (codes "HTTP/1.") refl))
      (one_lacks 13 (48 + minor) [] (ne_eqb _ 13 (λ e. absurd (omega arith))) (All-nil (λ (z : ℕ). eqb z 13 ≡ false))),
  both_lack 10 (codes "HTTP/1.") ((48 + minor) ∷ [])
      (Lacks-from_AllPass is_uri_byte 10 (codes "HTTP/1.") refl
      (AllPass-from_list_all is_uri_byte (codes "HTTP/1.") refl))
      (one_lacks 10 (48 + minor) [] (ne_eqb _ 10 (λ e. absurd (omega arith))) (All-nil (λ (z : ℕ). eqb z 10 ≡ false))),
)

-- the text of a request line
abbrev start_text : RequestHead → List ℕ
start_text h = h.method ++ 32 ∷ (h.target ++ 32 ∷ print_version h.minor)

-- the request line is the first of the lines that it and more print
start_line : (h : RequestHead) (more : List ℕ) → IsRequestHead h
    → lines_of (start_text h ++ (print_end h.line_end ++ more))
    ≡ record { text = start_text h; end = h.line_end } ∷ lines_of more
start_line h more valid =
    let version = version_lacks h.minor valid.minor in
    let after : List ℕ = h.target ++ 32 ∷ print_version h.minor in
    let uri_lacks : (c : ℕ) → is_uri_byte c ≡ false → Lacks c h.target =
    λ c fails. Lacks-from_AllPass is_uri_byte c h.target fails valid.target.1 in
    let no_cr : Lacks 13 (start_text h) = both_lack 13 h.method (32 ∷ after)
    (token_lacks 13 h.method not_token.0 valid.method)
    (one_lacks 13 32 after refl (both_lack 13 h.target (32 ∷ print_version h.minor) (uri_lacks 13 refl)
    (one_lacks 13 32 (print_version h.minor) refl version.0))) in
    let no_lf : Lacks 10 (start_text h) = both_lack 10 h.method (32 ∷ after)
    (token_lacks 10 h.method not_token.1 valid.method)
    (one_lacks 10 32 after refl (both_lack 10 h.target (32 ∷ print_version h.minor) (uri_lacks 10 refl)
    (one_lacks 10 32 (print_version h.minor) refl version.1))) in
    lines_of_line (start_text h) h.line_end more no_cr no_lf

-- a head from its parts
abbrev head_of_parts : List ℕ → List ℕ → ℕ → LineEnd → List Field → LineEnd → RequestHead
head_of_parts method target minor end list last =
    record { blank = []; method = method; target = target; minor = minor; line_end = end; fields = list; last = last }

-- the parts of a request line are read from its text
start_read : (h : RequestHead) (lines : List Line) → IsRequestHead h → fields_in lines ≡ h.fields
    → last_in lines ≡ h.last
    → head_from (record { text = start_text h; end = h.line_end }) lines
    ≡ head_of_parts h.method h.target h.minor h.line_end h.fields h.last
start_read h lines valid fields last =
    let is_space : ℕ → Bool = λ b. eqb b 32 in
    let text : List ℕ = start_text h in
    let after : List ℕ = h.target ++ 32 ∷ print_version h.minor in
    let no_space : Lacks 32 h.method = token_lacks 32 h.method not_token.3 valid.method in
    let none : Lacks 32 h.target = Lacks-from_AllPass is_uri_byte 32 h.target refl valid.target.1 in
    let method : before_first is_space text ≡ h.method = before_first_at is_space h.method 32 after no_space refl in
    let more : after_first is_space text ≡ after = after_first_at is_space h.method 32 after no_space refl in
    let target : before_first is_space (after_first is_space text) ≡ h.target =
    ap (before_first is_space) more ∙ before_first_at is_space h.target 32 (print_version h.minor) none refl in
    let version : after_first is_space (after_first is_space text) ≡ print_version h.minor =
    ap (after_first is_space) more ∙ after_first_at is_space h.target 32 (print_version h.minor) none refl in
    let minor : slice_index (after_first is_space (after_first is_space text)) 7 - 48 ≡ h.minor =
    ap (λ (v : List ℕ). slice_index v 7 - 48) version ∙ omega arith in
    ap (λ (m : List ℕ). head_of_parts m (before_first is_space (after_first is_space text))
    (slice_index (after_first is_space (after_first is_space text)) 7 - 48) h.line_end (fields_in lines)
    (last_in lines)) method
    ∙ ap (λ (t : List ℕ). head_of_parts h.method t
    (slice_index (after_first is_space (after_first is_space text)) 7 - 48) h.line_end (fields_in lines)
    (last_in lines)) target
    ∙ ap (λ (n : ℕ). head_of_parts h.method h.target n h.line_end (fields_in lines) (last_in lines)) minor
    ∙ ap (λ (fs : List Field). head_of_parts h.method h.target h.minor h.line_end fs (last_in lines)) fields
    ∙ ap (λ (e : LineEnd). head_of_parts h.method h.target h.minor h.line_end h.fields e) last

-- the bytes of a head, line by line
print_request-lines : (h : RequestHead) → print_request h ≡ print_blank h.blank
    ++ (start_text h ++ (print_end h.line_end ++ (flat_map print_field h.fields ++ (print_end h.last ++ []))))
print_request-lines h = sym (append-nil (print_request h)) ∙ print_request-append h []
    ∙ regroup (print_blank h.blank) h.method h.target (print_version h.minor) (print_end h.line_end)
    (flat_map print_field h.fields) (print_end h.last)
  where
    regroup : (a b c d e f g : List ℕ) → a ++ (b ++ 32 ∷ (c ++ 32 ∷ (d ++ (e ++ ((f ++ g) ++ []))))) ≡ a
        ++ ((b ++ 32 ∷ (c ++ 32 ∷ d)) ++ (e ++ (f ++ (g ++ []))))
    regroup a b c d e f g = simp (append_assoc, cons-append)

-- the head that a printed head would be is that head
pub head_of-print : (h : RequestHead) → IsRequestHead h → head_of (print_request h) ≡ h
unfolding head_of
head_of-print h valid =
    let section : List ℕ = flat_map print_field h.fields ++ (print_end h.last ++ []) in
    let text : List ℕ = start_text h ++ (print_end h.line_end ++ section) in
    let line : lines_of text ≡ record { text = start_text h; end = h.line_end } ∷ lines_of section =
    start_line h section valid in
    let read = section_read h.fields h.last [] valid.fields in
    let start : head_in (lines_of text) ≡ head_of_parts h.method h.target h.minor h.line_end h.fields h.last =
    ap head_in line
    ∙ ap (λ b. if b then with_blank h.line_end (head_in (lines_of section))
    else head_from (record { text = start_text h; end = h.line_end }) (lines_of section))
    (some_text h.method 32 (h.target ++ 32 ∷ print_version h.minor) h.line_end)
    ∙ start_read h (lines_of section) valid read.0 read.1 in
    ap (λ (b : List ℕ). head_in (lines_of b)) (print_request-lines h) ∙ head_with_blank h.blank text
    ∙ ap (λ (g : RequestHead). record g { blank = h.blank ++ g.blank }) start
    ∙ ap (λ (b : List LineEnd). record h { blank = b }) (append-nil h.blank)

Decides-leb : (a b : ℕ) → Decides (leb a b) (a ≤ b)
Decides-leb a b = (leb-true a b, le-leb a b)

-- a test of each element decides whether all pass
Decides-list_all : (test : ℕ → Bool) (bytes : List ℕ) → Decides (list_all test bytes) (AllPass test bytes)
Decides-list_all test bytes = (AllPass-from_list_all test bytes, list_all-from_AllPass test bytes)

Decides-is_token : (bytes : List ℕ) → Decides (is_token bytes) (IsToken bytes)
Decides-is_token bytes = Decides-and _ _ (Decides-ltb 0 (length bytes)) (Decides-list_all is_token_byte bytes)

Decides-is_field : (f : Field) → Decides (is_field f) (IsField f)
Decides-is_field f = Decides-like (is_field f) (λ (x : IsToken f.name × AllPass is_value_byte f.raw). as_valid f x)
    (λ (x : IsField f). (x.name, x.raw))
    (Decides-and _ _ (Decides-is_token f.name) (Decides-list_all is_value_byte f.raw))
  where
    as_valid : (f : Field) → IsToken f.name × AllPass is_value_byte f.raw → IsField f
    as_valid f x = record { name = x.0; raw = x.1 }

Decides-fields : (fields : List Field) → Decides (list_all is_field fields) (All IsField fields)
Decides-fields fields = (
  λ passed k d below. (Decides-is_field _).0 (AllPass-from_list_all is_field fields passed k d below),
  λ valid. list_all-from_AllPass is_field fields (λ k d below. (Decides-is_field _).1 (valid k d below)),
)

abbrev ValidParts : RequestHead → Type 0
ValidParts h = IsToken h.method
    × ((0 < length h.target) × (AllPass is_uri_byte h.target
    × (IsUtf8 h.target × ((h.minor ≤ 1) × All IsField h.fields))))

-- whether each part of a head is valid
Decides-is_valid : (h : RequestHead) → Decides (is_valid h) (IsRequestHead h)
unfolding is_valid
Decides-is_valid h =
    Decides-like (is_valid h) (λ (x : ValidParts h). to_head h x) (λ (x : IsRequestHead h). from_head h x)
    (Decides-and _ _ (Decides-is_token h.method)
    (Decides-and _ _ (Decides-ltb 0 (length h.target)) (Decides-and _ _ (Decides-list_all is_uri_byte h.target)
    (Decides-and _ _ (IsUtf8-from_is_utf8 h.target, is_utf8-from_IsUtf8 h.target)
    (Decides-and _ _ (Decides-leb h.minor 1) (Decides-fields h.fields))))))
  where
    to_head : (h : RequestHead) → ValidParts h → IsRequestHead h
    to_head h x = record {
      method = x.0;
      target =
          (x.1.0, x.1.1.0);
      target_text = x.1.1.1.0;
      minor = x.1.1.1.1.0;
      fields = x.1.1.1.1.1;
    }

    from_head : (h : RequestHead) → IsRequestHead h → ValidParts h
    from_head h x = (x.method, (x.target.0, (x.target.1, (x.target_text, (x.minor, x.fields)))))

-- the bytes are this head and nothing else, and it has at most 64 field lines
abbrev pub IsHeadOf : List ℕ → RequestHead → Type 0
IsHeadOf bytes h = ReadsRequest bytes h [] × (length h.fields ≤ 64)

-- `is_head` decides whether the bytes are the head that they would be
pub Decides-is_head : (bytes : List ℕ) → Decides (is_head bytes) (IsHeadOf bytes (head_of bytes))
unfolding is_head
Decides-is_head bytes =
    let h : RequestHead = head_of bytes in
    Decides-like (is_head bytes) (λ (x : IsRequestHead h × ((print_request h ≡ bytes) × (length h.fields ≤ 64))).
    ((x.0, sym x.1.0 ∙ sym (append-nil (print_request h))), x.1.1))
    (λ (x : IsHeadOf bytes h). (x.0.0, (sym (x.0.1 ∙ append-nil (print_request h)), x.1)))
    (Decides-and _ _ (Decides-is_valid h)
    (Decides-and _ _ (bytes_eq-Decides (print_request h) bytes) (Decides-leb (length h.fields) 64)))

-- bytes that are a head are the head that is cut out of them
pub head_of_read : (bytes : List ℕ) (h : RequestHead) → ReadsRequest bytes h [] → head_of bytes ≡ h
head_of_read bytes h reads = ap head_of (reads.1 ∙ append-nil (print_request h)) ∙ head_of-print h reads.0

-- bytes that are a head of at most 64 field lines are seen as one
pub is_head_read : (bytes : List ℕ) (h : RequestHead) → IsHeadOf bytes h → is_head bytes ≡ true
is_head_read bytes h is = (Decides-is_head bytes).1 (subst (IsHeadOf bytes) (sym (head_of_read bytes h is.0)) is)

-- bytes of which no head can be read are no head
pub is_head_refused : (bytes : List ℕ) → ((h : RequestHead) → ReadsRequest bytes h [] → 64 < length h.fields)
    → is_head bytes ≡ false
is_head_refused bytes none = elim (cases_Bool (is_head bytes)) [
  | inl passed ↦
      let is : IsHeadOf bytes (head_of bytes) = (Decides-is_head bytes).0 passed in
      let many : 64 < length (head_of bytes).fields = none (head_of bytes) is.0 in
      let few : length (head_of bytes).fields ≤ 64 = is.1 in
      absurd (omega arith)
  | inr failed ↦ failed
]
