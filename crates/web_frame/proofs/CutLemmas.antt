-- A reader that takes bytes one by one ends where the head does, and bytes that follow don't change that.
use Rattle.std.proofs.Common.{◌≡◌, ℕ, suc, ◌+◌, ◌<◌, ◌≤◌, ◌⊎◌, Bool, true, false, ◌&&◌, ◌||◌, if◌then◌else◌, eqb, List, [], ◌∷◌, ◌++◌, length, Option, Some, None, refl, sym, ap, subst, ◌∙◌, arith, inl, inr}
use Rattle.std.specs.Option.{option_map}
use Rattle.std.proofs.lemmas.Bool.{cases_eq, ne_eqb, le-leb}
use Rattle.web_frame.specs.declared.scan.State.{State}
use Rattle.web_frame.specs.declared.scan.State.TheVariants.{Before, BeforeReturn, Inside, LineStart, LineReturn}
use Rattle.web_frame.specs.Cut.{begins_with_line_feed, begins_with_empty_line, empty_line_len, lines_len, head_len, Cut, whole, too_long, cut_at, cut_of}
use Rattle.web_frame.specs.Limit.{MAX_HEAD}
use Rattle.web_frame.specs.Scan.{state_after, state_past, end_from}
use Rattle.web_frame.proofs.ScanLemmas.{end_from_after, end_from_here, state_past_after}

lines_len_other : (b : ℕ) (bytes : List ℕ) → eqb b 10 ≡ false → lines_len (b ∷ bytes) ≡ option_map suc (lines_len bytes)
unfolding lines_len
lines_len_other b bytes other =
    ap (λ t. if t && begins_with_empty_line bytes then Some (suc (empty_line_len bytes))
    else option_map suc (lines_len bytes)) other

lines_len_line : (bytes : List ℕ) → begins_with_empty_line bytes ≡ false
    → lines_len (10 ∷ bytes) ≡ option_map suc (lines_len bytes)
unfolding lines_len
lines_len_line bytes none =
    ap (λ t. if t then Some (suc (empty_line_len bytes)) else option_map suc (lines_len bytes)) none

head_len_text : (b : ℕ) (bytes : List ℕ) → begins_with_empty_line (b ∷ bytes) ≡ false
    → head_len (b ∷ bytes) ≡ lines_len (b ∷ bytes)
unfolding head_len
head_len_text b bytes none = ap (λ t. if t then option_map suc (head_len bytes) else lines_len (b ∷ bytes)) none

begins_other : (b : ℕ) (bytes : List ℕ) → eqb b 10 ≡ false → eqb b 13 ≡ false
    → begins_with_empty_line (b ∷ bytes) ≡ false
unfolding begins_with_empty_line
begins_other b bytes no_lf no_cr =
    ap (λ t. t || (eqb b 13 && begins_with_line_feed bytes)) no_lf ∙ ap (λ t. t && begins_with_line_feed bytes) no_cr

begins_return : (b : ℕ) (bytes : List ℕ) → eqb b 10 ≡ false → begins_with_empty_line (13 ∷ b ∷ bytes) ≡ false
unfolding begins_with_empty_line begins_with_line_feed
begins_return b bytes no_lf = no_lf

-- a byte is LF, CR or another
data Sort (b : ℕ) : Type 0 where
  line_feed : b ≡ 10 → Sort b
  return : b ≡ 13 → Sort b
  other : eqb b 10 ≡ false → eqb b 13 ≡ false → Sort b

sort_of : (b : ℕ) → Sort b
sort_of b = elim (cases_eq b 10) [
  | inl lf ↦ line_feed lf
  | inr no_lf ↦ elim (cases_eq b 13) [ inl cr ↦ return cr | inr no_cr ↦ other (ne_eqb b 10 no_lf) (ne_eqb b 13 no_cr) ]
]

-- the end that the reader finds from each state
record Ends (bytes : List ℕ) : Type 0 where
  before : end_from Before bytes ≡ head_len bytes
  before_return : option_map suc (end_from BeforeReturn bytes) ≡ head_len (13 ∷ bytes)
  inside : end_from Inside bytes ≡ lines_len bytes
  line : option_map suc (end_from LineStart bytes) ≡ lines_len (10 ∷ bytes)
  line_return : option_map suc (option_map suc (end_from LineReturn bytes)) ≡ lines_len (10 ∷ 13 ∷ bytes)

ends_after : (b : ℕ) (bytes : List ℕ) → Sort b → Ends bytes → Ends (b ∷ bytes)
unfolding state_after end_from head_len lines_len begins_with_empty_line begins_with_line_feed empty_line_len
ends_after b bytes (line_feed lf) ends = subst (λ x. Ends (x ∷ bytes)) (sym lf) (record {
  before = ap (option_map suc) ends.before;
  before_return = ap (λ o. option_map suc (option_map suc o)) ends.before;
  inside = ends.line;
  line = refl;
  line_return = refl;
})
ends_after b bytes (return cr) ends = subst (λ x. Ends (x ∷ bytes)) (sym cr) (record {
  before = ends.before_return;
  before_return = ap (λ o. option_map suc (option_map suc o)) ends.inside;
  inside = ap (option_map suc) ends.inside;
  line = ends.line_return;
  line_return = ap (λ o. option_map suc (option_map suc (option_map suc o))) ends.inside;
})
ends_after b bytes (other no_lf no_cr) ends =
    let text : lines_len (b ∷ bytes) ≡ option_map suc (lines_len bytes) = lines_len_other b bytes no_lf in
    let none : begins_with_empty_line (b ∷ bytes) ≡ false = begins_other b bytes no_lf no_cr in
    let to_inside : (p : State) → state_after p b ≡ Some Inside → end_from p (b ∷ bytes) ≡ lines_len (b ∷ bytes) =
    λ p is. end_from_after p Inside b bytes is ∙ ap (option_map suc) ends.inside ∙ sym text in
    let after_return : lines_len (13 ∷ b ∷ bytes) ≡ option_map suc (lines_len (b ∷ bytes)) =
    lines_len_other 13 (b ∷ bytes) refl in
    record {
      before = to_inside Before (ap (λ t. Some
          (if t then Before else (if eqb b 13 then BeforeReturn else Inside))) no_lf
          ∙ ap (λ t. Some (if t then BeforeReturn else Inside)) no_cr)
          ∙ sym (head_len_text b bytes none);
      before_return = ap (option_map suc) (to_inside BeforeReturn (ap (λ t. Some (if t then Before else Inside)) no_lf))
          ∙ sym (head_len_text 13 (b ∷ bytes) (begins_return b bytes no_lf) ∙ after_return);
      inside = to_inside Inside (ap (λ t. Some (if t then LineStart else Inside)) no_lf);
      line = ap (option_map suc) (to_inside LineStart
          (ap (λ t. if t then None else Some (if eqb b 13 then LineReturn else Inside)) no_lf
          ∙ ap (λ t. Some (if t then LineReturn else Inside)) no_cr))
          ∙ sym (lines_len_line (b ∷ bytes) none);
      line_return = ap (λ o. option_map suc (option_map suc o))
          (to_inside LineReturn (ap (λ t. if t then None else Some Inside) no_lf))
          ∙ sym (lines_len_line (13 ∷ b ∷ bytes) (begins_return b bytes no_lf) ∙ ap (option_map suc) after_return);
    }

ends : (bytes : List ℕ) → Ends bytes
unfolding end_from head_len lines_len begins_with_empty_line begins_with_line_feed
ends [] = record { before = refl; before_return = refl; inside = refl; line = refl; line_return = refl }
ends (b ∷ bytes) = ends_after b bytes (sort_of b) (ends bytes)

-- the reader finds the end of the first head
pub end_from-before : (bytes : List ℕ) → end_from Before bytes ≡ head_len bytes
end_from-before bytes = (ends bytes).before

-- the state after a byte, or none
cases_state : (o : Option State) → (o ≡ None) ⊎ ((q : State) × (o ≡ Some q))
cases_state None = inl refl
cases_state (Some q) = inr (q, refl)

none_after : (p : State) (b : ℕ) (bytes : List ℕ) → state_after p b ≡ None → state_past p (b ∷ bytes) ≡ None
unfolding state_past
none_after p b bytes is =
    let by : Option State → Option State =
    λ o. elim o as (λ _. Option State) [ None ↦ None | Some next ↦ state_past next bytes ] in
    ap by is

suc_more : (n : ℕ) (o : Option ℕ) → option_map suc (option_map (λ m. n + m) o) ≡ option_map (λ m. suc n + m) o
suc_more n None = refl
suc_more n (Some m) = ap Some (omega arith)

zero_more : (o : Option ℕ) → o ≡ option_map (λ m. 0 + m) o
zero_more None = refl
zero_more (Some m) = ap Some (omega arith)

-- bytes that were read may be left out
pub end_from_past : (p q : State) (front more : List ℕ) → state_past p front ≡ Some q
    → end_from p (front ++ more) ≡ option_map (λ n. length front + n) (end_from q more)
unfolding state_past
end_from_past p q [] more is =
    let same : p ≡ q = cc in
    ap (λ r. end_from r more) same ∙ zero_more (end_from q more)
end_from_past p q (b ∷ front) more is = elim (cases_state (state_after p b)) [
  | inl ended ↦
      let clash : ◌≡◌ {A = Option State} None (Some q) = sym (none_after p b front ended) ∙ is in
      cc
  | inr after ↦
      let past : state_past after.0 front ≡ Some q = sym (state_past_after p after.0 b front after.1) ∙ is in
      end_from_after p after.0 b (front ++ more) after.1 ∙ ap (option_map suc) (end_from_past after.0 q front more past)
      ∙ suc_more (length front) (end_from q more)
]

pub state_past_past : (p q : State) (front more : List ℕ) → state_past p front ≡ Some q
    → state_past p (front ++ more) ≡ state_past q more
unfolding state_past
state_past_past p q [] more is =
    let same : p ≡ q = cc in
    ap (λ r. state_past r more) same
state_past_past p q (b ∷ front) more is = elim (cases_state (state_after p b)) [
  | inl ended ↦
      let clash : ◌≡◌ {A = Option State} None (Some q) = sym (none_after p b front ended) ∙ is in
      cc
  | inr after ↦
      let past : state_past after.0 front ≡ Some q = sym (state_past_after p after.0 b front after.1) ∙ is in
      state_past_after p after.0 b (front ++ more) after.1 ∙ state_past_past after.0 q front more past
]

-- the number under `suc`
suc_some : (o : Option ℕ) (n : ℕ) → option_map suc o ≡ Some n → (m : ℕ) × (o ≡ Some m) × (suc m ≡ n)
suc_some None n is =
    let clash : ◌≡◌ {A = Option ℕ} None (Some n) = is in
    cc
suc_some (Some m) n is =
    let same : suc m ≡ n = cc in
    (m, refl, same)

-- a head has a byte, and its end lies within the bytes
end_from_fits : (p : State) (bytes : List ℕ) (n : ℕ) → end_from p bytes ≡ Some n → (0 < n) × (n ≤ length bytes)
unfolding end_from
end_from_fits p [] n is =
    let clash : ◌≡◌ {A = Option ℕ} None (Some n) = is in
    cc
end_from_fits p (b ∷ bytes) n is = elim (cases_state (state_after p b)) [
  | inl ended ↦
      let one : Some 1 ≡ Some n = sym (end_from_here p b bytes ended) ∙ is in
      let same : 1 ≡ n = cc in
      (omega arith, omega arith)
  | inr after ↦
      let found = suc_some (end_from after.0 bytes) n (sym (end_from_after p after.0 b bytes after.1) ∙ is) in
      let fits = end_from_fits after.0 bytes found.0 found.1 in
      (omega (arith, found.2), omega (arith, found.2, fits.1))
]

pub head_len_fits : (bytes : List ℕ) (n : ℕ) → head_len bytes ≡ Some n → (0 < n) × (n ≤ length bytes)
head_len_fits bytes n is = end_from_fits Before bytes n (end_from-before bytes ∙ is)

-- bytes that follow leave the end where it is
end_from-append : (p : State) (bytes more : List ℕ) (n : ℕ) → end_from p bytes ≡ Some n
    → end_from p (bytes ++ more) ≡ Some n
unfolding end_from
end_from-append p [] more n is =
    let clash : ◌≡◌ {A = Option ℕ} None (Some n) = is in
    cc
end_from-append p (b ∷ bytes) more n is = elim (cases_state (state_after p b)) [
  | inl ended ↦ end_from_here p b (bytes ++ more) ended ∙ sym (end_from_here p b bytes ended) ∙ is
  | inr after ↦
      let found = suc_some (end_from after.0 bytes) n (sym (end_from_after p after.0 b bytes after.1) ∙ is) in
      end_from_after p after.0 b (bytes ++ more) after.1
      ∙ ap (option_map suc) (end_from-append after.0 bytes more found.0 found.1) ∙ ap Some found.2
]

pub head_len-append : (bytes more : List ℕ) (n : ℕ) → head_len bytes ≡ Some n → head_len (bytes ++ more) ≡ Some n
head_len-append bytes more n is =
    sym (end_from-before (bytes ++ more)) ∙ end_from-append Before bytes more n (end_from-before bytes ∙ is)

-- a head that ends only with the bytes that follow is longer than those before
end_from_later : (p : State) (bytes more : List ℕ) (n : ℕ) → end_from p bytes ≡ None
    → end_from p (bytes ++ more) ≡ Some n → length bytes < n
unfolding end_from
end_from_later p [] more n none is =
    let fits = end_from_fits p more n is in
    fits.0
end_from_later p (b ∷ bytes) more n none is = elim (cases_state (state_after p b)) [
  | inl ended ↦
      let clash : ◌≡◌ {A = Option ℕ} (Some 1) None = sym (end_from_here p b bytes ended) ∙ none in
      cc
  | inr after ↦
      let found = suc_some (end_from after.0 (bytes ++ more)) n
      (sym (end_from_after p after.0 b (bytes ++ more) after.1) ∙ is) in
      let inner : end_from after.0 bytes ≡ None =
      suc_none (end_from after.0 bytes) (sym (end_from_after p after.0 b bytes after.1) ∙ none) in
      omega (arith, end_from_later after.0 bytes more found.0 inner found.1, found.2)
]
  where
    suc_none : (o : Option ℕ) → option_map suc o ≡ None → o ≡ None
    suc_none None is = refl
    suc_none (Some m) is =
        let clash : ◌≡◌ {A = Option ℕ} (Some (suc m)) None = is in
        cc

pub head_len_later : (bytes more : List ℕ) (n : ℕ) → head_len bytes ≡ None → head_len (bytes ++ more) ≡ Some n
    → length bytes < n
head_len_later bytes more n none is =
    end_from_later Before bytes more n (end_from-before bytes ∙ none) (end_from-before (bytes ++ more) ∙ is)

-- a head that ends within the limit
pub cut_of_whole : (bytes : List ℕ) (n : ℕ) → head_len bytes ≡ Some n → n ≤ MAX_HEAD → cut_of bytes ≡ whole n
unfolding cut_of
cut_of_whole bytes n is few =
    ap (λ o. cut_at o (length bytes)) is ∙ ap (λ t. if t then whole n else too_long) (le-leb n MAX_HEAD few)

-- the same, where all bytes are within the limit
pub cut_found : (bytes held : List ℕ) (n : ℕ) → held ≡ bytes → Some n ≡ head_len held → length held ≤ MAX_HEAD
    → cut_of bytes ≡ whole n
cut_found bytes held n same is few =
    let found : head_len bytes ≡ Some n = sym (is ∙ ap head_len same) in
    let fits = head_len_fits bytes n found in
    cut_of_whole bytes n found (omega (arith, fits.1, ap length same))
