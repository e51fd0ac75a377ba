-- A walk through the indices of a bucket passes over declarations of which a path picks nothing.
use Rattle.std.proofs.Common.{cond, ◌≡◌, ℕ, zero, suc, ◌+◌, ◌<◌, ◌≤◌, ◌-◌, Bool, true, false, List, [], ◌∷◌, ◌++◌, length, take, drop, get_or, set, None, refl, sym, ap, ap₂, ◌∙◌, append_assoc, take-add, arith}
use Rattle.std.proofs.lemmas.Bool.{cond-false, eq-eqb, true≢false}
use Rattle.std.proofs.lemmas.List.{drop-drop, drop-set-lt, get_or-drop, drop_all, drop_more, length-drop, length-set, take-append-drop}
use Rattle.std.proofs.lemmas.Slice.Eq.{bytes_eq-Decides}
use Rattle.std.specs.Str.{bytes_eq}
use Rattle.dap_model.specs.Picking.{decl_named, is_picked, name_of, nothing, picked_below, picked_by}
use Rattle.dap_model.specs.declared.declaration.Decl.{Decl}
use Rattle.dap_model.specs.declared.projection.Clause.{Clause}
use Rattle.dap_project.specs.Buckets.{bucket_of, may_pick, indices_for, indices_where}
use Rattle.dap_project.specs.Notes.{note_after, notes_after}
use Rattle.dap_project.specs.declared.note.Note.{Note}
use Rattle.dap_project.proofs.NoteLemmas.{note_kept}
use Rattle.dap_project.proofs.StepLemmas.{left, notes_step}

-- a path picks nothing of these declarations
abbrev pub NonePicked : List (List ℕ) → List Decl → Type 0
NonePicked path [] = Unit {0}
NonePicked path (decl ∷ decls) = (is_picked (picked_by decl path) ≡ false) × NonePicked path decls

-- it picks nothing of a declaration of another bucket
pub apart : (count : ℕ) (path : List (List ℕ)) (decl : Decl) → may_pick count path decl ≡ false
    → is_picked (picked_by decl path) ≡ false
unfolding picked_by
apart count [] decl other = refl
apart count (name ∷ names) decl other = by_name (bytes_eq (name_of decl) name) refl
  where
    by_name : (b : Bool) → bytes_eq (name_of decl) name ≡ b
        → is_picked (cond (bytes_eq (name_of decl) name) (picked_below decl names) nothing) ≡ false
    by_name false differ = ap is_picked (cond-false (bytes_eq (name_of decl) name) _ _ differ)
    by_name true same =
        let name_is : name_of decl ≡ name = (bytes_eq-Decides (name_of decl) name).0 same in
        absurd (true≢false (sym (eq-eqb _ _ (ap (bucket_of count) name_is)) ∙ other))

-- an index of those that are left, and what is left behind it
pub record IsNextIndex (test : Decl → Bool) (path : List (List ℕ)) (from : ℕ) (decls : List Decl) (index : ℕ)
    (rest : List ℕ) : Type 0 where
  pub after : ℕ
  pub is : index ≡ from + after
  pub within : after < length decls
  pub rest_is : rest ≡ indices_where test (index + 1) (drop (after + 1) decls)
  pub passed : NonePicked path (take after decls)

next_index : (test : Decl → Bool) (path : List (List ℕ))
    → ((decl : Decl) → test decl ≡ false → is_picked (picked_by decl path) ≡ false)
    → (from : ℕ) (decls : List Decl) (index : ℕ) (rest : List ℕ) → indices_where test from decls ≡ index ∷ rest
    → IsNextIndex test path from decls index rest
unfolding indices_where
next_index test path others from [] index rest e = absurd cc
next_index test path others from (decl ∷ decls) index rest e =
    by_test (test decl) refl e (next_index test path others (from + 1) decls index rest)
  where
    one : (n : ℕ) → suc n + 1 ≡ suc (n + 1)
    one n = omega arith

    by_test : (b : Bool) → test decl ≡ b
        → cond b (from ∷ indices_where test (from + 1) decls) (indices_where test (from + 1) decls) ≡ index ∷ rest
        → (indices_where test (from + 1) decls ≡ index ∷ rest → IsNextIndex test path (from + 1) decls index rest)
        → IsNextIndex test path from (decl ∷ decls) index rest
    by_test true is e later =
        let first : from ≡ index = cc in
        let more : indices_where test (from + 1) decls ≡ rest = cc in
        record {
          after = 0;
          is = omega (arith, first);
          within = omega arith;
          rest_is = sym more ∙ ap (λ (n : ℕ). indices_where test (n + 1) decls) first;
          passed = tt;
        }
    by_test false is e later =
        let next = later e in
        record {
          after = suc next.after;
          is = omega (arith, next.is);
          within = omega (arith, next.within);
          rest_is = next.rest_is
              ∙ ap (λ (n : ℕ). indices_where test (index + 1) (drop n (decl ∷ decls))) (sym (one next.after));
          passed = (others decl is, next.passed);
        }

no_index : (test : Decl → Bool) (path : List (List ℕ))
    → ((decl : Decl) → test decl ≡ false → is_picked (picked_by decl path) ≡ false)
    → (from : ℕ) (decls : List Decl) → indices_where test from decls ≡ [] → NonePicked path decls
unfolding indices_where
no_index test path others from [] e = tt
no_index test path others from (decl ∷ decls) e =
    by_test (test decl) refl e (no_index test path others (from + 1) decls)
  where
    by_test : (b : Bool) → test decl ≡ b
        → cond b (from ∷ indices_where test (from + 1) decls) (indices_where test (from + 1) decls) ≡ []
        → (indices_where test (from + 1) decls ≡ [] → NonePicked path decls) → NonePicked path (decl ∷ decls)
    by_test true is e later = absurd cc
    by_test false is e later = (others decl is, later e)

-- the indices that are left, of the declarations from an index on
pub record AreLeft (decls : List Decl) (path : List (List ℕ)) (indices : List ℕ) (from : ℕ) : Type 0 where
  pub within : from ≤ length decls
  pub are : indices ≡ indices_where (may_pick (length decls) path) from (drop from decls)

-- all are left at first
pub all_left : (decls : List Decl) (path : List (List ℕ)) (indices : List ℕ) → indices ≡ indices_for decls path
    → AreLeft decls path indices 0
all_left decls path indices are = record { within = omega arith; are = are }

-- the index of a declaration that stands there among some, and what is left behind it
pub record IsNext (decls : List Decl) (path : List (List ℕ)) (indices : List ℕ) (at index from : ℕ) : Type 0 where
  pub after : ℕ
  pub is : index ≡ from + after
  pub within : index < length decls
  pub left : AreLeft decls path (drop (at + 1) indices) (index + 1)
  pub passed : NonePicked path (take after (drop from decls))

pub next : (decls : List Decl) (path : List (List ℕ)) (indices : List ℕ) (at d from : ℕ) → at < length indices
    → AreLeft decls path (drop at indices) from → IsNext decls path indices at (get_or indices at d) from
next decls path indices at d from lt are =
    let index = get_or indices at d in
    let test = may_pick (length decls) path in
    let found = next_index test path (apart (length decls) path) from (drop from decls) index (drop (at + 1) indices)
    (sym are.are ∙ drop_more indices at d lt) in
    let long : length (drop from decls) ≡ length decls - from = length-drop from decls in
    let whole : from + (found.after + 1) ≡ index + 1 = omega (arith, found.is) in
    record {
      after = found.after;
      is = found.is;
      within = omega (arith, found.is, found.within, long, are.within);
      left = record {
        within = omega (arith, found.is, found.within, long, are.within);
        are = found.rest_is
            ∙ ap (indices_where test (index + 1)) (drop-drop (found.after + 1) from decls
            ∙ ap (λ (n : ℕ). drop n decls) whole);
      };
      passed = found.passed;
    }

-- behind the last index a path picks nothing
pub none_left : (decls : List Decl) (path : List (List ℕ)) (indices : List ℕ) (at from : ℕ) → length indices ≤ at
    → AreLeft decls path (drop at indices) from → NonePicked path (drop from decls)
none_left decls path indices at from past are =
    no_index (may_pick (length decls) path) path (apart (length decls) path) from (drop from decls)
    (sym are.are ∙ drop_all at indices past)

-- ---- the declaration that a path names

named_passed : (path : List (List ℕ)) (decls : List Decl) (after : ℕ) → NonePicked path (take after decls)
    → decl_named decls path ≡ decl_named (drop after decls) path
unfolding decl_named
named_passed path decls zero none = refl
named_passed path [] (suc after) none = refl
named_passed path (decl ∷ decls) (suc after) none =
    cond-false (is_picked (picked_by decl path)) _ _ none.0 ∙ named_passed path decls after none.1

-- those that the walk passes over are not named
pub passed_named : (decls : List Decl) (path : List (List ℕ)) (indices : List ℕ) (at index from : ℕ)
    → IsNext decls path indices at index from
    → decl_named (drop from decls) path ≡ decl_named (drop index decls) path
passed_named decls path indices at index from step =
    named_passed path (drop from decls) step.after step.passed
    ∙ ap (λ (l : List Decl). decl_named l path) (drop-drop step.after from decls)
    ∙ ap (λ (n : ℕ). decl_named (drop n decls) path) (sym step.is)

-- nor is one of which it picks nothing
pub named_further : (decls : List Decl) (path : List (List ℕ)) (index : ℕ) (decl : Decl) → index < length decls
    → decl ≡ get_or decls index decl → is_picked (picked_by decl path) ≡ false
    → decl_named (drop index decls) path ≡ decl_named (drop (index + 1) decls) path
unfolding decl_named
named_further decls path index decl within is fails =
    ap (λ (l : List Decl). decl_named l path) (left decls index decl within is)
    ∙ cond-false (is_picked (picked_by decl path)) _ _ fails

pub named_none : (path : List (List ℕ)) (decls : List Decl) → NonePicked path decls
    → decl_named decls path ≡ None
unfolding decl_named
named_none path [] none = refl
named_none path (decl ∷ decls) none =
    cond-false (is_picked (picked_by decl path)) _ _ none.0 ∙ named_none path decls none.1

-- ---- the notes of a clause

notes_kept : (clause : Clause) (decls : List Decl) (notes : List Note) → NonePicked clause.path decls
    → notes_after clause decls notes ≡ notes
unfolding notes_after
notes_kept clause [] notes none = refl
notes_kept clause (decl ∷ decls) [] none = refl
notes_kept clause (decl ∷ decls) (note ∷ notes) none =
    ap₂ (λ (n : Note) (l : List Note). n ∷ l) (note_kept decl clause note none.0)
    (notes_kept clause decls notes none.1)

notes_passed : (clause : Clause) (decls : List Decl) (notes : List Note) (after : ℕ) → after < length decls
    → length notes ≡ length decls → NonePicked clause.path (take after decls)
    → notes_after clause decls notes ≡ take after notes ++ notes_after clause (drop after decls) (drop after notes)
unfolding notes_after
notes_passed clause decls notes zero within same none = refl
notes_passed clause [] notes (suc after) within same none = absurd (omega (arith, within))
notes_passed clause (decl ∷ decls) [] (suc after) within same none = absurd (omega (arith, same))
notes_passed clause (decl ∷ decls) (note ∷ notes) (suc after) within same none =
    ap₂ (λ (n : Note) (l : List Note). n ∷ l) (note_kept decl clause note none.0)
    (notes_passed clause decls notes after (omega (arith, within)) (omega (arith, same)) none.1)

-- the notes so far, where the indices that are left are those of the declarations from an index on
pub record AreNoted (decls : List Decl) (clause : Clause) (indices : List ℕ) (notes old : List Note) : Type 0 where
  pub from : ℕ
  pub left : AreLeft decls clause.path indices from
  pub count : length notes ≡ length decls
  pub kept : drop from notes ≡ drop from old
  pub noted : take from notes ++ notes_after clause (drop from decls) (drop from notes)
      ≡ notes_after clause decls old

pub first_noted : (decls : List Decl) (clause : Clause) (indices : List ℕ) (notes : List Note)
    → indices ≡ indices_for decls clause.path → length notes ≡ length decls → AreNoted decls clause indices notes notes
first_noted decls clause indices notes are same =
    record { from = 0; left = all_left decls clause.path indices are; count = same; kept = refl; noted = refl }

pub noted_here : (decls : List Decl) (clause : Clause) (indices : List ℕ) (notes old : List Note) (at d : ℕ)
    (decl : Decl) (note new : Note) → at < length indices → AreNoted decls clause (drop at indices) notes old
    → decl ≡ get_or decls (get_or indices at d) decl → note ≡ get_or notes (get_or indices at d) note
    → new ≡ note_after decl clause note
    → AreNoted decls clause (drop (at + 1) indices) (set notes (get_or indices at d) new) old
noted_here decls clause indices notes old at d decl note new lt so_far is_decl is_note to =
    let index = get_or indices at d in
    let from = so_far.from in
    let step = next decls clause.path indices at d from lt so_far.left in
    let long : length (drop from decls) ≡ length decls - from = length-drop from decls in
    let long_notes : length (drop from notes) ≡ length notes - from = length-drop from notes in
    let passed = notes_passed clause (drop from decls) (drop from notes) step.after
    (omega (arith, step.is, step.within, long)) (omega (arith, long, long_notes, so_far.count)) step.passed in
    let rest = notes_after clause (drop step.after (drop from decls)) (drop step.after (drop from notes)) in
    let whole : from + (step.after + 1) ≡ index + 1 = omega (arith, step.is) in
    let up_to_here : take from notes ++ notes_after clause (drop from decls) (drop from notes)
    ≡ take index notes ++ notes_after clause (drop index decls) (drop index notes) =
    ap (λ (l : List Note). take from notes ++ l) passed
    ∙ sym (append_assoc (take from notes) (take step.after (drop from notes)) rest)
    ∙ ap (λ (l : List Note). l ++ rest) (sym (take-add from step.after notes))
    ∙ ap₂ (λ (d : List Decl) (n : List Note). take (from + step.after) notes ++ notes_after clause d n)
    (drop-drop step.after from decls) (drop-drop step.after from notes)
    ∙ ap (λ (n : ℕ). take n notes ++ notes_after clause (drop n decls) (drop n notes)) (sym step.is) in
    record {
      from = index + 1;
      left = step.left;
      count = length-set notes index new ∙ so_far.count;
      kept = drop-set-lt (index + 1) notes index new (omega arith)
          ∙ ap (λ (n : ℕ). drop n notes) (sym whole)
          ∙ sym (drop-drop (step.after + 1) from notes)
          ∙ ap (drop (step.after + 1)) so_far.kept
          ∙ drop-drop (step.after + 1) from old
          ∙ ap (λ (n : ℕ). drop n old) whole;
      noted = sym (notes_step clause decls notes index decl note new step.within
          (omega (arith, step.within, so_far.count)) is_decl is_note to)
          ∙ sym up_to_here ∙ so_far.noted;
    }

-- a note that the walk comes to is as it was before
pub as_before : (decls : List Decl) (clause : Clause) (indices : List ℕ) (notes old : List Note) (at d : ℕ)
    (note : Note) → at < length indices → AreNoted decls clause (drop at indices) notes old
    → note ≡ get_or notes (get_or indices at d) note → note ≡ get_or old (get_or indices at d) note
as_before decls clause indices notes old at d note lt so_far is =
    let from = so_far.from in
    let step = next decls clause.path indices at d from lt so_far.left in
    is
    ∙ ap (λ (n : ℕ). get_or notes n note) step.is
    ∙ sym (get_or-drop from notes step.after note)
    ∙ ap (λ (l : List Note). get_or l step.after note) so_far.kept
    ∙ get_or-drop from old step.after note
    ∙ ap (λ (n : ℕ). get_or old n note) (sym step.is)

pub all_noted : (decls : List Decl) (clause : Clause) (indices : List ℕ) (notes old : List Note) (at : ℕ)
    → length indices ≤ at → AreNoted decls clause (drop at indices) notes old → notes ≡ notes_after clause decls old
all_noted decls clause indices notes old at past so_far =
    let from = so_far.from in
    let none = none_left decls clause.path indices at from past so_far.left in
    sym (take-append-drop from notes)
    ∙ ap (λ (l : List Note). take from notes ++ l)
    (sym (notes_kept clause (drop from decls) (drop from notes) none))
    ∙ so_far.noted
