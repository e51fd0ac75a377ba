-- All parts of declarations, whole, are what is sent where there is no clause.
use Rattle.std.proofs.Common.{◌≡◌, ℕ, suc, ◌+◌, ◌<◌, ◌≤◌, List, [], ◌∷◌, ◌++◌, length, drop, get_or, slice_get, Option, Some, None, Ok, refl, sym, ap, ap₂, subst, ◌∙◌, append_assoc, arith}
use Rattle.std.proofs.lemmas.List.{drop_all}
use Rattle.std.specs.List.{enumerate_from, filter_map, flat_map, range_with_len}
use Rattle.std.specs.Option.{option_map, option_map_or}
use Rattle.dap_model.specs.ClauseFaults.{first_fault}
use Rattle.dap_model.specs.Picking.{parts_of, whole_slabs}
use Rattle.dap_model.specs.Projection.{all_sent, projection_of, sent_of, slabs_of, with_slabs}
use Rattle.dap_model.specs.declared.declaration.Array.{Array}
use Rattle.dap_model.specs.declared.declaration.Decl.{Decl}
use Rattle.dap_model.specs.declared.projection.Sent.{Sent}
use Rattle.dap_model.proofs.ListLemmas.{filter_map-some}
use Rattle.dap_model.proofs.ProjectionWholeLemmas.{all_sent-whole}
use Rattle.dap_model.proofs.WholeClauseLemmas.{slabs_of-all}
use Rattle.dap_project.specs.All.{decls_from, parts_from, whole_part}
use Rattle.dap_project.proofs.StepLemmas.{all_of, left, left_at, none_at}

-- ---- without a clause each part is sent whole

-- a part is sent whole
one : (index : ℕ) (decl : Decl) (part : ℕ) (array : Array) → slice_get (parts_of decl) part ≡ Some array
    → option_map (with_slabs index part) (slabs_of [] decl part) ≡ Some (whole_part index part array)
one index decl part array found =
    ap (option_map (with_slabs index part)) (slabs_of-all decl part)
    ∙ ap (λ (o : Option Array). Some (with_slabs index part (whole_slabs (option_map_or (λ (a : Array). a.dims) o []))))
    found

-- parts are, where each is
each : (sent : ℕ → Option Sent) (index part : ℕ) (arrays : List Array)
    → ((later : ℕ) (array : Array) → slice_get arrays later ≡ Some array
    → sent (part + later) ≡ Some (whole_part index (part + later) array))
    → filter_map sent (range_with_len part (length arrays)) ≡ parts_from index part arrays
unfolding parts_from
each sent index part [] are = refl
each sent index part (array ∷ arrays) are =
    filter_map-some sent part (range_with_len (part + 1) (length arrays)) (whole_part index part array)
    (subst (λ (n : ℕ). sent n ≡ Some (whole_part index n array)) (omega arith) (are 0 array refl))
    ∙ ap (λ (l : List Sent). whole_part index part array ∷ l)
    (each sent index (part + 1) arrays (λ later other found.
    subst (λ (n : ℕ). sent n ≡ Some (whole_part index n other)) (omega arith) (are (suc later) other found)))

of_decl : (index : ℕ) (decl : Decl) → sent_of [] (index, decl) ≡ parts_from index 0 (parts_of decl)
unfolding sent_of
of_decl index decl =
    each (λ (part : ℕ). option_map (with_slabs index part) (slabs_of [] decl part)) index 0 (parts_of decl)
    (λ later array found. subst (λ (n : ℕ). option_map (with_slabs index n) (slabs_of [] decl n)
    ≡ Some (whole_part index n array)) (omega arith) (one index decl later array found))

of_decls : (index : ℕ) (decls : List Decl)
    → flat_map (sent_of []) (enumerate_from index decls) ≡ decls_from index decls
unfolding decls_from
of_decls index [] = refl
of_decls index (decl ∷ decls) =
    ap₂ (λ (l m : List Sent). l ++ m) (of_decl index decl) (of_decls (index + 1) decls)

-- all parts whole, and the declarations as they stand, are the projection without a clause
pub projected : (decls : List Decl) (sent : List Sent) → sent ≡ decls_from 0 decls
    → projection_of decls [] ≡ Ok (record { decls = decls; sent = sent })
unfolding projection_of first_fault all_sent
projected decls sent are =
    ap₂ (λ (d : List Decl) (s : List Sent). Ok (record { decls = d; sent = s })) (all_sent-whole decls)
    (of_decls 0 decls ∙ sym are)

-- ---- one part, and one declaration further

pub part_step : (sent : List Sent) (index at : ℕ) (arrays : List Array) (array : Array)
    → slice_get arrays at ≡ Some array
    → sent ++ parts_from index at (drop at arrays)
    ≡ (sent ++ whole_part index at array ∷ []) ++ parts_from index (at + 1) (drop (at + 1) arrays)
unfolding parts_from
part_step sent index at arrays array found =
    ap (λ (l : List Array). sent ++ parts_from index at l) (left_at arrays at array found)
    ∙ sym (append_assoc sent (whole_part index at array ∷ []) (parts_from index (at + 1) (drop (at + 1) arrays)))

pub part_end : (done whole : List Sent) (index at : ℕ) (arrays : List Array) → length arrays ≤ at
    → done ++ parts_from index at (drop at arrays) ≡ whole → done ≡ whole
unfolding parts_from
part_end done whole index at arrays past is =
    all_of done _ whole is (ap (parts_from index at) (drop_all at arrays past))

pub part_short : (done whole : List Sent) (index at : ℕ) (arrays : List Array) → slice_get arrays at ≡ None
    → done ++ parts_from index at (drop at arrays) ≡ whole → done ≡ whole
unfolding parts_from
part_short done whole index at arrays past is =
    all_of done _ whole is (ap (parts_from index at) (none_at arrays at past))

pub decl_step : (sent : List Sent) (at : ℕ) (decls : List Decl) (decl : Decl) → at < length decls
    → decl ≡ get_or decls at decl
    → sent ++ decls_from at (drop at decls)
    ≡ (sent ++ parts_from at 0 (parts_of decl)) ++ decls_from (at + 1) (drop (at + 1) decls)
unfolding decls_from
decl_step sent at decls decl within is =
    ap (λ (l : List Decl). sent ++ decls_from at l) (left decls at decl within is)
    ∙ sym (append_assoc sent (parts_from at 0 (parts_of decl)) (decls_from (at + 1) (drop (at + 1) decls)))

pub decl_end : (done whole : List Sent) (at : ℕ) (decls : List Decl) → length decls ≤ at
    → done ++ decls_from at (drop at decls) ≡ whole → done ≡ whole
unfolding decls_from
decl_end done whole at decls past is = all_of done _ whole is (ap (decls_from at) (drop_all at decls past))

pub ruleset decls = (decl_step, decl_end)
