-- The names of the variables of a file differ.
use Rattle.std.proofs.Common.{◌≡◌, List, [], ◌∷◌, ◌++◌, map, find, Option, Some, None, Ok, inl, inr, refl, sym, ap, subst, ◌∙◌}
use Rattle.std.specs.Cmp.Lexicographic.{pointwise}
use Rattle.std.specs.List.{AllByRecursion}
use Rattle.std.specs.Option.{option_map, option_map_or}
use Rattle.std.proofs.lemmas.Bool.{cases_Bool}
use Rattle.fm_base.proofs.ChainLemmas.{same_Ok, step_ok}
use Rattle.nc_model.specs.Spelling.{AreDistinct}
use Rattle.dap_model.specs.declared.declaration.Array.{Array}
use Rattle.dap_model.specs.declared.projection.Sent.{Sent}
use Rattle.dap_model.specs.ClauseFaults.{is_same_slab}
use Rattle.dap_xdr.specs.Content.{array_in, Content}
use Rattle.nc_writer.specs.declared.fault.WriteFault.{WriteFault}
use Rattle.nc_writer.specs.declared.variable.Variable.{Variable}
use Rattle.nc_writer.specs.Variables.{add_known, add_part, add_sent, has_name, has_slabs, variable_of, variable_with, variables_from}
use Rattle.nc_writer.proofs.DistinctLemmas.{good-push, variable_name}

-- the names of variables differ
abbrev pub AreApart : List Variable → Type 0
AreApart variables = AreDistinct (map variable_name variables)

apart-push : (found : List Variable) (variable : Variable) → AreApart found
    → find (has_name variable.name) found ≡ None → AreApart (found ++ variable ∷ [])
apart-push found variable apart none =
    (good-push variable_name (λ (v : Variable). Unit {0}) found variable
    (record { distinct = apart; each = every found }) tt none).distinct
  where
    every : (variables : List Variable) → AllByRecursion (λ (v : Variable). Unit {0}) variables
    every [] = tt
    every (v ∷ variables) = (tt, every variables)

module _ (content : Content) where
  apart-part : (found next : List Variable) (sent : Sent) (array : Array) → AreApart found
      → add_part content found sent array ≡ Ok next → AreApart next
  unfolding add_part has_slabs variable_of variable_with
  apart-part found next sent array apart is = by_found (find (has_name array.name) found) refl is
    where
      by_found : (o : Option Variable) → find (has_name array.name) found ≡ o
          → add_known content found sent array
          (option_map (λ (v : Variable). pointwise is_same_slab v.sent.slabs sent.slabs) o) ≡ Ok next
          → AreApart next
      by_found None none e =
          let variable = variable_of content sent array in
          subst AreApart (same_Ok {E = WriteFault} (found ++ variable ∷ []) next e)
          (apart-push found variable apart none)
      by_found (Some other) some e = elim (cases_Bool (pointwise is_same_slab other.sent.slabs sent.slabs)) [
        | inl same ↦
            subst AreApart (same_Ok {E = WriteFault} found next
            (sym (ap (λ b. add_known content found sent array (Some b)) same) ∙ e)) apart
        | inr differ ↦
            absurd (let bad = sym (ap (λ b. add_known content found sent array (Some b)) differ) ∙ e in cc)
      ]

  apart-sent : (found next : List Variable) (sent : Sent) → AreApart found → add_sent content found sent ≡ Ok next
      → AreApart next
  unfolding add_sent
  apart-sent found next sent apart is = by_array (array_in content.decls sent.decl sent.part) is
    where
      by_array : (o : Option Array) → option_map_or (add_part content found sent) o (Ok found) ≡ Ok next
          → AreApart next
      by_array None e = subst AreApart (same_Ok {E = WriteFault} found next e) apart
      by_array (Some array) e = apart-part found next sent array apart e

  pub apart-from : (found next : List Variable) (sent : List Sent) → AreApart found
      → variables_from content found sent ≡ Ok next → AreApart next
  unfolding variables_from
  apart-from found next [] apart is = subst AreApart (same_Ok {E = WriteFault} found next is) apart
  apart-from found next (part ∷ sent) apart is =
      let step = step_ok (add_sent content found part) (λ l. variables_from content l sent) next is in
      apart-from step.0 next sent (apart-sent found step.0 part apart step.1) step.2
