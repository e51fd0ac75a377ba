-- A name is another with some bytes behind it exactly where these are left behind the other.
use Rattle.std.proofs.Common.{◌≡◌, ◌≢◌, ◌&&◌, ℕ, Bool, true, false, List, [], ◌∷◌, ◌++◌, Some, None, refl, sym, ap, ◌∙◌}
use Rattle.std.specs.Str.{bytes_eq}
use Rattle.std.proofs.lemmas.Bool.Decides.{Decides-eqb}
use Rattle.std.proofs.lemmas.Slice.Eq.{bytes_eq-Decides, strip_prefix_is}
use Rattle.nc_writer.proofs.attributes.is_name_with.Goals as goal

same_front : (front one other : List ℕ) → bytes_eq (front ++ one) (front ++ other) ≡ bytes_eq one other
same_front [] one other = refl
same_front (byte ∷ front) one other =
    ap (λ (b : Bool). b && bytes_eq (front ++ one) (front ++ other)) ((Decides-eqb byte byte).1 refl)
    ∙ same_front front one other

no_front : (front one name : List ℕ) → ((rest : List ℕ) → name ≢ front ++ rest) → false ≡ bytes_eq (front ++ one) name
no_front front one name none = by_test (bytes_eq (front ++ one) name) refl
  where
    by_test : (same : Bool) → bytes_eq (front ++ one) name ≡ same → false ≡ bytes_eq (front ++ one) name
    by_test true is = absurd (none one (sym ((bytes_eq-Decides (front ++ one) name).0 is)))
    by_test false is = sym is

pub returns-in-Some : goal.returns-in-Some
returns-in-Some c =
    let axis = c.args.axis.now in
    let left = strip_prefix_is Decides-eqb c.args.name.now axis (Some c.in-Some.rest) c.in-Some.ensures.cases in
    c.eq.ensures ∙ sym (same_front axis c.args.behind.now c.in-Some.rest.now)
    ∙ ap (bytes_eq (axis ++ c.args.behind.now)) (sym left)

pub returns-in-None : goal.returns-in-None
returns-in-None c =
    no_front c.args.axis.now c.args.behind.now c.args.name.now
    (strip_prefix_is Decides-eqb c.args.name.now c.args.axis.now None c.in-None.ensures.cases)
