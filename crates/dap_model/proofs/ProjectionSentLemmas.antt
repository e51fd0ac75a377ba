-- Which parts are sent, and in which order.
use Rattle.std.proofs.Common.{◌≡◌, ◌≢◌, ℕ, ◌<◌, List, [], ◌∷◌, length, slice_get, Some, refl, sym, ap, subst, ◌∙◌, inl, inr, arith, zero-add, ◌++◌, ◌↔◌}
use Rattle.std.specs.List.{All, AllZip, enumerate_from, range_with_len}
use Rattle.std.specs.Option.{option_map}
use Rattle.std.proofs.lemmas.List.Elements.{All-contains}
use Rattle.std.proofs.lemmas.Option.{same_Some}
use Rattle.fm_base.proofs.OptionLemmas.{mapped_some}
use Rattle.dap_model.specs.declared.declaration.Decl.{Decl}
use Rattle.dap_model.specs.declared.projection.Clause.{Clause}
use Rattle.dap_model.specs.declared.projection.Sent.{Sent}
use Rattle.dap_model.specs.declared.projection.Slab.{Slab}
use Rattle.dap_model.specs.Picking.{name_of, parts_of, part_dims, given_by}
use Rattle.dap_model.specs.Projection.{with_slabs, slabs_of, sent_of, all_sent}
use Rattle.dap_model.specs.ProjectionFacts.{AreNamedApart, IsGridded, StandsBefore, IsAsked, IsWhole, FitsDim, FitsPart}
use Rattle.dap_model.proofs.ProjectionAgreeLemmas.{Sound, Sound-from_none, decl_named-is, picked_if_given, Faultless, Faultless-first, slabs_of-given, given-slabs_of}
use Rattle.dap_model.proofs.ProjectionFitLemmas.{given-fit, given-pick, whole_slabs-fit, whole_slabs-pick, Picks}
use Rattle.dap_model.proofs.WholeClauseLemmas.{slabs_of-all}
use Rattle.dap_model.proofs.ListLemmas.{Has, Has-slice_get, Has-from_contains, contains_from_Has, Has-flat_map, Source-flat_map, Has-filter_map, Source-filter_map, within_range, Has-range, slice_get-numbered, Has-numbered}
use Rattle.dap_model.proofs.OrderLemmas.{Ordered, Ordered-from_pairs, Ordered-filter_map, Ordered-flat_map, Ordered-range, Ordered-numbered}

-- a part that is sent
pub record PartSent (decls : List Decl) (clauses : List Clause) (sent : Sent) : Type 0 where
  pub decl : Decl
  pub decl_is : slice_get decls sent.decl ≡ Some decl
  pub within : sent.part < length (parts_of decl)
  pub slabs_are : slabs_of clauses decl sent.part ≡ Some sent.slabs

-- a part that is sent of a declaration at an index
record SentOf (clauses : List Clause) (placed : ℕ × Decl) (sent : Sent) : Type 0 where
  index_is : sent.decl ≡ placed.0
  within : sent.part < length (parts_of placed.1)
  slabs_are : slabs_of clauses placed.1 sent.part ≡ Some sent.slabs

SentOf-sent_of : (clauses : List Clause) (placed : ℕ × Decl) (sent : Sent) → Has (sent_of clauses placed) sent
    → SentOf clauses placed sent
unfolding sent_of
SentOf-sent_of clauses placed sent has =
    let numbers = range_with_len 0 (length (parts_of placed.1)) in
    let s =
    Source-filter_map (λ (part : ℕ). option_map (with_slabs placed.0 part)
    (slabs_of clauses placed.1 part)) numbers sent has in
    let slabs = mapped_some (with_slabs placed.0 s.item) (slabs_of clauses placed.1 s.item) sent s.gives in
    let part : s.item ≡ sent.part = ap (λ (t : Sent). t.part) slabs.2 in
    let within = within_range 0 (length (parts_of placed.1)) s.item s.has in
    record {
      index_is = sym (ap (λ (t : Sent). t.decl) slabs.2);
      within = omega (arith, within.1);
      slabs_are = ap (slabs_of clauses placed.1) (sym part) ∙ slabs.1 ∙ ap Some (ap (λ (t : Sent). t.slabs) slabs.2);
    }

Has-sent_of : (clauses : List Clause) (placed : ℕ × Decl) (sent : Sent) → SentOf clauses placed sent
    → Has (sent_of clauses placed) sent
unfolding sent_of
Has-sent_of clauses placed sent s =
    Has-filter_map (λ (part : ℕ). option_map (with_slabs placed.0 part) (slabs_of clauses placed.1 part))
    (range_with_len 0 (length (parts_of placed.1))) sent.part sent
    (Has-range 0 (length (parts_of placed.1)) sent.part (omega arith) (omega (arith, s.within)))
    (ap (option_map (with_slabs placed.0 sent.part)) s.slabs_are
    ∙ ap (λ (index : ℕ). Some (with_slabs index sent.part sent.slabs))
    (sym s.index_is))

-- each part that is sent has the facts of one
pub PartSent-all_sent : (decls : List Decl) (clauses : List Clause) (sent : Sent)
    → Has (all_sent decls clauses).sent sent → PartSent decls clauses sent
unfolding all_sent
PartSent-all_sent decls clauses sent has =
    let s = Source-flat_map (sent_of clauses) (enumerate_from 0 decls) sent has in
    let t = SentOf-sent_of clauses s.item sent s.gives in
    let numbered = slice_get-numbered 0 decls s.item s.has in
    let index : sent.decl ≡ numbered.0 = omega (arith, t.index_is, numbered.1) in
    record {
      decl = s.item.1;
      decl_is = ap (slice_get decls) index
          ∙ numbered.2;
      within = t.within;
      slabs_are = t.slabs_are;
    }

pub Has-all_sent : (decls : List Decl) (clauses : List Clause) (sent : Sent) → PartSent decls clauses sent
    → Has (all_sent decls clauses).sent sent
unfolding all_sent
Has-all_sent decls clauses sent s =
    Has-flat_map (sent_of clauses) (enumerate_from 0 decls) (sent.decl, s.decl) sent
    (subst (λ (index : ℕ). Has (enumerate_from 0 decls) (index, s.decl)) (zero-add sent.decl)
    (Has-numbered 0 decls sent.decl s.decl s.decl_is))
    (Has-sent_of clauses (sent.decl, s.decl) sent
    (record { index_is = refl; within = s.within; slabs_are = s.slabs_are }))

-- what is sent where there is no clause is each part, whole
pub whole_sent : (decls : List Decl) (sent : Sent) → PartSent decls [] sent ↔ IsWhole decls sent
whole_sent decls sent = (
  λ s. record {
    decl = s.decl;
    decl_is = s.decl_is;
    within = s.within;
    slabs_are = same_Some _ _ (sym s.slabs_are ∙ slabs_of-all s.decl sent.part);
  },
  λ s. record {
    decl = s.decl;
    decl_is = s.decl_is;
    within = s.within;
    slabs_are = slabs_of-all s.decl sent.part ∙ ap Some (sym s.slabs_are);
  },
)

-- what is sent for clauses without a fault is each part that some clause names
pub asked_sent : (decls : List Decl) (clauses : List Clause) (sent : Sent) → clauses ≢ [] → AreNamedApart decls
    → Faultless decls [] clauses → PartSent decls clauses sent ↔ IsAsked decls clauses sent
asked_sent decls [] sent some apart none = absurd (some refl)
asked_sent decls (x ∷ clauses) sent some apart none = (
  λ s.
      let t = given-slabs_of x clauses s.decl sent.part sent.slabs s.slabs_are in
      record {
        decl = s.decl;
        clause = t.0;
        decl_is = s.decl_is;
        within = s.within;
        clause_is = contains_from_Has
            (x ∷ clauses) t.0 t.1;
        slabs_are = t.2;
      },
  λ s. record {
    decl = s.decl;
    decl_is = s.decl_is;
    within = s.within;
    slabs_are =
        slabs_of-given decls (x ∷ clauses) s.decl s.clause sent.part sent.slabs apart
        (Has-slice_get decls sent.decl s.decl s.decl_is) s.within none
        (Has-from_contains (x ∷ clauses) s.clause s.clause_is) s.slabs_are;
  },
)

-- parts are sent in the dataset's order
pub AllPairs-all_sent : (decls : List Decl) (clauses : List Clause) → Ordered StandsBefore (all_sent decls clauses).sent
unfolding all_sent sent_of
AllPairs-all_sent decls clauses =
    Ordered-flat_map (λ (p q : ℕ × Decl). p.0 < q.0) StandsBefore (sent_of clauses) (enumerate_from 0 decls)
    (Ordered-numbered 0 decls)
    (λ placed. Ordered-filter_map (λ (i j : ℕ). i < j) StandsBefore
    (λ (part : ℕ). option_map (with_slabs placed.0 part) (slabs_of clauses placed.1 part))
    (range_with_len 0 (length (parts_of placed.1)))
    (Ordered-range 0 (length (parts_of placed.1)))
    (λ i j a b before first second.
    let s = mapped_some (with_slabs placed.0 i) (slabs_of clauses placed.1 i) a first in
    let t = mapped_some (with_slabs placed.0 j) (slabs_of clauses placed.1 j) b second in
    inr (
      sym (ap (λ (x : Sent). x.decl) s.2) ∙ ap (λ (x : Sent). x.decl) t.2,
      omega
          (arith, ap (λ (x : Sent). x.part) s.2, ap (λ (x : Sent). x.part) t.2),
    )))
    (λ p q a b before first second.
    let s = SentOf-sent_of clauses p a first in
    let t = SentOf-sent_of clauses q b second in
    inl (omega (arith, s.index_is, t.index_is)))

-- a clause among some without a fault is sound on the declaration that it names
record SoundAt (decl : Decl) (clause : Clause) : Type 0 where
  earlier : List Clause
  sound : Sound decl earlier clause

sound_at : (decls : List Decl) (earlier clauses : List Clause) (decl : Decl) (clause : Clause) (part : ℕ)
    (slabs : List Slab) → Ordered (λ (a b : Decl). name_of a ≢ name_of b) decls → Has decls decl
    → Faultless decls earlier clauses → Has clauses clause → given_by decl clause part ≡ Some slabs
    → SoundAt decl clause
sound_at decls earlier [] decl clause part slabs apart has none after given = absurd after
sound_at decls earlier (x ∷ clauses) decl clause part slabs apart has none (inl same) given =
    let first = (Faultless-first decls earlier x clauses none).0 in
    let named =
    decl_named-is decls decl x.path apart has
    (picked_if_given decl x part slabs (ap (λ (c : Clause). given_by decl c part) same ∙ given)) in
    subst (SoundAt decl) same (record { earlier = earlier; sound = Sound-from_none decls earlier x decl named first })
sound_at decls earlier (x ∷ clauses) decl clause part slabs apart has none (inr after) given =
    sound_at decls (earlier ++ x ∷ []) clauses decl clause part slabs apart has
    (Faultless-first decls earlier x clauses none).1 after given

-- the slabs of a part that is sent fit it
pub FitsPart-sent : (decls : List Decl) (clauses : List Clause) (sent : Sent) → AreNamedApart decls
    → All IsGridded decls → Faultless decls [] clauses → PartSent decls clauses sent → FitsPart decls sent
FitsPart-sent decls [] sent apart gridded none s =
    let whole = (whole_sent decls sent).0 s in
    record {
      decl = whole.decl;
      decl_is = whole.decl_is;
      fits = subst (AllZip FitsDim (part_dims whole.decl sent.part))
          (sym whole.slabs_are) (whole_slabs-fit (part_dims whole.decl sent.part));
    }
FitsPart-sent decls (x ∷ clauses) sent apart gridded none s =
    let given = given-slabs_of x clauses s.decl sent.part sent.slabs s.slabs_are in
    let has = Has-slice_get decls sent.decl s.decl s.decl_is in
    let at =
    sound_at decls [] (x ∷ clauses) s.decl given.0 sent.part sent.slabs
    (Ordered-from_pairs _ decls apart) has none given.1 given.2 in
    record {
      decl = s.decl;
      decl_is = s.decl_is;
      fits =
          given-fit s.decl at.earlier given.0 sent.part sent.slabs
          (All-contains IsGridded decls s.decl gridded (contains_from_Has decls s.decl has)) s.within at.sound given.2;
    }

-- and they pick an index of each dimension that isn't empty
pub Picks-sent : (decls : List Decl) (clauses : List Clause) (sent : Sent) → AreNamedApart decls
    → All IsGridded decls → Faultless decls [] clauses → (s : PartSent decls clauses sent)
    → AllZip Picks (part_dims s.decl sent.part) sent.slabs
Picks-sent decls [] sent apart gridded none s =
    subst (AllZip Picks (part_dims s.decl sent.part))
    (same_Some _ _ (sym (slabs_of-all s.decl sent.part) ∙ s.slabs_are)) (whole_slabs-pick (part_dims s.decl sent.part))
Picks-sent decls (x ∷ clauses) sent apart gridded none s =
    let given = given-slabs_of x clauses s.decl sent.part sent.slabs s.slabs_are in
    let has = Has-slice_get decls sent.decl s.decl s.decl_is in
    let at =
    sound_at decls [] (x ∷ clauses) s.decl given.0 sent.part sent.slabs
    (Ordered-from_pairs _ decls apart) has none given.1 given.2 in
    given-pick s.decl at.earlier given.0 sent.part sent.slabs
    (All-contains IsGridded decls s.decl gridded (contains_from_Has decls s.decl has)) s.within at.sound given.2
