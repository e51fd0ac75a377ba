-- A header is read exactly: its version, its number of records and its three lists.
use Rattle.std.proofs.Common.{◌≡◌, ℕ, ◌+◌, ◌^◌, ◌≤◌, ◌⊎◌, Bool, true, false, cond, not, ◌||◌, ◌==◌, nat_le, nat_lt, List, [], ◌∷◌, ◌++◌, length, get_or, take, drop, codes, bytes_eq, Ok, Err, refl, sym, ap, ap₂, subst, ◌∙◌, append_assoc, inl, inr, take-append-drop, take-suc, arith}
use Rattle.std.specs.Cmp.Lexicographic.{same_text}
use Rattle.std.proofs.lemmas.Bool.{ltb-false, le-ltb, eqb-true, lt-leb, ne_eqb, not-false, or_cases, or_parts}
use Rattle.nc_model.specs.declared.fault.HeaderFault.{HeaderFault}
use Rattle.nc_model.specs.declared.fault.HeaderFault.TheVariants.{BadMagic, BadVersion, BadCount, Streaming}
use Rattle.nc_model.specs.declared.header.Attr.{Attr}
use Rattle.nc_model.specs.declared.header.Dim.{Dim}
use Rattle.nc_model.specs.declared.header.Header.{Header}
use Rattle.nc_model.specs.declared.header.NcVar.{NcVar}
use Rattle.nc_model.specs.Format.{DIMENSION_TAG, VARIABLE_TAG, ATTRIBUTE_TAG, STREAMING as STREAMING_COUNT}
use Rattle.fm_base.specs.Input.{Input}
use Rattle.nc_model.specs.Reading.{word, list_at, dim_at, attr_at, var_at, version_at, numrecs_at, header_at}
use Rattle.nc_model.specs.Spelling.{SpellsWord, SpellsCount, SpellsList, SpellsDim, SpellsAttr, SpellsVar, SpellsHeader, IsSoundVar, IsSound}
use Rattle.nc_model.proofs.Distinct.{IsFresh, IsOnlyRecord, EachFrom-parts, EachFrom-both, AllByRecursion-from_each, EachFrom-from_all, AreDistinct-from_fresh, fresh-from_AreDistinct, one_record-from_only, only-from_one_record}
use Rattle.fm_base.proofs.Exact.{onto, Then, Such, Exact-located, input, ok_pair, ExactOn, Anything}
use Rattle.nc_model.proofs.Fields.{SpellsCount-from_word, SpellsWord-from_count, Exact-word}
use Rattle.nc_model.proofs.Lists.{EachFrom, Exact-list_at}
use Rattle.nc_model.proofs.Parts.{DimAfter, name_of_dim, name_of_attr, Exact-dim_at, Exact-attrs_at}
use Rattle.nc_model.proofs.Steps.{Through, Tests-pure, ExactBytes, ExactBytes-then, ExactBytes-as, ExactBytes-test, ExactBytes-unless_both}
use Rattle.nc_model.proofs.Vars.{VarAfter, name_of_var, Exact-var_at}
use Rattle.fm_base.specs.Parser.{Outcome, known}

-- `CDF` and a version
pub record SpellsVersion (text : List ℕ) (version : ℕ) : Type 0 where
  pub known : (version ≡ 1) ⊎ (version ≡ 2)
  pub text_is : text ≡ codes "CDF" ++ version ∷ []

pub passes_first : (b : Bool) (d : HeaderFault) (r : Outcome ℕ HeaderFault) (y : ℕ × Input) → cond b (Err d) r ≡ Ok y
    → (b ≡ false) × (r ≡ Ok y)
passes_first true d r y e = absurd cc
passes_first false d r y e = (refl, e)

pub passes_then : (b : Bool) (d : HeaderFault) (r : Outcome ℕ HeaderFault) (y : ℕ × Input) → cond b r (Err d) ≡ Ok y
    → (b ≡ true) × (r ≡ Ok y)
passes_then true d r y e = (refl, e)
passes_then false d r y e = absurd cc

version_known : (n : ℕ) → (n == 1 || n == 2) ≡ true → (n ≡ 1) ⊎ (n ≡ 2)
version_known n e = elim (or_cases (n == 1) (n == 2) e) [
  | inl one ↦ inl (eqb-true n 1 one)
  | inr two ↦ inr (eqb-true n 2 two)
]

version_1 : (at : ℕ) (rest : List ℕ)
    → version_at (input at (codes "CDF" ++ 1 ∷ [] ++ rest)) ≡ Ok (1, input (at + 4) rest)
unfolding version_at
version_1 at rest = rw (le-ltb (length (codes "CDF" ++ 1 ∷ [] ++ rest)) 4 (omega arith))

version_2 : (at : ℕ) (rest : List ℕ)
    → version_at (input at (codes "CDF" ++ 2 ∷ [] ++ rest)) ≡ Ok (2, input (at + 4) rest)
unfolding version_at
version_2 at rest = rw (le-ltb (length (codes "CDF" ++ 2 ∷ [] ++ rest)) 4 (omega arith))

version_again : (at : ℕ) (rest : List ℕ) (n : ℕ) → (n ≡ 1) ⊎ (n ≡ 2)
    → version_at (input at (codes "CDF" ++ n ∷ [] ++ rest)) ≡ Ok (n, input (at + 4) rest)
version_again at rest n (inl one) =
    subst (λ v. version_at (input at (codes "CDF" ++ v ∷ [] ++ rest)) ≡ Ok (v, input (at + 4) rest)) (sym one)
    (version_1 at rest)
version_again at rest n (inr two) =
    subst (λ v. version_at (input at (codes "CDF" ++ v ∷ [] ++ rest)) ≡ Ok (v, input (at + 4) rest)) (sym two)
    (version_2 at rest)

pub Exact-version_at : {Of : List ℕ → Type 0} → ExactOn Of SpellsVersion Anything version_at
unfolding version_at
Exact-version_at = record {
  takes = λ i n j fits e.
      let bytes = i.rest in
      let fourth = get_or bytes 3 0 in
      let magic = passes_first (nat_lt (length bytes) 4 || not (bytes_eq (take 3 bytes) (codes "CDF"))) BadMagic _
      (n, j) e in
      let known = passes_then (fourth == 1 || fourth == 2) (BadVersion fourth) _ (n, j) magic.1 in
      let clear = or_parts _ _ magic.0 in
      let long : 4 ≤ length bytes = ltb-false _ _ clear.0 in
      let begins : take 3 bytes ≡ codes "CDF" = same_text (take 3 bytes) (codes "CDF") (sym (not-false _ clear.1)) in
      let read = ok_pair fourth n (input (i.at + 4) (drop 4 bytes)) j known.1 in
      let text : take 4 bytes ≡ codes "CDF" ++ n ∷ [] = take-suc bytes 3 0 long
      ∙ ap₂ (λ (front : List ℕ) (last : ℕ). front ++ last ∷ []) begins read.0 in
      record {
        text = take 4 bytes;
        spelled = record {
          known = subst (λ v. (v ≡ 1) ⊎ (v ≡ 2)) read.0 (version_known fourth known.0);
          text_is =
              text;
        };
        split = sym (take-append-drop 4 bytes) ∙ ap (λ (k : Input). take 4 bytes ++ k.rest) read.1;
        offset = omega (arith, ap (λ (k : Input). k.at) read.1, ap length text);
      };
  again = λ at text rest n s any. subst
      (λ (l : List ℕ). version_at (input at (l ++ rest)) ≡ Ok (n, input (at + length l) rest)) (sym s.text_is)
      (version_again at rest n s.known);
}

pub Exact-numrecs_at : ExactBytes SpellsCount numrecs_at
unfolding numrecs_at
Exact-numrecs_at = ExactBytes-as
    (Such SpellsWord (λ n. ((n == STREAMING_COUNT) ≡ false) × (nat_le (2 ^ 31) n ≡ false))) SpellsCount numrecs_at
    (λ text n fits s. SpellsCount-from_word text n s.spelled s.holds.1)
    (λ text n s. record {
      spelled = SpellsWord-from_count text n s;
      holds =
          (ne_eqb n STREAMING_COUNT (λ e. let h = s.small in omega arith), lt-leb (2 ^ 31) n s.small);
    })
    (Exact-located (λ at. ExactBytes-unless_both SpellsWord (λ n. n == STREAMING_COUNT)
    (λ n. nat_le (2 ^ 31) n) Streaming (BadCount at) word Exact-word))

abbrev pub header_of : ℕ → ℕ → List Dim → List Attr → List NcVar → Header
header_of version numrecs dims attrs vars =
    record { version = version; numrecs = numrecs; dims = dims; attrs = attrs; vars = vars }

abbrev HeaderAsRead : List ℕ → Header → Type 0
HeaderAsRead =
    Then SpellsVersion
    (λ version. Then SpellsCount
    (λ numrecs. Then (Such (SpellsList DIMENSION_TAG SpellsDim) (EachFrom DimAfter []))
    (λ dims. Then (Such (SpellsList ATTRIBUTE_TAG SpellsAttr) (EachFrom (IsFresh name_of_attr) []))
    (λ attrs. Through (Such (SpellsList VARIABLE_TAG (SpellsVar version)) (EachFrom (VarAfter dims) []))
    (λ vars header. header_of version numrecs dims attrs vars ≡ header)))))

header_spelled : (text : List ℕ) (header : Header) → HeaderAsRead text header → Such SpellsHeader IsSound text header
header_spelled text header s =
    let counted = s.second in
    let sized = counted.second in
    let noted = sized.second in
    let listed = noted.second in
    let dims = EachFrom-parts (IsFresh name_of_dim) IsOnlyRecord [] sized.a sized.first.holds in
    let vars = EachFrom-parts (IsFresh name_of_var)
    (λ found var. IsSoundVar sized.a var) [] listed.x listed.spelled.holds in
    subst (Such SpellsHeader IsSound text) listed.related (record {
      spelled = record {
        numrecs_text = counted.front;
        dims_text = sized.front;
        attrs_text = noted.front;
        vars_text = noted.back;
        version = s.first.known;
        numrecs = counted.first;
        dims = sized.first.spelled;
        attrs = noted.first.spelled;
        vars = listed.spelled.spelled;
        text_is = simp append_assoc (s.text_is ∙ ap₂ (λ (a b : List ℕ). a ++ b) s.first.text_is
            (counted.text_is ∙ onto counted.front (sized.text_is ∙ onto sized.front noted.text_is)));
      };
      holds = record {
        dims = AreDistinct-from_fresh name_of_dim sized.a dims.0;
        one_record = one_record-from_only sized.a dims.1;
        attrs = AreDistinct-from_fresh name_of_attr noted.a noted.first.holds;
        vars = AreDistinct-from_fresh name_of_var listed.x vars.0;
        each = AllByRecursion-from_each (IsSoundVar sized.a) [] listed.x vars.1;
      };
    })

header_read : (text : List ℕ) (header : Header) → Such SpellsHeader IsSound text header → HeaderAsRead text header
header_read text header s =
    let t = s.spelled in
    let sound = s.holds in
    let fresh_dims = fresh-from_AreDistinct name_of_dim header.dims sound.dims in
    let fresh_vars = fresh-from_AreDistinct name_of_var header.vars sound.vars in
    record {
      a = header.version;
      front = codes "CDF" ++ header.version ∷ [];
      back = t.numrecs_text ++ (t.dims_text ++ (t.attrs_text ++ t.vars_text));
      first = record { known = t.version; text_is = refl };
      second = record {
        a = header.numrecs;
        front = t.numrecs_text;
        back = t.dims_text ++ (t.attrs_text ++ t.vars_text);
        first = t.numrecs;
        second = record {
          a = header.dims;
          front = t.dims_text;
          back = t.attrs_text ++ t.vars_text;
          first = record {
            spelled = t.dims;
            holds =
                EachFrom-both _ _ [] header.dims fresh_dims (only-from_one_record header.dims sound.one_record);
          };
          second = record {
            a = header.attrs;
            front = t.attrs_text;
            back = t.vars_text;
            first = record { spelled = t.attrs; holds = fresh-from_AreDistinct name_of_attr header.attrs sound.attrs };
            second = record {
              x = header.vars;
              spelled = record {
                spelled = t.vars;
                holds =
                    EachFrom-both _ _ [] header.vars fresh_vars
                    (EachFrom-from_all (IsSoundVar header.dims) [] header.vars sound.each);
              };
              related = refl;
            };
            text_is = refl;
          };
          text_is = refl;
        };
        text_is = refl;
      };
      text_is = simp append_assoc at t.text_is;
    }

pub Exact-dims_at : ExactBytes (Such (SpellsList DIMENSION_TAG SpellsDim) (EachFrom DimAfter []))
    (list_at DIMENSION_TAG dim_at)
Exact-dims_at = Exact-list_at DIMENSION_TAG SpellsDim DimAfter dim_at (omega arith) (omega arith) Exact-dim_at

pub Exact-vars_at : (version : ℕ) → (version ≡ 1) ⊎ (version ≡ 2) → (dims : List Dim)
    → ExactBytes (Such (SpellsList VARIABLE_TAG (SpellsVar version)) (EachFrom (VarAfter dims) []))
    (list_at VARIABLE_TAG (var_at version dims))
Exact-vars_at version known dims =
    Exact-list_at VARIABLE_TAG _ (VarAfter dims) (var_at version dims) (omega arith) (omega arith)
    (Exact-var_at version known dims)

pub Exact-header_at : ExactBytes (Such SpellsHeader IsSound) header_at
unfolding header_at
Exact-header_at = ExactBytes-as HeaderAsRead (Such SpellsHeader IsSound) header_at
    (λ text header fits s. header_spelled text header s) header_read
    (ExactBytes-then SpellsVersion _ version_at _ Exact-version_at
    (λ version front first. ExactBytes-then SpellsCount _ numrecs_at _ Exact-numrecs_at
    (λ numrecs front second. ExactBytes-then _ _ (list_at DIMENSION_TAG dim_at) _ Exact-dims_at
    (λ dims front third. ExactBytes-then _ _ (list_at ATTRIBUTE_TAG attr_at) _ Exact-attrs_at
    (λ attrs front fourth. ExactBytes-test _ _ (list_at VARIABLE_TAG (var_at version dims)) _
    (Exact-vars_at version first.known dims) (Tests-pure (header_of version numrecs dims attrs)))))))
