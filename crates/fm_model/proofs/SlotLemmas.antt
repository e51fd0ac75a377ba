-- The slots of a file that was taken.
use Rattle.std.proofs.Common.{◌≡◌, ◌≢◌, ℕ, suc, Bool, true, false, cond, not, ◌&&◌, ◌||◌, List, [], ◌∷◌, ◌++◌, drop, length, Result, Ok, refl, sym, ap, ap₂, subst, ◌∙◌}
use Rattle.std.specs.Prelude.{All, IsTrue, filter}
use Rattle.std.specs.List.{AllZip}
use Rattle.std.specs.Str.{bytes_eq}
use Rattle.std.proofs.lemmas.Bool.{and_parts, false≢true, not-false}
use Rattle.std.proofs.lemmas.List.{append-nil, append_assoc}
use Rattle.std.proofs.lemmas.Slice.Eq.{bytes_eq-Decides}
use Rattle.nc_model.specs.declared.header.Header.{Header as FileHeader}
use Rattle.nc_model.specs.declared.header.NcVar.{NcVar}
use Rattle.nc_model.specs.Layout.{shape_of}
use Rattle.fm_model.specs.declared.loaded.Loaded.{Loaded}
use Rattle.fm_model.specs.declared.loaded.LoadFault.{LoadFault}
use Rattle.fm_model.specs.declared.loaded.LoadFault.TheVariants.{VariableDiffers}
use Rattle.fm_model.specs.declared.loaded.Slot.{Slot}
use Rattle.fm_model.specs.declared.proto.Proto.{Proto}
use Rattle.fm_model.specs.declared.proto.ProtoVar.{ProtoVar}
use Rattle.fm_base.specs.Chain.{◌>>=◌, ◌>>◌, refuse_if}
use Rattle.fm_model.specs.Load.{Fits}
use Rattle.fm_model.specs.LoadAxis.{file_header, file_axis, file_var}
use Rattle.fm_model.specs.LoadVars.{lengths_of, is_like_timed, slot_in, file_slot, same_grid, is_compared, slots_after, steps_from, file_slots, slotted_vars, IsSlotOf}
use Rattle.fm_model.specs.Packing.{same_packing, HaveSamePacking}
use Rattle.fm_model.specs.Variable.{are_same, dim_of_axis, is_coordinate, is_same_kind, stands_first_alone}
use Rattle.fm_base.proofs.ChainLemmas.{step_ok, refuse_if_ok, check_ok, same_Ok}
use Rattle.fm_model.proofs.LoadLemmas.{IsTaken, IsTaken-load_of}
use Rattle.fm_model.proofs.Members.{Each, Each-in, Each-from_in, All-from_each, In-filter}
use Rattle.fm_model.proofs.GridLemmas.{IsGridBegun, IsGridBegun-same_grid, same_kind}
use Rattle.fm_model.proofs.PackingLemmas.{HaveSamePacking-same_packing}

-- a slot that was found is that of its variable
IsSlotOf-file_slot : (proto : Proto) (header : FileHeader) (axis : NcVar) (wanted : ProtoVar) (slot : Slot)
    → file_slot proto header axis wanted ≡ Ok slot → IsSlotOf proto header axis wanted slot
unfolding file_slot is_like_timed
IsSlotOf-file_slot proto header axis wanted slot e =
    let var = step_ok (file_var header wanted.name)
    (λ v. refuse_if (not (is_like_timed proto header axis wanted v)) (VariableDiffers wanted.name)
    >> (same_packing wanted v >> Ok (slot_in header axis v))) slot e in
    let passed = refuse_if_ok (not (is_like_timed proto header axis wanted var.0)) (VariableDiffers wanted.name)
    (same_packing wanted var.0 >> Ok (slot_in header axis var.0)) slot var.2 in
    let packed = check_ok (same_packing wanted var.0) (Ok (slot_in header axis var.0)) slot passed.1 in
    let kind : Bool = is_same_kind wanted.kind var.0.kind in
    let along : Bool = stands_first_alone (dim_of_axis axis) var.0.dims in
    let lengths : Bool = are_same (drop 1 (lengths_of proto wanted.dims)) (drop 1 (shape_of header var.0)) in
    let like = and_parts (kind && along) lengths (not-false _ passed.0) in
    let both = and_parts kind along like.0 in
    record {
      var = var.0;
      named = var.1;
      kind_is = same_kind wanted.kind var.0.kind both.0;
      along = both.1;
      lengths = sym ((bytes_eq-Decides (drop 1 (lengths_of proto wanted.dims))
          (drop 1 (shape_of header var.0))).0 like.1);
      packing = HaveSamePacking-same_packing wanted var.0 packed.0;
      slot_is = sym (same_Ok {E = LoadFault} (slot_in header axis var.0) slot packed.1);
    }

AllZip-push : {A B : Type 0} (R : A → B → Type 0) (as' : List A) (bs : List B) (a : A) (b : B) → AllZip R as' bs → R a b
    → AllZip R (as' ++ a ∷ []) (bs ++ b ∷ [])
AllZip-push R [] [] a b zip r = (r, tt)
AllZip-push R [] (y ∷ bs) a b zip r = absurd zip
AllZip-push R (x ∷ as') [] a b zip r = absurd zip
AllZip-push R (x ∷ as') (y ∷ bs) a b zip r = (zip.0, AllZip-push R as' bs a b zip.1 r)

length-AllZip : {A B : Type 0} (R : A → B → Type 0) (as' : List A) (bs : List B) → AllZip R as' bs
    → length as' ≡ length bs
length-AllZip R [] [] zip = refl
length-AllZip R [] (y ∷ bs) zip = absurd zip
length-AllZip R (x ∷ as') [] zip = absurd zip
length-AllZip R (x ∷ as') (y ∷ bs) zip = ap suc (length-AllZip R as' bs zip.1)

-- what one more variable adds
pub record IsNextVar (proto : Proto) (bytes : List ℕ) (header : FileHeader) (axis : NcVar) (found : List Slot)
    (wanted : ProtoVar) (next : List Slot) : Type 0 where
  pub slot : wanted.timed ≡ true → (s : Slot) × IsSlotOf proto header axis wanted s × (next ≡ found ++ s ∷ [])
  pub grid : wanted.timed ≡ false → IsGridBegun proto bytes header wanted × (next ≡ found)

IsNextVar-slots_after : (proto : Proto) (bytes : List ℕ) (header : FileHeader) (axis : NcVar) (found : List Slot)
    (wanted : ProtoVar) (next : List Slot) → slots_after proto bytes header axis found wanted ≡ Ok next
    → IsNextVar proto bytes header axis found wanted next
unfolding slots_after
IsNextVar-slots_after proto bytes header axis found wanted next e = by_kind wanted.timed refl e
  where
    by_kind : (timed : Bool) → wanted.timed ≡ timed
        → cond timed (file_slot proto header axis wanted >>= λ slot. Ok (found ++ slot ∷ []))
        (same_grid proto bytes header wanted >> Ok found) ≡ Ok next
        → IsNextVar proto bytes header axis found wanted next
    by_kind true is e =
        let slot = step_ok (file_slot proto header axis wanted) (λ s. Ok (found ++ s ∷ [])) next e in
        record {
          slot = λ _. (
            slot.0,
            IsSlotOf-file_slot proto header axis wanted slot.0 slot.1,
            sym (same_Ok {E = LoadFault} (found ++ slot.0 ∷ []) next slot.2),
          );
          grid = λ no. absurd (false≢true (sym no ∙ is));
        }
    by_kind false is e =
        let checked = check_ok (same_grid proto bytes header wanted) (Ok found) next e in
        record {
          slot = λ yes'. absurd (false≢true (sym is ∙ yes'));
          grid = λ _. (
            IsGridBegun-same_grid proto bytes header wanted checked.0,
            sym (same_Ok {E = LoadFault} found next checked.1),
          );
        }

-- one step and the others
steps_more : {A S E : Type 0} (step : S → A → Result S E) (item : A) (items : List A) (found all : S)
    → steps_from step (item ∷ items) found ≡ Ok all
    → (next : S) × (step found item ≡ Ok next) × (steps_from step items next ≡ Ok all)
unfolding steps_from
steps_more step item items found all e = step_ok (step found item) (λ next. steps_from step items next) all e

steps_done : {A S E : Type 0} (step : S → A → Result S E) (found all : S) → steps_from step [] found ≡ Ok all
    → found ≡ all
unfolding steps_from
steps_done {E} step found all e = same_Ok {E = E} found all e

abbrev is_timed : ProtoVar → Bool
is_timed wanted = wanted.timed

-- the slots that were found after some variables are those of the ones along the axis
slots_zip : (proto : Proto) (bytes : List ℕ) (header : FileHeader) (axis : NcVar) (done wanteds : List ProtoVar)
    (found all : List Slot) → AllZip (IsSlotOf proto header axis) done found
    → steps_from (slots_after proto bytes header axis) wanteds found ≡ Ok all
    → AllZip (IsSlotOf proto header axis) (done ++ filter is_timed wanteds) all
slots_zip proto bytes header axis done [] found all zip e =
    subst (λ l. AllZip (IsSlotOf proto header axis) l all) (sym (append-nil done))
    (subst (AllZip (IsSlotOf proto header axis) done)
    (steps_done (slots_after proto bytes header axis) found all e) zip)
slots_zip proto bytes header axis done (wanted ∷ wanteds) found all zip e =
    let next = steps_more (slots_after proto bytes header axis) wanted wanteds found all e in
    let is = IsNextVar-slots_after proto bytes header axis found wanted next.0 next.1 in
    by_kind wanted.timed refl next.0 is next.2
    (slots_zip proto bytes header axis (done ++ wanted ∷ []) wanteds next.0 all)
    (slots_zip proto bytes header axis done wanteds next.0 all)
  where
    by_kind : (timed : Bool) → wanted.timed ≡ timed → (next : List Slot)
        → IsNextVar proto bytes header axis found wanted next
        → steps_from (slots_after proto bytes header axis) wanteds next ≡ Ok all
        → (AllZip (IsSlotOf proto header axis) (done ++ wanted ∷ []) next → steps_from
        (slots_after proto bytes header axis) wanteds next ≡ Ok all
        → AllZip (IsSlotOf proto header axis) (done ++ wanted ∷ [] ++ filter is_timed wanteds) all)
        → (AllZip (IsSlotOf proto header axis) done next → steps_from (slots_after proto bytes header axis) wanteds next
        ≡ Ok all → AllZip (IsSlotOf proto header axis) (done ++ filter is_timed wanteds) all)
        → AllZip (IsSlotOf proto header axis)
        (done ++ cond timed (wanted ∷ filter is_timed wanteds) (filter is_timed wanteds)) all
    by_kind true is next var e with_slot without_slot =
        let slot = var.slot is in
        subst (λ l. AllZip (IsSlotOf proto header axis) l all)
        (append_assoc done (wanted ∷ []) (filter is_timed wanteds))
        (with_slot (subst (AllZip (IsSlotOf proto header axis) (done ++ wanted ∷ [])) (sym slot.2)
        (AllZip-push (IsSlotOf proto header axis) done found wanted slot.0 zip slot.1)) e)
    by_kind false is next var e with_slot without_slot =
        without_slot (subst (AllZip (IsSlotOf proto header axis) done) (sym (var.grid is).1) zip) e

-- each variable that doesn't lie along the axis has elements that begin with the prototype's
grids : (proto : Proto) (bytes : List ℕ) (header : FileHeader) (axis : NcVar) (wanteds : List ProtoVar)
    (found all : List Slot) → steps_from (slots_after proto bytes header axis) wanteds found ≡ Ok all
    → Each (λ (wanted : ProtoVar). wanted.timed ≡ false → IsGridBegun proto bytes header wanted) wanteds
grids proto bytes header axis [] found all e = tt
grids proto bytes header axis (wanted ∷ wanteds) found all e =
    let next = steps_more (slots_after proto bytes header axis) wanted wanteds found all e in
    let is = IsNextVar-slots_after proto bytes header axis found wanted next.0 next.1 in
    (λ no. (is.grid no).0, grids proto bytes header axis wanteds next.0 all next.2)

-- two passes in one
filter-both : {A : Type 0} (p q r : A → Bool) → ((x : A) → (q x && p x) ≡ r x) → (items : List A)
    → filter p (filter q items) ≡ filter r items
filter-both p q r both [] = refl
filter-both {A} p q r both (item ∷ items) = by_tests (q item) refl (p item) refl (filter-both p q r both items)
  where
    by_tests : (b : Bool) → q item ≡ b → (c : Bool) → p item ≡ c → filter p (filter q items) ≡ filter r items
        → filter p (cond b (item ∷ filter q items) (filter q items)) ≡ filter r (item ∷ items)
    by_tests true is true at others = let passes : r item ≡ true = sym (both item)
        ∙ ap₂ (λ x y. x && y) is at in rw (at, passes) (ap (λ l. item ∷ l) others)
    by_tests true is false at others = let fails : r item ≡ false = sym (both item)
        ∙ ap₂ (λ x y. x && y) is at in rw (at, fails) others
    by_tests false is c at others = let fails : r item ≡ false = sym (both item)
        ∙ ap (λ x. x && p item) is in rw fails others

slotted_are_compared : (proto : Proto) → filter is_timed (filter (is_compared proto) proto.vars) ≡ slotted_vars proto
unfolding is_compared slotted_vars
slotted_are_compared proto = filter-both is_timed (is_compared proto)
    (λ (w : ProtoVar). w.timed && not (bytes_eq w.name proto.axis))
    (λ w. same (bytes_eq w.name proto.axis) w.timed (is_coordinate proto.dims w.name w.kind w.dims)) proto.vars
  where
    same : (axis timed coordinate : Bool) → ((not axis && (timed || coordinate)) && timed) ≡ (timed && not axis)
    same true true c = refl
    same true false c = refl
    same false true c = refl
    same false false true = refl
    same false false false = refl

slots_taken : (file : Loaded) (proto : Proto) (t : IsTaken file.name file.content proto file)
    → AllZip (IsSlotOf proto t.header t.axis) (slotted_vars proto) file.slots
unfolding file_slots
slots_taken file proto t =
    subst (λ l. AllZip (IsSlotOf proto t.header t.axis) l file.slots) (slotted_are_compared proto)
    (slots_zip proto file.content t.header t.axis []
    (filter (is_compared proto) proto.vars) [] file.slots tt t.slots_is)

-- a file that fits has a slot for each variable along the axis
pub slots_count : (file : Loaded) (proto : Proto) → Fits file proto → length file.slots ≡ length (slotted_vars proto)
slots_count file proto fits =
    let t = IsTaken-load_of file.name file.content proto file fits in
    sym (length-AllZip (IsSlotOf proto t.header t.axis) (slotted_vars proto) file.slots (slots_taken file proto t))

-- each slot of a file that fits is that of its variable
pub slots_each : (file : Loaded) (proto : Proto) (header : FileHeader) (axis : NcVar) → Fits file proto
    → file_header file.content ≡ Ok header → file_axis proto header ≡ Ok axis
    → AllZip (IsSlotOf proto header axis) (slotted_vars proto) file.slots
slots_each file proto header axis fits e d =
    let t = IsTaken-load_of file.name file.content proto file fits in
    let h : t.header ≡ header = same_Ok {E = LoadFault} t.header header (sym t.header_is ∙ e) in
    let a : t.axis ≡ axis = same_Ok {E = LoadFault} t.axis axis (sym t.axis_is ∙ ap (file_axis proto) h ∙ d) in
    subst (λ x. AllZip (IsSlotOf proto x axis) (slotted_vars proto) file.slots) h
    (subst (λ y. AllZip (IsSlotOf proto t.header y) (slotted_vars proto) file.slots) a (slots_taken file proto t))

-- what holds of each item that is related to another
each_of_zip : {A B : Type 0} (R : A → B → Type 0) (P : A → Type 0) → ((a : A) (b : B) → R a b → P a)
    → (as' : List A) (bs : List B) → AllZip R as' bs → Each P as'
each_of_zip R P of [] bs zip = tt
each_of_zip R P of (a ∷ as') [] zip = absurd zip
each_of_zip R P of (a ∷ as') (b ∷ bs) zip = (of a b zip.0, each_of_zip R P of as' bs zip.1)

-- the numbers of a file that fits are read as the prototype's
pub slots_packed : (file : Loaded) (proto : Proto) (header : FileHeader) → Fits file proto
    → file_header file.content ≡ Ok header
    → All (λ (wanted : ProtoVar). (var : NcVar) → file_var header wanted.name ≡ Ok var
    → HaveSamePacking wanted.attrs var.attrs) (slotted_vars proto)
slots_packed file proto header fits e =
    let t = IsTaken-load_of file.name file.content proto file fits in
    let Packed : ProtoVar → Type 0 = λ (wanted : ProtoVar). (var : NcVar) → file_var header wanted.name ≡ Ok var
    → HaveSamePacking wanted.attrs var.attrs in
    All-from_each Packed (slotted_vars proto) (each_of_zip (IsSlotOf proto header t.axis) Packed
    (λ wanted slot is var named. subst (λ (v : NcVar). HaveSamePacking wanted.attrs v.attrs)
    (same_Ok {E = LoadFault} is.var var (sym is.named ∙ named)) is.packing)
    (slotted_vars proto) file.slots
    (slots_each file proto header t.axis fits e
    (ap (λ h. file_axis proto h) (same_Ok {E = LoadFault} header t.header (sym e ∙ t.header_is)) ∙ t.axis_is)))

-- a coordinate variable but for the axis is compared
compared : (proto : Proto) (wanted : ProtoVar) → wanted.name ≢ proto.axis
    → IsTrue (is_coordinate proto.dims wanted.name wanted.kind wanted.dims) → is_compared proto wanted ≡ true
unfolding is_compared
compared proto wanted other coordinate = by_name (bytes_eq wanted.name proto.axis) refl
  where
    or_true : (b : Bool) → (b || true) ≡ true
    or_true true = refl
    or_true false = refl

    by_name : (b : Bool) → bytes_eq wanted.name proto.axis ≡ b
        → (not b && (wanted.timed || is_coordinate proto.dims wanted.name wanted.kind wanted.dims)) ≡ true
    by_name true is = absurd (other ((bytes_eq-Decides wanted.name proto.axis).0 is))
    by_name false is = rw coordinate (or_true wanted.timed)

pub begun_grids : (file : Loaded) (proto : Proto) (header : FileHeader) → Fits file proto
    → file_header file.content ≡ Ok header
    → All (λ (wanted : ProtoVar). wanted.name ≢ proto.axis → wanted.timed ≡ false → IsTrue
    (is_coordinate proto.dims wanted.name wanted.kind wanted.dims)
    → IsGridBegun proto file.content header wanted) proto.vars
unfolding file_slots
begun_grids file proto header fits e =
    let t = IsTaken-load_of file.name file.content proto file fits in
    let h : t.header ≡ header = same_Ok {E = LoadFault} t.header header (sym t.header_is ∙ e) in
    let each = grids proto file.content t.header t.axis
    (filter (is_compared proto) proto.vars) [] file.slots t.slots_is in
    let Same : ProtoVar → Type 0 = λ (w : ProtoVar). w.name ≢ proto.axis → w.timed ≡ false
    → IsTrue (is_coordinate proto.dims w.name w.kind w.dims) → IsGridBegun proto file.content header w in
    All-from_each Same proto.vars (Each-from_in Same proto.vars (λ wanted held other untimed coordinate.
    subst (λ x. IsGridBegun proto file.content x wanted) h
    (Each-in (λ (w : ProtoVar). w.timed ≡ false → IsGridBegun proto file.content t.header w) wanted
    (filter (is_compared proto) proto.vars) each
    (In-filter (is_compared proto) wanted proto.vars held (compared proto wanted other coordinate)) untimed)))
