-- The body of a data reply spells its message.
use Rattle.std.proofs.Common.{◌≡◌, ℕ, ◌<◌, ◌^◌, List, ◌++◌, length, All, Option, Some, None, Ok, refl, sym, ap, subst, ◌∙◌, arith}
use Rattle.std.specs.Prelude.{slice_get, option_and_then}
use Rattle.std.specs.List.{flat_map, AllZip}
use Rattle.std.proofs.lemmas.List.{length-append}
use Rattle.std.proofs.lemmas.Option.{none-some}
use Rattle.nc_model.specs.Format.{IsBytes}
use Rattle.fm_model.specs.declared.loaded.Loaded.{Loaded}
use Rattle.fm_model.specs.declared.row.Row.{Row}
use Rattle.fm_model.specs.Prototype.{IsSound}
use Rattle.fm_model.specs.Rows.{rows}
use Rattle.fm_model.proofs.CellLemmas.{in_from_slice_get}
use Rattle.fm_model.proofs.Members.{each_from_All, in_from_Contains, Contains-from_in, Each, Each-from_in, Each-in, In}
use Rattle.fm_model.proofs.ProtoLemmas.{IsSound-given}
use Rattle.fm_model.proofs.RowLemmas.{HasHeldFile-rows}
use Rattle.fm_edition.specs.Held.{Held}
use Rattle.fm_dataset.specs.Declarations.{decls_of}
use Rattle.fm_dataset.specs.Rows.{AreRows}
use Rattle.fm_dataset.specs.Values.{array_at, Shown}
use Rattle.fm_dataset.proofs.RowLemmas.{instants}
use Rattle.fm_views.proofs.RowFacts.{are_rows}
use Rattle.dap_model.specs.declared.declaration.Array.{Array}
use Rattle.dap_model.specs.declared.declaration.Decl.{Decl}
use Rattle.dap_model.specs.declared.projection.Projected.{Projected}
use Rattle.dap_model.specs.Picking.{parts_of}
use Rattle.dap_model.specs.ProjectionFacts.{AreNamedApart, IsGridded}
use Rattle.dap_model.proofs.ProjectionAcceptLemmas.{Accepted, Accepted-projection_of}
use Rattle.dap_xdr.specs.Content.{array_in, data_of, Content}
use Rattle.dap_xdr.specs.Datasets.{content_of}
use Rattle.dap_plan.specs.Parts.{bytes_of, data_behind}
use Rattle.dap_client.specs.DataReading.{message_or_fault}
use Rattle.dap_client.specs.Message.{message_text, IsArray, IsMessage}
use Rattle.dap_client.proofs.MessageLaws.{read_of_spelled}
use Rattle.web_frame.specs.Items.{Item}
use Rattle.web_path.specs.declared.target.Service.TheVariants.{Dods}
use Rattle.web_path.specs.declared.target.Target.{Target}
use Rattle.dap_reply.specs.declared.body.Body.{Body}
use Rattle.dap_reply.specs.declared.status.Status.TheVariants.{Fine}
use Rattle.dap_reply.specs.Asked.{shown_of}
use Rattle.dap_reply.specs.Body.{before_data, structure_of}
use Rattle.dap_reply.specs.Reply.{answer_to, target_wanted}
use Rattle.dap_reply.proofs.MapLemmas.{gridded}
use Rattle.dap_reply.proofs.NameLemmas.{named-apart}
use Rattle.reply_laws.specs.DataMessage.{message_sent, IsOfBytes, SaysData}
use Rattle.reply_laws.proofs.AskedLemmas.{answered-data, HasData}
use Rattle.reply_laws.proofs.ByteLemmas.{bits_fit, fixed_bytes, text_bytes, ShowsBytes}
use Rattle.reply_laws.proofs.ColumnLemmas.{columns_are, HasValues}
use Rattle.reply_laws.proofs.CutLemmas.{arrays_are}
use Rattle.reply_laws.proofs.DeclLemmas.{decls_are, shapes_sent, IsShaped}
use Rattle.reply_laws.proofs.NameLemmas.{has_names, HasNames}
use Rattle.reply_laws.proofs.SentLemmas.{parts_sent}
use Rattle.reply_laws.proofs.ShapeLemmas.{declared, IsDeclared}
use Rattle.reply_laws.proofs.TargetLemmas.{wanted_label}
use Rattle.reply_laws.proofs.TextLemmas.{columns-data, HasPart}
use Rattle.reply_laws.proofs.WholeLemmas.{whole_parts, IsWhole}

same_array : (shown : Shown) (decl part : ℕ)
    → array_in (content_of shown).decls decl part ≡ array_at shown decl part
unfolding array_in array_at
same_array shown decl part = refl

-- what an edition shows to a target, its declarations and its values
abbrev shown : Held → Target → Shown
shown held target = shown_of held.proto held.files target

abbrev decls_shown : Held → Target → List Decl
decls_shown held target = decls_of held.proto (length (rows held.files target.view))

abbrev content_shown : Held → Target → Content
content_shown held target = content_of (shown held target)

module _ (held : Held) (of : IsOfBytes held) (target : Target) (body : Body)
    (asked : HasData held.proto held.files target body) where
  sound : IsSound held.proto
  sound = IsSound-given held.proto of.edition.prototype

  names : HasNames held.proto
  names = has_names held.proto of.edition.prototype of.bytes_are

  rows_are : AreRows held.proto (rows held.files target.view)
  rows_are = are_rows held target.view of.edition asked.some

  apart : AreNamedApart (decls_shown held target)
  apart = named-apart held.proto (length (rows held.files target.view)) sound

  along : All IsGridded (decls_shown held target)
  along = gridded held.proto (length (rows held.files target.view)) sound

  accepted : Accepted (decls_shown held target) asked.clauses asked.projected
  accepted = Accepted-projection_of _ asked.clauses asked.projected asked.asked.projected_is

  -- what is sent is cut from parts that are there
  parts : AllZip (HasPart (decls_shown held target))
      (flat_map parts_of asked.projected.decls) asked.projected.sent
  parts = subst (λ (p : Projected). AllZip (HasPart (decls_shown held target))
      (flat_map parts_of p.decls) p.sent) accepted.all (parts_sent _ asked.clauses apart along accepted.faultless)

  -- the bytes of the body are a text and the data of what is sent
  bytes_are : bytes_of body.bytes ≡ before_data target asked.projected
      ++ data_of (content_shown held target) asked.projected.sent
  unfolding bytes_of data_behind
  bytes_are = ap (λ (b : Body). bytes_of b.bytes) asked.body_is

  text_is : bytes_of body.bytes
      ≡ message_text (message_sent (shown held target) target asked.projected)
  unfolding message_text structure_of
  text_is = bytes_are ∙ ap (λ (l : List ℕ). before_data target asked.projected ++ l)
      (sym (columns-data (content_shown held target)
      (flat_map parts_of asked.projected.decls) asked.projected.sent parts))

  few : length (data_of (content_shown held target) asked.projected.sent) < 2 ^ 32
  few = omega (
    arith,
    asked.few,
    ap length bytes_are,
    length-append (before_data target asked.projected)
        (data_of (content_shown held target) asked.projected.sent),
  )

  shows : ShowsBytes (shown held target)
  shows = record {
    fixed = fixed_bytes held.proto of.edition.prototype of.bytes_are;
    contents = Each-from_in (λ (row : Row). IsBytes row.file.content) (rows held.files target.view) (λ row there.
        let has = HasHeldFile-rows held.files target.view row
        (Contains-from_in row (rows held.files target.view) there) in
        Each-in (λ (file : Loaded). IsBytes file.content) row.file held.files
        (each_from_All (λ (file : Loaded). IsBytes file.content) held.files of.contents)
        (in_from_Contains row.file held.files has.held));
    instants = instants held.proto (rows held.files target.view) sound rows_are;
  }

  values : HasValues (content_shown held target)
  values = record {
    bits = λ decl part array index there number.
        bits_fit (shown held target) shows decl part array index
        (sym (same_array (shown held target) decl part) ∙ there) number;
    texts = text_bytes (shown held target) shows;
  }

  whole : (decl part : ℕ) (array : Array)
      → array_in (decls_shown held target) decl part ≡ Some array
      → IsWhole array
  unfolding array_in
  whole decl part array there =
      by_decl (slice_get (decls_shown held target) decl) refl there
    where
      by_decl : (o : Option Decl)
          → slice_get (decls_shown held target) decl ≡ o
          → option_and_then (λ (found : Decl). slice_get (parts_of found) part) o ≡ Some array → IsWhole array
      by_decl None is found = absurd (none-some array found)
      by_decl (Some one) is found =
          Each-in IsWhole array (parts_of one)
          (whole_parts held.proto (length (rows held.files target.view)) sound names rows_are.some one
          (in_from_slice_get (decls_shown held target) decl one is))
          (in_from_slice_get (parts_of one) part array found)

  arrays : Each IsArray (flat_map parts_of asked.projected.decls)
  arrays = arrays_are (content_shown held target) whole
      (flat_map parts_of asked.projected.decls) asked.projected.sent parts few

  each_declared : (decl : Decl) → In decl (decls_shown held target)
      → IsDeclared decl
  each_declared decl there = declared held.proto (length (rows held.files target.view)) sound names decl there
      (Each-in IsGridded decl _ (each_from_All IsGridded _ along) there)

  -- the message of the body is one
  sound_message : (item : Item) → target_wanted held.proto.site item ≡ Ok target
      → IsMessage (message_sent (shown held target) target asked.projected)
  sound_message item wanted = record {
    label = wanted_label held.proto.site of.edition.prototype.at item target wanted;
    decls = decls_are asked.projected.decls arrays
        (subst (λ (p : Projected). Each IsShaped p.decls) accepted.all
        (shapes_sent _ asked.clauses apart along accepted.faultless each_declared));
    columns = columns_are (content_shown held target) values
        (flat_map parts_of asked.projected.decls) asked.projected.sent parts few;
  }

  says_data : (item : Item) → target_wanted held.proto.site item ≡ Ok target → SaysData held target body
  says_data item wanted = record {
    clauses = asked.clauses;
    projected = asked.projected;
    asked = asked.asked;
    spelled = record { sound = sound_message item wanted; text_is = text_is };
  }

-- the body of each reply with status 200 to a request for data spells its message
pub data-spelled : (held : Held) (item : Item) (target : Target) → IsOfBytes held
    → target_wanted held.proto.site item ≡ Ok target → target.service ≡ Dods
    → (answer_to held.proto held.files item).status ≡ Fine
    → SaysData held target (answer_to held.proto held.files item).body
data-spelled held item target of wanted service fine =
    says_data held of target (answer_to held.proto held.files item).body
    (answered-data held.proto held.files item target wanted service fine) item wanted

-- and is read as it
pub data-read : (held : Held) (target : Target) (body : Body) → (says : SaysData held target body)
    → message_or_fault (bytes_of body.bytes) ≡ Ok (message_sent (shown held target) target says.projected)
data-read held target body says =
    read_of_spelled (bytes_of body.bytes) (message_sent (shown held target) target says.projected) says.spelled
