-- Marks in an array of texts: the offsets at which some of them begin.
use Rattle.std.specs.Prelude.{◌≡◌, ◌≢◌, ◌⊎◌, ℕ, ◌+◌, ◌*◌, ◌/◌, ◌<◌, ◌≤◌, List, [], ◌∷◌, ◌++◌, Some, get_or, length, map, take}
use Rattle.std.specs.Int.{w32, to_be_bytes}
use Rattle.std.specs.List.{flat_map}
use Rattle.dap_model.specs.declared.declaration.Array.{Array}
use Rattle.dap_model.specs.declared.declaration.DapKind.TheVariants.{Text}
use Rattle.dap_model.specs.declared.projection.Sent.{Sent}
use Rattle.dap_model.specs.Box.{box_len, box_of}
use Rattle.dap_model.specs.Xdr.{text_bytes}
use Rattle.fm_dataset.specs.Values.{Shown}
use Rattle.dap_xdr.specs.Content.{array_in}
use Rattle.dap_xdr.specs.Datasets.{content_of}
use Rattle.dap_xdr.specs.declared.len.Marked.{Marked}
use Rattle.dap_xdr.specs.Portion.{text_in, texts_of, Portion}

-- how many texts there are, and the texts before an element
unfoldable pub texts_before : Portion → ℕ → List ℕ
texts_before n element =
    to_be_bytes w32 (box_len n.sent.slabs)
    ++ flat_map text_bytes (map (text_in n) (take element (box_of n.sent.slabs)))

-- a text begins at this offset, or the last one ends there
pub record IsMark (n : Portion) (element offset : ℕ) : Type 0 where
  pub within : element ≤ box_len n.sent.slabs
  pub offset_is : offset ≡ length (texts_before n element)

-- how many texts there are from one mark to the next: 1,024, and more where there are over 8 million, so that few more
-- than 8,192 marks suffice
unfoldable pub spacing : ℕ → ℕ
spacing count = 1024 * (1 + count / 8388608)

-- the offsets of texts at this spacing, of some of the first
abbrev pub AreMarks : Portion → List ℕ → Type 0
AreMarks n marks = (k : ℕ) → k < length marks → IsMark n (k * spacing (box_len n.sent.slabs)) (get_or marks k 0)

-- they are of the array that is sent, where that is one of texts
abbrev pub AreMarksOf : Shown → Sent → List ℕ → Type 0
AreMarksOf shown sent marks =
    (array : Array) → array_in (content_of shown).decls sent.decl sent.part ≡ Some array → array.kind ≡ Text
    → sent.slabs ≢ [] → AreMarks (record { shown = shown; sent = sent; array = array }) marks

-- an offset is added to the marks where its text is the next that is marked, or the marks stay
abbrev pub IsNoted : List ℕ → ℕ → ℕ → ℕ → List ℕ → Type 0
IsNoted old every element offset new = (new ≡ old) ⊎ ((element ≡ length old * every) × (new ≡ old ++ offset ∷ []))

-- how many bytes an array of texts takes, and marks in it
pub record IsMarked (n : Portion) (marked : Marked) : Type 0 where
  pub len_is : marked.len ≡ length (texts_of n)
  pub marks_are : AreMarks n marked.marks
