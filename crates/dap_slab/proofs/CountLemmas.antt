-- The count of slabs, one slab after the other.
use Rattle.std.proofs.Common.{◌≡◌, ℕ, suc, ◌+◌, ◌*◌, ◌<◌, ◌≤◌, List, length, drop, sym, ap, ◌∙◌, arith}
use Rattle.std.specs.List.{All}
use Rattle.std.proofs.Math.Nat.{mul-le-mul_left}
use Rattle.std.proofs.Math.Seq.{drop-cons}
use Rattle.std.proofs.lemmas.List.Elements.{All-drop}
use Rattle.nc_model.specs.Layout.{product}
use Rattle.dap_model.specs.declared.projection.Slab.{Slab}
use Rattle.dap_model.specs.Box.{slab_count, box_len}
use Rattle.dap_model.proofs.BoxLemmas.{slab_at}
use Rattle.dap_slab.specs.Walking.{HasIndex}
use Rattle.dap_slab.proofs.IndexLemmas.{box_len-pos}

-- the count of one more slab: times that of the slabs behind it, it is that of all, and so at most that
pub record OneMore (slabs : List Slab) (len at count : ℕ) : Type 0 where
  pub whole : len * count * box_len (drop (at + 1) slabs) ≡ box_len slabs
  pub most : len * count ≤ box_len slabs

pub one_more : (slabs : List Slab) (len at count : ℕ) → All HasIndex slabs → at < length slabs
    → len * box_len (drop at slabs) ≡ box_len slabs → count ≡ slab_count (slab_at slabs at)
    → OneMore slabs len at count
unfolding box_len product
one_more slabs len at count each within whole same =
    let slab = slab_at slabs at in
    let step : suc at ≡ at + 1 = omega arith in
    let rest : box_len (drop at slabs) ≡ slab_count slab * box_len (drop (at + 1) slabs) =
    ap box_len (drop-cons slabs at _ within) ∙ ap (λ (n : ℕ). slab_count slab * box_len (drop n slabs)) step in
    let split : len * count * box_len (drop (at + 1) slabs) ≡ box_len slabs =
    grind arith
    ∙ ap (λ (n : ℕ). len * (n * box_len (drop (at + 1) slabs))) same
    ∙ ap (λ (n : ℕ). len * n) (sym rest)
    ∙ whole in
    let some = box_len-pos (drop (at + 1) slabs) (All-drop HasIndex (at + 1) slabs each) in
    let least = mul-le-mul_left (len * count) some in
    record { whole = split; most = omega (arith, split, least) }
