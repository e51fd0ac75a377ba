-- The data of parts, one after the other, of which those before an offset are passed over.
use Rattle.std.proofs.Common.{◌≡◌, ℕ, ◌+◌, ◌-◌, ◌<◌, ◌≤◌, List, [], ◌++◌, length, get_or, min, drop, sym, ap, subst, ◌∙◌, arith}
use Rattle.std.proofs.lemmas.List.{length-append, length-drop}
use Rattle.dap_model.specs.declared.projection.Sent.{Sent}
use Rattle.dap_number.specs.Overlay.{IsPut}
use Rattle.dap_number.proofs.FrontLemmas.{put-behind}
use Rattle.dap_plan.proofs.DataLemmas.{data-done, data-full, data-more, data_before, part-past, DataSoFar}
use Rattle.dap_xdr.specs.Content.{data_of, part_data, Content}

-- the data so far is written, as far as it fits, and `left` bytes are still to be passed over
pub record DataPassed (content : Content) (sent : List Sent) (from filled index left : ℕ) (old now : List ℕ)
    : Type 0 where
  pub put_is : IsPut (drop from (data_before content sent index)) old now filled
  pub left_is : left ≡ from - length (data_before content sent index)

so-far : (content : Content) (sent : List Sent) (from filled index left : ℕ) (old now : List ℕ)
    → DataPassed content sent from filled index left old now
    → DataSoFar content sent from filled index left old now
so-far content sent from filled index left old now so =
    record { put_is = so.put_is; left_is = λ within. so.left_is }

-- before the first part nothing is written
pub passed-first : (content : Content) (sent : List Sent) (from : ℕ) (old : List ℕ)
    → DataPassed content sent from 0 0 from old old
unfolding data_of
passed-first content sent from old = record { put_is = part-past [] old from (omega arith); left_is = omega arith }

-- the next part
pub passed-next : (content : Content) (sent : List Sent) (from filled index left count len next_left : ℕ) (part : Sent)
    (old now front back rest : List ℕ)
    → DataPassed content sent from filled index left old now → index < length sent → part ≡ get_or sent index part
    → now ≡ front ++ back → length front ≡ filled → len ≡ length (part_data content part)
    → IsPut (drop left (part_data content part)) back rest count → next_left ≡ left - len
    → DataPassed content sent from (filled + count) (index + 1) next_left old (front ++ rest)
passed-next content sent from filled index left count len next_left part old now front back rest so within is split
    long len_is put passed =
    let before = data_before content sent index in
    let more : before ++ part_data content part ≡ data_before content sent (index + 1) =
    sym (data-more content sent index part within is) in
    let many : filled ≡ min (length old) (length before - from) =
    so.put_is.count_is ∙ ap (λ (m : ℕ). min (length old) m) (length-drop from before) in
    record {
      put_is = subst (λ (l : List ℕ). IsPut (drop from l) old (front ++ rest) (filled + count)) more
          (put-behind before (part_data content part) old now front back rest from filled count left many
          so.put_is.new_is split long so.left_is put);
      left_is = omega (
        arith,
        passed,
        len_is,
        so.left_is,
        ap length more,
        length-append before (part_data content part),
      );
    }

-- where the buffer is full
pub passed-full : (content : Content) (sent : List Sent) (from filled index left : ℕ) (old now : List ℕ)
    → DataPassed content sent from filled index left old now → length now ≤ filled
    → IsPut (drop from (data_of content sent)) old now filled
passed-full content sent from filled index left old now so =
    data-full content sent from filled index left old now (so-far content sent from filled index left old now so)

-- where no part is left
pub passed-done : (content : Content) (sent : List Sent) (from filled index left : ℕ) (old now : List ℕ)
    → DataPassed content sent from filled index left old now → length sent ≤ index
    → IsPut (drop from (data_of content sent)) old now filled
passed-done content sent from filled index left old now so =
    data-done content sent from filled index left old now (so-far content sent from filled index left old now so)
