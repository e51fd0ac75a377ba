-- The root in its three parts.
use Rattle.std.proofs.Common.{◌≡◌, ℕ, List, ◌++◌, take, sym, ap, ap₂, ◌∙◌}
use Rattle.percent_encoding.specs.Iter.{decoded_bytes}
use Rattle.percent_encoding.specs.Percent.{percent_decode}
use Rattle.web_path.specs.Begins.{begins}
use Rattle.web_path.specs.Path.{root_of}
use Rattle.web_path.specs.Target.{path_and_query, path_text}
use Rattle.web_path.proofs.BelowLemmas.{below-by, below-root}
use Rattle.web_path.proofs.below.is_below.Goals as goal

pub returns : goal.returns
returns c =
    let root : root_of c.args.site.now ≡ c.as_slice.result.now ++ c.as_slice-2.result.now ++ c.as_slice-3.result.now =
    ap₂ (λ (x y : List ℕ). x ++ y) (ap₂ (λ (x y : List ℕ). x ++ y) (sym c.as_slice.ensures) (sym c.as_slice-2.ensures))
    (sym c.as_slice-3.ensures) in
    let text : path_text (path_and_query c.args.target.now) ≡ decoded_bytes c.percent_decode-left.result =
    ap path_text (sym c.path_and_query-text.ensures)
    ∙ ap (λ (n : ℕ). percent_decode (take n c.path_and_query-text.result.now)) (sym c.first_of-question.ensures.offset)
    ∙ sym c.percent_decode-left.ensures.bytes in
    below-root c.args.target.now c.args.site.now c.all.result
    (ap₂ begins root text
    ∙ below-by c.as_slice.result.now c.as_slice-2.result.now c.as_slice-3.result.now
    (decoded_bytes c.percent_decode-left.result) (decoded_bytes c.takes-has_front.new.left)
    (decoded_bytes c.takes-has_name.new.left) (decoded_bytes c.takes-has_end.new.left) c.takes-has_front.result
    c.takes-has_name.result c.takes-has_end.result c.takes-has_front.ensures c.takes-has_name.ensures
    c.takes-has_end.ensures ∙ sym c.all.ensures)
