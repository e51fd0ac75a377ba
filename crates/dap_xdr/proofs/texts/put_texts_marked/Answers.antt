-- What is left behind a mark is what is left of all texts.
use Rattle.std.proofs.Common.{◌≡◌, ◌*◌, ◌∙◌, get_or, ap, subst, sym, arith}
use Rattle.dap_model.specs.Box.{box_len}
use Rattle.dap_xdr.specs.Marks.{spacing, IsMark}
use Rattle.dap_xdr.proofs.TextsLemmas.{texts-from-mark}
use Rattle.dap_xdr.proofs.texts.put_texts_marked.Goals as goal

pub overflow_mul-element : goal.overflow_mul-element
overflow_mul-element c =
    let same : c.args.last * c.spacing.result ≡ c.args.last * spacing (box_len c.args.part.now.sent.slabs) =
    ap (λ n. c.args.last * n) (c.spacing.ensures.value ∙ ap spacing c.count.ensures) in
    let mark = c.requires.marks c.args.last c.requires.last in
    omega (arith, same, mark.within, c.count.ensures)

pub put_texts_from-requires-clause-element : goal.put_texts_from-requires-clause-element
put_texts_from-requires-clause-element c =
    let same : c.args.last * c.spacing.result ≡ c.args.last * spacing (box_len c.args.part.now.sent.slabs) =
    ap (λ n. c.args.last * n) (c.spacing.ensures.value ∙ ap spacing c.count.ensures) in
    let mark = c.requires.marks c.args.last c.requires.last in
    omega (arith, same, mark.within)

pub returns : goal.returns
returns c =
    let n = c.args.part.now in
    let offset = get_or c.args.marks.now c.args.last 0 in
    let same : c.args.last * c.spacing.result ≡ c.args.last * spacing (box_len n.sent.slabs) =
    ap (λ m. c.args.last * m) (c.spacing.ensures.value ∙ ap spacing c.count.ensures) in
    let mark = subst (λ m. IsMark n m offset) (sym same) (c.requires.marks c.args.last c.requires.last) in
    texts-from-mark n (c.args.last * c.spacing.result) offset c.args.from c.put_texts_from.result c.args.out.now
    c.put_texts_from.new.out mark c.requires.behind c.put_texts_from.ensures
