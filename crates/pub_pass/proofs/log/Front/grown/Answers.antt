-- The exchange keeps the rule of the book.
use Rattle.std.proofs.Common.{◌≡◌, ◌+◌, ℕ, sym, ◌∙◌, ap, length}
use Rattle.pub_pass.proofs.Adding.{adds_moves}
use Rattle.pub_pass.proofs.log.Front.grown.Goals as goal

pub compare_exchange-found-requires : goal.compare_exchange-found-requires
compare_exchange-found-requires c =
    let h = c.args.page.now.head_is in
    let seen = c.again-seen.ensures in
    let offer = c.plain-offer.ensures in
    let pen = c.no_pen-pen.ensures in
    let book = ap (λ s. s.book) seen ∙ sym c.requires.book in
    let len : c.args.len ≡ c.args.self.now.len + 1 = c.requires.one_more
    ∙ ap (λ (n : ℕ). n + 1) (sym c.args.self.now.counted) in (
      ap (λ w. w.tracked) h,
      book,
      pen.0 ∙ book,
      offer.0,
      rw (len, ap (λ w. w.key) h, pen.1, offer.1, offer.3)
          (adds_moves c.again-seen.result.log c.args.op.now c.args.self.now.len
          (ap length (ap (λ s. s.log) seen) ∙ sym c.args.self.now.counted)),
    )
