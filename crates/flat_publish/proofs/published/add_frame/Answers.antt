use Rattle.std.proofs.Common.{◌≡◌, List, sym, ◌∙◌, ap, subst, true, ◌==◌, Some, None, arith, refl}
use Rattle.std.proofs.lemmas.Bool.Decides.{nat_tests}
use Rattle.flat_publish.specs.declared.frame.Frame.{Frame}
use Rattle.flat_publish.specs.Frames.{last_of, last_number, IsRising}
use Rattle.flat_publish.specs.Kept.{frame_of}
use Rattle.flat_publish.proofs.Adding.{adds_moves}
use Rattle.flat_publish.proofs.lemmas.Beginnings.{last_snoc}
use Rattle.flat_publish.proofs.Adding.{met}
use Rattle.flat_publish.proofs.published.add_frame.Goals as goal

pub compare_exchange-found-requires : goal.compare_exchange-found-requires
compare_exchange-found-requires c =
    let h = c.requires.head in
    let seen = c.again-seen.ensures in
    let offer = c.plain-offer.ensures in
    let pen = c.no_pen-pen.ensures in
    let book = ap (λ s. s.book) seen ∙ sym (ap (λ w. w.book) h) in
    let at : last_number c.again-seen.result.log ≡ c.args.old = ap (λ s. last_number s.log) seen ∙ sym c.requires.old in (
      ap (λ w. w.tracked) h,
      book,
      pen.0 ∙ book,
      offer.0,
      rw (ap (λ w. w.key) h, pen.1, offer.1, offer.3) (adds_moves c.again-seen.result.log (frame_of c.args.numbered) c.args.old c.args.numbered.number.0 at refl
          c.requires.above),
    )

pub of-requires : goal.of-requires
of-requires c =
    let told = met c.compare_exchange-found.result c.args.old _ _ c.if-found-from.false c.compare_exchange-found.ensures.7 in
    (ap last_of told.0 ∙ (last_snoc None c.again-seen.result.log c.plain-offer.result.ask ∙ ap Some c.plain-offer.ensures.1), told.1)
