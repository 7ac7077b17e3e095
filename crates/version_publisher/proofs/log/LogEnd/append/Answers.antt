use Rattle.std.proofs.Common.{◌≡◌, length, sym, ◌∙◌, ap}
use Rattle.version_publisher.proofs.EntryStep.{appends_moves}
use Rattle.version_publisher.proofs.log.LogEnd.append.Goals as goal

pub compare_exchange-found-requires : goal.compare_exchange-found-requires
compare_exchange-found-requires g c =
    let h = c.args.self.now.is_length_word in
    let offer = c.plain-offer.ensures in
    let pen = c.no_pen-pen.ensures in
    let same = c.again-after.ensures in
    let here = ap (λ s. s.book) same ∙ sym (ap (λ w. w.book) h) in
    let len : length c.again-after.result.log ≡ c.args.self.now.count = ap (λ s. length s.log) same ∙ sym c.args.self.now.is_counted in (
      ap (λ w. w.tracked) h,
      here,
      pen.0 ∙ here,
      offer.0,
      rw (ap (λ w. w.key) h, pen.1, offer.1, offer.3) (appends_moves c.again-after.result.log _ c.args.self.now.count len),
    )
