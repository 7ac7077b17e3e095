use Rattle.std.proofs.Common.{ℕ, List, subst, sym}
use Rattle.memchr.specs.Find.{OccursAt}
use Rattle.info_filter.proofs.Conditions.{bytes_found, found_bytes}
use Rattle.info_filter.proofs.filter.has_bytes.Goals as goal

pub returns : goal.returns
returns c =
    let text = c.args.text.now in (
      λ found. found_bytes text c.args.bytes.now (subst (λ (b : List ℕ). (k : ℕ) × OccursAt text b k) c.as_slice.ensures (c.contains_str.ensures.0 found)),
      λ there. c.contains_str.ensures.1 (subst (λ (b : List ℕ). (k : ℕ) × OccursAt text b k) (sym c.as_slice.ensures) (bytes_found text c.args.bytes.now there)),
    )
