-- Texts that stand one behind the other in a block.
use Rattle.std.proofs.Common.{◌≡◌, ◌≤◌, ◌+◌, ◌-◌, ◌++◌, ◌∙◌, ℕ, List, [], length, length-append, take, drop, Option, Some, None, refl, sym, ap, subst, codes, arith}
use Rattle.std.proofs.Math.Seq.{drop-append_seam}
use Rattle.std.proofs.lemmas.List.{append-nil, append_assoc, length-drop, take_at, length-take}
use Rattle.std.specs.List.{between}
use Rattle.sgf_reader.specs.declared.collection.Pair.{Pair}
use Rattle.sgf_reader.specs.declared.collection.Span.{Span}
use Rattle.game_tree.specs.declared.info.TextEnds.{TextEnds}
use Rattle.game_tree.specs.Property.{bytes_of}
use Rattle.game_tree.specs.Roots.{IsInformationIn, first_in}
use Rattle.game_tree.specs.SimpleText.{IsSimpleText}
use Rattle.game_tree.specs.StoredInfo.{AreTextEnds, HasGrownBy, shown_info}
use Rattle.game_tree.specs.Trees.{IsTextOf, no_value, value}
use Rattle.game_tree.proofs.SimpleTexts.{simple_text-no_longer}

-- ---- one text more

-- a property without a value
pub no_text : (text : List ℕ) (found : Option Pair) (block : List ℕ) → found ≡ None → HasGrownBy (IsTextOf text found) block block
no_text text found block none = record {
  text = [];
  grown = sym (append-nil block);
  holds = subst (λ f. IsTextOf text f []) (sym none) no_value;
}

-- a property with a value
pub text_there : (text : List ℕ) (found : Option Pair) (pair : Pair) (before after : List ℕ) → found ≡ Some pair → HasGrownBy (IsSimpleText (bytes_of text pair.value)) before after → HasGrownBy (IsTextOf text found) before after
text_there text found pair before after is more = record {
  text = more.text;
  grown = more.grown;
  holds = subst (λ f. IsTextOf text f more.text) (sym is) (value more.holds);
}

part-no_longer : (text : List ℕ) (span : Span) → length (bytes_of text span) ≤ length text
part-no_longer text span =
    omega (arith, length-take (span.to - span.from) (drop span.from text), length-drop span.from text)

-- the block grows by no more bytes than the whole text of the collection has
pub text-no_longer : (text : List ℕ) (found : Option Pair) (before after : List ℕ) → HasGrownBy (IsTextOf text found) before after → length after ≤ length before + length text
text-no_longer text found before after more =
    let count = ap length more.grown ∙ length-append before more.text in
    omega (arith, count, bounded found more.text more.holds)
  where
    bounded : (f : Option Pair) (simple : List ℕ) → IsTextOf text f simple → length simple ≤ length text
    bounded _ _ no_value = omega arith
    bounded _ simple (value {pair = pair} read) =
        omega (arith, simple_text-no_longer (bytes_of text pair.value) simple read, part-no_longer text pair.value)

-- ---- six texts

-- one text, and what was added behind it
module _ (P : List ℕ → Type 0) (before after : List ℕ) (more : HasGrownBy P before after) where
  pub grown-no_shorter : length before ≤ length after
  grown-no_shorter =
      let count = ap length more.grown ∙ length-append before more.text in omega (arith, count)

  module _ (rest whole : List ℕ) (is : whole ≡ after ++ rest) where
    goes_on : whole ≡ before ++ (more.text ++ rest)
    goes_on = is ∙ ap (λ a. a ++ rest) more.grown ∙ append_assoc before more.text rest

    -- the text that was added stands between the two ends
    text_between : (from to : ℕ) → from ≡ length before → to ≡ length after → P (between from to whole)
    text_between from to first last =
        let count = ap length more.grown ∙ length-append before more.text in
        let size : length more.text ≡ to - from = omega (arith, count, first, last) in
        let behind : drop from whole ≡ more.text ++ rest = ap (λ n. drop n whole) first ∙ ap (drop (length before)) goes_on ∙ drop-append_seam before (more.text ++ rest) in
        let same : between from to whole ≡ more.text = ap (take (to - from)) behind ∙ take_at more.text rest (to - from) size in
        subst P (sym same) more.holds

-- the texts of an information, added one by one
module _ (text : List ℕ) (pairs : List Pair) (ends : TextEnds)
    (start black white event place date whole : List ℕ)
    (b : HasGrownBy (IsTextOf text (first_in text pairs (codes "PB"))) start black)
    (w : HasGrownBy (IsTextOf text (first_in text pairs (codes "PW"))) black white)
    (e : HasGrownBy (IsTextOf text (first_in text pairs (codes "EV"))) white event)
    (p : HasGrownBy (IsTextOf text (first_in text pairs (codes "PC"))) event place)
    (d : HasGrownBy (IsTextOf text (first_in text pairs (codes "DT"))) place date)
    (r : HasGrownBy (IsTextOf text (first_in text pairs (codes "RE"))) date whole)
    (black_end : ends.black ≡ length black)
    (white_end : ends.white ≡ length white)
    (event_end : ends.event ≡ length event)
    (place_end : ends.place ≡ length place)
    (date_end : ends.date ≡ length date) where
  pub ends-of_texts : AreTextEnds ends (length whole)
  ends-of_texts = record {
    white = omega (arith, black_end, white_end, grown-no_shorter _ black white w);
    event = omega (arith, white_end, event_end, grown-no_shorter _ white event e);
    place = omega (arith, event_end, place_end, grown-no_shorter _ event place p);
    date = omega (arith, place_end, date_end, grown-no_shorter _ place date d);
    within = omega (arith, date_end, grown-no_shorter _ date whole r);
  }

  pub told-by_texts : start ≡ [] → IsInformationIn text pairs (shown_info whole ends)
  told-by_texts empty =
      let in_date = r.grown in
      let in_place = goes_on _ place date d _ whole in_date in
      let in_event = goes_on _ event place p _ whole in_place in
      let in_white = goes_on _ white event e _ whole in_event in
      let in_black = goes_on _ black white w _ whole in_white in
      record {
        black = text_between _ start black b _ whole in_black 0 ends.black (sym (ap length empty)) black_end;
        white = text_between _ black white w _ whole in_white ends.black ends.white black_end white_end;
        event = text_between _ white event e _ whole in_event ends.white ends.event white_end event_end;
        place = text_between _ event place p _ whole in_place ends.event ends.place event_end place_end;
        date = text_between _ place date d _ whole in_date ends.place ends.date place_end date_end;
        outcome_text = text_between _ date whole r [] whole (sym (append-nil whole)) ends.date (length whole) date_end refl;
      }
