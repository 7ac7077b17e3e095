-- What stands between two calls of a publisher stays so.
use Rattle.std.proofs.Common.{◌≡◌, ℕ, ◌+◌, ◌≤◌, List, [], ◌∷◌, ◌++◌, length, drop, refl, sym, ap, subst, ◌∙◌, append_assoc, length-append, zero-le}
use Rattle.std.proofs.lemmas.List.{append-nil}
use Rattle.logbook.specs.Pages.{Book}
use Rattle.version_publisher.specs.declared.state.Content.{Content}
use Rattle.version_publisher.specs.Contents.{items_in, content, extended, merged_content, last_two_joined, IsReady}
use Rattle.version_publisher.proofs.PartLists.{joined-merged_last}
use Rattle.kb_geometry.proofs.Prefixes.{prefix_same, prefix_trans}
use Rattle.version_publisher.proofs.Prefixes.{prefix_rest}

module _ {A : Type 0} where
  pub joined-append : (xs ys : List (List A)) → items_in (xs ++ ys) ≡ items_in xs ++ items_in ys
  joined-append [] ys = refl
  joined-append (x ∷ xs) ys = ap (λ z. x ++ z) (joined-append xs ys) ∙ sym (append_assoc x (items_in xs) (items_in ys))

  -- with one more list there are as many items more as it has
  pub joined_append_fits : (most : ℕ) (xs : List (List A)) (x : List A) → length (items_in xs) + length x ≤ most → length (items_in (xs ++ x ∷ [])) ≤ most
  joined_append_fits most xs x h =
      let e : items_in (xs ++ x ∷ []) ≡ items_in xs ++ x = joined-append xs (x ∷ []) ∙ ap (λ z. items_in xs ++ z) (append-nil x) in
      let l : length (items_in (xs ++ x ∷ [])) ≡ length (items_in xs) + length x = ap length e ∙ length-append (items_in xs) x in subst (λ n. n ≤ most) (sym l) h

  -- one more part waits
  pub ready_longer : (most : ℕ) (published next : Content A) (waiting whole : List (List A)) (b : Book) (x : List A) → length (items_in whole) + length x ≤ most → IsReady most published next waiting whole b
      → IsReady most published next (waiting ++ x ∷ []) (whole ++ x ∷ []) b
  ready_longer most published next waiting whole b x h r = record {
    published_consistent = r.published_consistent;
    next_consistent = r.next_consistent;
    published_opening = r.published_opening;
    next_opening = r.next_opening;
    grows = r.grows;
    is_whole = sym (append_assoc next.log waiting (x ∷ [])) ∙ ap (λ z. z ++ x ∷ []) r.is_whole;
    fits = joined_append_fits most whole x h;
  }

  -- all that waited is queued as one change
  pub ready_queued : (most : ℕ) (published next : Content A) (waiting whole : List (List A)) (b : Book) → IsReady most published next waiting whole b → IsReady most published (extended next (length whole) waiting whole b) [] whole b
  ready_queued most published next waiting whole b r = record {
    published_consistent = r.published_consistent;
    next_consistent = (refl, joined-append next.parts waiting ∙ (ap (λ z. z ++ items_in waiting) r.next_consistent.1 ∙ (sym (joined-append next.log waiting) ∙ ap items_in r.is_whole)), r.fits);
    published_opening = r.published_opening;
    next_opening = refl;
    grows = prefix_trans published.log next.log whole r.grows (waiting, r.is_whole);
    is_whole = append-nil whole;
    fits = r.fits;
  }

  -- the same along equations
  pub ready_appended : (most : ℕ) (published next : Content A) (waiting waiting' whole whole' : List (List A)) (b b' : Book) (x : List A) → length (items_in whole) + length x ≤ most → IsReady most published next waiting whole b
      → waiting' ≡ waiting ++ x ∷ [] → whole' ≡ whole ++ x ∷ [] → b' ≡ b → IsReady most published next waiting' whole' b'
  ready_appended most published next waiting waiting' whole whole' b b' x h r p q e =
      subst (λ (t : List (List A) × (List (List A) × Book)). IsReady most published next t.0 t.1.0 t.1.1) (λ i. (sym p i, (sym q i, sym e i))) (ready_longer most published next waiting whole b x h r)

  pub ready_along : (most : ℕ) (published published' next next' : Content A) (waiting waiting' whole : List (List A)) (b : Book) → IsReady most published next waiting whole b
      → published' ≡ published → next' ≡ next → waiting' ≡ waiting → IsReady most published' next' waiting' whole b
  ready_along most published published' next next' waiting waiting' whole b r p q e =
      subst (λ (t : Content A × (Content A × List (List A))). IsReady most t.0 t.1.0 t.1.1 whole b) (λ i. (sym p i, (sym q i, sym e i))) r

  -- nothing was appended yet
  pub ready_opened : (most : ℕ) (b : Book) → IsReady {A = A} most (content 0 [] [] b) (content 0 [] [] b) [] [] b
  ready_opened most b = record {
    published_consistent = (refl, refl, zero-le);
    next_consistent = (refl, refl, zero-le);
    published_opening = refl;
    next_opening = refl;
    grows = prefix_same [];
    is_whole = refl;
    fits = zero-le;
  }

  -- what was next is published
  pub ready_published : (most : ℕ) (published published' next next' : Content A) (waiting whole : List (List A)) (b : Book) → IsReady most published next waiting whole b
      → published' ≡ next → next' ≡ next → IsReady most published' next' waiting whole b
  ready_published most published published' next next' waiting whole b r p q =
      let shown : IsReady most next next waiting whole b = record {
        published_consistent = r.next_consistent;
        next_consistent = r.next_consistent;
        published_opening = r.next_opening;
        next_opening = r.next_opening;
        grows = prefix_same next.log;
        is_whole = r.is_whole;
        fits = r.fits;
      } in ready_along most next published' next next' waiting waiting whole b shown p q refl

  -- a merge of the last two parts is queued
  pub ready_merged : (most : ℕ) (published : Content A) (whole : List (List A)) (b : Book) (x : List A) → x ≡ last_two_joined published.parts → IsReady most published published [] whole b → IsReady most published (merged_content published x) [] whole b
  ready_merged most published whole b x e r = record {
    published_consistent = r.published_consistent;
    next_consistent = (r.published_consistent.0, joined-merged_last published.parts x e ∙ r.published_consistent.1, r.published_consistent.2);
    published_opening = r.published_opening;
    next_opening = r.published_opening;
    grows = r.grows;
    is_whole = r.is_whole;
    fits = r.fits;
  }

  -- the published log and what is pending are the whole log
  pub log_pending : (most : ℕ) (published next : Content A) (waiting whole : List (List A)) (b : Book) → IsReady most published next waiting whole b
      → published.log ++ drop (length published.log) whole ≡ whole
  log_pending most published next waiting whole b r = prefix_rest published.log whole (prefix_trans published.log next.log whole r.grows (waiting, r.is_whole))
