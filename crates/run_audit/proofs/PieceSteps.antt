-- The pieces of bytes that a loop went over, where a closure tells at which bytes they are cut.
use Rattle.std.proofs.Common.{◌≡◌, Bool, List, None, Option, false, map}
use Rattle.std.specs.Borrow.{Bor}
use Rattle.std.specs.Fn.{CalledAt}
use Rattle.std.specs.Iterator.{Yields}
use Rattle.std.specs.List.{slice_split}
use Rattle.std.specs.Slice.Iter as slice
use Rattle.std.proofs.lemmas.Iterator.Consumers.{YieldsList-end}
use Rattle.std.proofs.lemmas.Iterator.Splits.{YieldsList-from_slice_split}
use denote.Param.Members.{Mut}

pub pieces-seen : {A F : Type 0} (s t u : _) {g : Mut F (Bor A × Unit {0}) Bool} (p : A → Bool) {f : F} (xs : List A) (ys : List (Bor (List A))) → Yields (slice.split_steps g) s ys t → (r : Option (Bor (List A))) → r ≡ None → slice.split_steps g t r u
    → slice.split_rest s ≡ xs → slice.split_done s ≡ false → slice.split_callee s ≡ f → ((x : A) (b : Bool) (q : F) → CalledAt g f x b q → (q ≡ f) × (b ≡ p x)) → map (λ (y : Bor (List A)). y.now) ys ≡ slice_split p xs
pieces-seen s t u {g = g} p xs ys gone r none step rest done closure tests = (YieldsList-end (YieldsList-from_slice_split g p xs rest done closure tests) ys t gone r u none step).0
