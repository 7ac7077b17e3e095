-- Files that were not read, and the rise of the count of faults.
use Rattle.std.proofs.Common.{◌≡◌, ◌⊎◌, inl, inr, ℕ, suc, ◌+◌, ◌≤◌, List, [], ◌∷◌, ◌++◌, Option, Some, None, length, length-append, refl, sym, ◌∙◌, subst, arith}
use Rattle.kb_edges.specs.Faults.{Rose, RoseBy}
use Rattle.kb_edges.specs.Files.{File, HasFile}
use Rattle.import_work.specs.Batches.{AreLost, ArePaid, absent, lost, none}
use Rattle.import_work.proofs.FileLemmas.{RoseBy-then}

-- the count may rise further
pub paid-later : (told : Option (List File)) (path : List ℕ) (unread : List (List ℕ)) (first before now : ℕ) → before ≤ now → ArePaid told path unread first before → ArePaid told path unread first now
paid-later told path unread first before now later (count, are, paid) = (count, are, omega (arith, paid, later))

-- one file more wasn't read
pub paid-more : (told : Option (List File)) (path : List ℕ) (unread : List (List ℕ)) (name : List ℕ) (first before now : ℕ) → Rose before now ⊎ ((files : List File) × (told ≡ Some files) × (¬ HasFile files path name)) → before ≤ now → ArePaid told path unread first before → ArePaid told path (unread ++ name ∷ []) first now
paid-more told path unread name first before now (inl rose) later (count, are, paid) =
    let one : count + 1 ≡ suc count = omega arith in
    (suc count, lost name are, subst (λ n. RoseBy n first now) one (RoseBy-then count 1 first before now paid rose))
paid-more told path unread name first before now (inr (files, is, away)) later (count, are, paid) =
    (count, absent name files is away are, omega (arith, paid, later))

-- where nothing is told all are lost
lost_untold : (told : Option (List File)) (path : List ℕ) (unread : List (List ℕ)) (count : ℕ) → told ≡ None → AreLost told path unread count → count ≡ length unread
lost_untold told path _ _ untold none = refl
lost_untold told path _ _ untold (lost {names = names} {count = count} name are) =
    let so_far = lost_untold told path names count untold are in
    rw length-append (omega (arith, so_far))
lost_untold told path _ _ untold (absent {names = names} {count = count} name files is away are) =
    let both : None ≡ Some files = sym untold ∙ is in
    cc

pub paid_untold : (told : Option (List File)) (path : List ℕ) (unread : List (List ℕ)) (first now : ℕ) → told ≡ None → ArePaid told path unread first now → RoseBy (length unread) first now
paid_untold told path unread first now untold (count, are, paid) =
    subst (λ n. RoseBy n first now) (lost_untold told path unread count untold are) paid
