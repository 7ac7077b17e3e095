-- Files that are found in pieces.
use Rattle.std.proofs.Common.{◌≡◌, ℕ, ◌+◌, ◌<◌, ◌≤◌, List, [], ◌∷◌, ◌++◌, get_or, length, length-append, map, take, append-nil, append_assoc, sym, ◌∙◌, ap, arith, subst}
use Rattle.std.proofs.lemmas.List.{length-map, length-take-le, map_more, map_push, take_more}
use Rattle.std.proofs.lemmas.List.Elements.{All-append, All-nil, All-push}
use Rattle.std.proofs.lemmas.List.Concat.{flat_map-append}
use Rattle.std.specs.Global.{Global}
use Rattle.std.specs.List.{AllZip}
use Rattle.std.specs.Prelude.{Vec}
use Rattle.node_position.specs.Games.{Game}
use Rattle.import_work.specs.Judged.{AreFoundFiles, AreFoundPieces, HasAllGames, IsFoundFile, files_in, games_found, games_in_files}
use Rattle.kb_geometry.specs.Pieces.{ArePiecesJoined, PieceOf}
use Rattle.import_work.specs.Pieces.{ArePieces, group_texts}
use Rattle.import_work.specs.Reads.{FileText, file_text, file_texts}
use Rattle.import_work.specs.declared.found.FoundFile.{FoundFile}
use Rattle.import_work.specs.declared.found.FoundPiece.{FoundPiece}
use Rattle.import_work.specs.declared.read.ReadFile.{ReadFile}
use Rattle.import_work.proofs.Joined.{pieces-fit}

-- pairs of two lists, with one pair more, and of lists one behind the other
AllZip-push : {A B : Type 0} (R : A → B → Type 0) (xs : List A) (ys : List B) (x : A) (y : B) → AllZip R xs ys → R x y → AllZip R (xs ++ x ∷ []) (ys ++ y ∷ [])
AllZip-push R [] [] x y h r = (r, tt)
AllZip-push R [] (b ∷ ys) x y h r = absurd h
AllZip-push R (a ∷ xs) [] x y h r = absurd h
AllZip-push R (a ∷ xs) (b ∷ ys) x y h r = (h.0, AllZip-push R xs ys x y h.1 r)

AllZip-then : {A B : Type 0} (R : A → B → Type 0) (xs more : List A) (ys own : List B) → AllZip R xs ys → AllZip R more own → AllZip R (xs ++ more) (ys ++ own)
AllZip-then R [] more [] own h k = k
AllZip-then R [] more (b ∷ ys) own h k = absurd h
AllZip-then R (a ∷ xs) more [] own h k = absurd h
AllZip-then R (a ∷ xs) more (b ∷ ys) own h k = (h.0, AllZip-then R xs more ys own h.1 k)

-- one file more is found
pub found-more : (files : List ReadFile) (file : ReadFile) (found more : List FoundFile) (own : FoundFile) → AreFoundFiles (file_texts files) found → IsFoundFile (file_text file) own → more ≡ found ++ own ∷ [] → AreFoundFiles (file_texts (files ++ file ∷ [])) more
found-more files file found more own so_far is pushed =
    subst (λ fs. AreFoundFiles (file_texts (files ++ file ∷ [])) fs) (sym pushed)
    (subst (λ ts. AreFoundFiles ts (found ++ own ∷ [])) (sym (map_push file_text files file))
    (AllZip-push IsFoundFile (file_texts files) found (file_text file) own so_far is))

-- the games of one file more
pub games-more : (files : List FoundFile) (i : ℕ) (file : FoundFile) (games more : List Game) → i < length files → file ≡ get_or files i file → games ≡ games_in_files (take i files) → more ≡ games ++ games_found file.found → more ≡ games_in_files (take (i + 1) files)
games-more files i file games more below is had added =
    let of_file : FoundFile → List Game = λ f. games_found f.found in
    added
    ∙ ap (λ gs. gs ++ of_file file) had
    ∙ ap (λ gs. games_in_files (take i files) ++ gs) (sym (append-nil (of_file file)))
    ∙ sym (flat_map-append of_file (take i files) (file ∷ []))
    ∙ ap games_in_files (ap (λ (f : FoundFile). take i files ++ f ∷ []) is ∙ sym (take_more files i file below))

-- one game more is shared, and there is room for it
pub shared-more : {X : Type 0} (v : X → Game) (own : List X) (i : ℕ) (game : X) (start games more : List Game) (added : Game) → i < length own → game ≡ get_or own i game → games ≡ start ++ map v (take i own) → added ≡ v game → more ≡ games ++ added ∷ [] → more ≡ start ++ map v (take (i + 1) own)
shared-more v own i game start games more added below is had same pushed =
    pushed
    ∙ ap (λ g. games ++ g ∷ []) (same ∙ ap v is)
    ∙ ap (λ gs. gs ++ v (get_or own i game) ∷ []) had
    ∙ append_assoc start (map v (take i own)) (v (get_or own i game) ∷ [])
    ∙ ap (λ gs. start ++ gs) (sym (map_more v own i game below))

pub shared-room : {X : Type 0} (v : X → Game) (own : List X) (i : ℕ) (start games : List Game) → i < length own → games ≡ start ++ map v (take i own) → length start + length own ≤ 400000 → length games < 400000
shared-room v own i start games below had room =
    omega (arith, ap length had, length-append start (map v (take i own)), length-map (take i own) v, length-take-le i own (omega (arith, below)))

-- no piece, pieces behind others, and one piece
AreFoundPieces-none : AreFoundPieces [] []
AreFoundPieces-none = record { files = tt; games = All-nil HasAllGames }

AreFoundPieces-then : (texts more : List FileText) (pieces own : List FoundPiece) → AreFoundPieces texts pieces → AreFoundPieces more own → AreFoundPieces (texts ++ more) (pieces ++ own)
AreFoundPieces-then texts more pieces own h k = record {
  files = subst (AreFoundFiles (texts ++ more)) (sym (flat_map-append (λ (p : FoundPiece). p.files.items) pieces own))
      (AllZip-then IsFoundFile texts more (files_in pieces) (files_in own) h.files k.files);
  games = All-append HasAllGames pieces own h.games k.games;
}

pub piece_alone : (texts : List FileText) (before pieces : List FoundPiece) (piece : FoundPiece) → before ≡ [] → pieces ≡ before ++ piece ∷ [] → AreFoundFiles texts piece.files.items → HasAllGames piece → AreFoundPieces texts pieces
piece_alone texts before pieces piece none pushed found games =
    let alone : pieces ≡ piece ∷ [] = pushed ∙ ap (λ (ps : List FoundPiece). ps ++ piece ∷ []) none in
    subst (AreFoundPieces texts) (sym alone) (record {
      files = subst (AreFoundFiles texts) (sym (append-nil piece.files.items)) found;
      games = All-push HasAllGames [] piece (All-nil HasAllGames) games;
    })

-- what was found in all groups
pub pieces_found : (groups : List (Vec ReadFile Global)) (given : List (PieceOf FoundPiece)) (texts : List FileText) (pieces : List FoundPiece) → group_texts groups ≡ texts → ArePieces (λ (g : Vec ReadFile Global). file_texts g.items) AreFoundPieces groups given → ArePiecesJoined given pieces → AreFoundPieces texts pieces
pieces_found groups given texts pieces same are joined =
    subst (λ ts. AreFoundPieces ts pieces) same (pieces-fit (λ (g : Vec ReadFile Global). file_texts g.items) AreFoundPieces AreFoundPieces-none AreFoundPieces-then groups given pieces are joined)

-- a group more, and a file more in the last group
pub texts-pushed : (groups more : List (Vec ReadFile Global)) (group : Vec ReadFile Global) → more ≡ groups ++ group ∷ [] → group_texts more ≡ group_texts groups ++ file_texts group.items
texts-pushed groups more group pushed =
    ap group_texts pushed ∙ flat_map-append (λ (v : Vec ReadFile Global). file_texts v.items) groups (group ∷ []) ∙ ap (λ ts. group_texts groups ++ ts) (append-nil (file_texts group.items))
