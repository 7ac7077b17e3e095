use Rattle.std.proofs.Common.{ap, Err, inl, inr, refl}
use Rattle.import_work.proofs.FileLemmas.{content_of-there, IsContent-read, told_there}
use Rattle.import_work.proofs.read.read_one.Goals as goal
use Rattle.import_work.proofs.read.read_one.Goals.{in-Ok, in-Err-Failed, in-Err-Missing}

pub returns-clause-read : goal.returns-clause-read
returns-clause-read g c = elim c.match-read.branch [
  | in-Ok w ↦ rw w.bytes-is (λ files told. IsContent-read files c.args.path.now c.args.name.now w.in-Ok.bytes.items _ refl (w.in-Ok.ensures.there files told) (w.in-Ok.ensures.content files told))
  | in-Err-Failed w ↦ rw w.bytes-is (inl (w.in-Err-Failed.ensures.failed (ap Err w.in-Err-Failed.field-0-is)))
  | in-Err-Missing w ↦ rw w.bytes-is
      (let missing = ap Err w.in-Err-Missing.field-0-is in
      let (files, told) = told_there (g.F.Folder.files c.args.folder.now) (w.in-Err-Missing.ensures.missing_told missing) in
      inr (files, told, λ there. content_of-there files _ _ there (w.in-Err-Missing.ensures.missing missing files told)))
]
