use Rattle.std.proofs.Common.{◌≡◌, true, false, rules}
use Rattle.std.specs.List.{list_any}
use Rattle.std.specs.Str.{bytes_eq}
use Rattle.std.specs.String.{string_bytes}
use Rattle.std.proofs.lemmas.List.Elements.{Contains-get_or}
use Rattle.kb_edges.proofs.Places.{HasPath-decides}
use Rattle.kb_edges.proofs.memory_folder.MemoryFolderFolder.list.Goals as goal

pub returns-then-not-has_path-clause-missing : goal.returns-then-not-has_path-clause-missing
returns-then-not-has_path-clause-missing c =
    let none : c.has_path.result ≡ false = search rules in
    let is : c.has_path.result ≡ list_any (λ entry. bytes_eq (string_bytes entry.path) c.args.path.now) c.args.self.now.entries.items = search rules in
    λ _ has. let some : c.has_path.result ≡ true = (HasPath-decides c.args.self.now.entries.items c.args.path.now c.has_path.result is).1 has in cc

pub returns-clause-there : goal.returns-clause-there
returns-clause-there c =
    let some : c.has_path.result ≡ true = search rules in
    let is : c.has_path.result ≡ list_any (λ entry. bytes_eq (string_bytes entry.path) c.args.path.now) c.args.self.now.entries.items = search rules in
    (HasPath-decides c.args.self.now.entries.items c.args.path.now c.has_path.result is).0 some

pub returns-in_err-sgf_names-clause-no_memory : goal.returns-in_err-sgf_names-clause-no_memory
returns-in_err-sgf_names-clause-no_memory c =
    let some : c.has_path.result ≡ true = search rules in
    let is : c.has_path.result ≡ list_any (λ entry. bytes_eq (string_bytes entry.path) c.args.path.now) c.args.self.now.entries.items = search rules in
    λ _. (HasPath-decides c.args.self.now.entries.items c.args.path.now c.has_path.result is).0 some

pub returns-clause-sgf : goal.returns-clause-sgf
returns-clause-sgf c = λ k d lt. c.in_ok-sgf_names.ensures.sgf _ (Contains-get_or _ k d lt)
