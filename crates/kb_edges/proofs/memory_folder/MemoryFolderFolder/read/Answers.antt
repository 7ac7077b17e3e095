use Rattle.std.proofs.Common.{◌≡◌, ◌+◌, take, ◌∙◌, ap, arith}
use Rattle.std.proofs.lemmas.Grind.{common_steps}
use Rattle.std.specs.Option.{option_map}
use Rattle.kb_edges.proofs.Places.{content_of-found}
use Rattle.kb_edges.proofs.memory_folder.MemoryFolderFolder.read.Goals as goal

pub returns-in_default-clause-missing : goal.returns-in_default-clause-missing
returns-in_default-clause-missing c =
    let found = content_of-found c.args.self.now.entries.items _ c.args.path.now c.args.name.now c.first_file.result c.deref.ensures.value c.first_file.ensures in
    λ _. found ∙ ap (option_map (λ entry. entry.now.bytes.items)) c.in_default.is

pub returns-clause-content : goal.returns-clause-content
returns-clause-content c =
    let found = content_of-found c.args.self.now.entries.items _ c.args.path.now c.args.name.now c.first_file.result c.deref.ensures.value c.first_file.ensures in
    let content = found ∙ ap (option_map (λ entry. entry.now.bytes.items)) c.in-Some.is in
    let read : c.in_ok-to_vec.field-0.items ≡ take (c.args.limit + 1) c.in-Some.file.now.bytes.items = grind (arith, common_steps) in
    λ value told. let same : c.in-Some.file.now.bytes.items ≡ value = cc in read ∙ ap (take (c.args.limit + 1)) same

pub returns-clause-there : goal.returns-clause-there
returns-clause-there c =
    let found = content_of-found c.args.self.now.entries.items _ c.args.path.now c.args.name.now c.first_file.result c.deref.ensures.value c.first_file.ensures in
    let content = found ∙ ap (option_map (λ entry. entry.now.bytes.items)) c.in-Some.is in
    rw content

pub returns-in_err-to_vec-clause-no_memory : goal.returns-in_err-to_vec-clause-no_memory
returns-in_err-to_vec-clause-no_memory c =
    let found = content_of-found c.args.self.now.entries.items _ c.args.path.now c.args.name.now c.first_file.result c.deref.ensures.value c.first_file.ensures in
    let content = found ∙ ap (option_map (λ entry. entry.now.bytes.items)) c.in-Some.is in
    λ _. rw content
