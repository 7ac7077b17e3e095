use Rattle.run_audit.proofs.ShownNames.{told-unread}
use Rattle.run_audit.proofs.course.ShownImport.is_unread.Goals as goal

pub returns : goal.returns
returns c recorded shows =
    told-unread c.args.self.now recorded c.args.name.now c.is_ok.result c.binary_search.result shows
    (rw (c.deref.ensures.value) at c.binary_search.ensures.bound) (rw (c.deref.ensures.value, c.as_bytes.ensures.value) at c.binary_search.ensures.position) c.is_ok.ensures.value
