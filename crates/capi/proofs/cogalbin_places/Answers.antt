use Rattle.capi.proofs.Laws.{read_book, read_limits, places_read, places_refused}
use mathlib.Core.Path.{◌∙◌}
use Rattle.capi.proofs.cogalbin_places.Goals as goal

pub pack_places-requires : goal.pack_places-requires
pack_places-requires c = read_limits (read_book c.args.book.now _ c.read.ensures (λ i. (c.shared_slice_known-1.given i).fits) _ c.in-Ok.is)

pub returns-in-Ok : goal.returns-in-Ok
returns-in-Ok c = c.pack_places.ensures ∙ places_read (read_book c.args.book.now _ c.read.ensures (λ i. (c.shared_slice_known-1.given i).fits) _ c.in-Ok.is)

pub returns-in-Err : goal.returns-in-Err
returns-in-Err c = c.pack_refusal.ensures ∙ places_refused c.args.book.now _ c.read.ensures _ c.in-Err.is
