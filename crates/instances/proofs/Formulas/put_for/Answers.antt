use mathlib.Core.Path.{sym}
use Rattle.std.proofs.lemmas.List.{length-take-le}
use Rattle.instances.proofs.Laws.{listed_room, put_for_is}
use Rattle.instances.proofs.Formulas.put_for.Goals as goal

pub slice_bounds-just-end : goal.slice_bounds-just-end
slice_bounds-just-end c = listed_room _ _ _ c.args.self.now.ready.0 c.list_just-m.ensures

pub slice_bounds-put_each_key-end : goal.slice_bounds-put_each_key-end
slice_bounds-put_each_key-end c = sym (length-take-le _ _ (listed_room _ _ _ c.args.self.now.ready.0 c.list_just-m.ensures))

pub returns : goal.returns
returns c = put_for_is _ _ _ _ (listed_room _ _ _ c.args.self.now.ready.0 c.list_just-m.ensures) c.list_just-m.ensures c.put_each_key.ensures
