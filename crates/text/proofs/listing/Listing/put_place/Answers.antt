use native.Mathlib.Omega.{arith}
use Prim.Native.Nat.{◌<◌}
use mathlib.Core.Path.{refl, sym}
use Rattle.text.specs.Lines.{places_of}
use Rattle.text.proofs.Lines.{prints_as, prints_nothing, no_line, the_line}
use Rattle.text.proofs.listing.Listing.put_place.Goals as goal

-- A place whose fact may not be written has no line; another has that of its fact.
pub returns-then-not-is_stated : goal.returns-then-not-is_stated
returns-then-not-is_stated c =
    let l = c.args.self.now in
    let s = l.printer in
    let f = s.index.formulas in
    let t = s.index.numbers.now in
    let h = s.book in
    let below : c.args.i < places_of f s.counts.principals = omega (arith, l.sized, c.requires.below.0) in
    prints_nothing c.args.out.now (no_line s.audience f t s.counts h l.names l.named c.args.i below c.mode_of.ensures c.of_rank.ensures c.other_of.ensures refl c.args.v c.is_stated.ensures c.if-not-is_stated.true)

pub returns : goal.returns
returns c =
    let l = c.args.self.now in
    let s = l.printer in
    let f = s.index.formulas in
    let t = s.index.numbers.now in
    let h = s.book in
    let below : c.args.i < places_of f s.counts.principals = omega (arith, l.sized, c.requires.below.0) in
    prints_as (sym (the_line s.audience f t s.counts h l.names l.named c.args.i below c.mode_of.ensures c.of_rank.ensures c.other_of.ensures refl c.args.v c.requires.below.1 c.is_stated.ensures c.if-not-is_stated.false)) c.put_held.ensures
