use Rattle.layout.specs.Flat.{messages_in}
use mathlib.Core.Path.{◌≡◌}
use Rattle.layout.proofs.lay_messages.Given as goal

abbrev pub invariant-loop-m : goal.invariant-loop-m
invariant-loop-m l = l.flat ≡ messages_in l.index.numbers.now l.m l.initial.flat
