-- The walk of a sender as one pass down over marks: no tree is walked. For our own functions; that this is `Meets` of the trees is proved in
-- proofs/WalkOverTrees.antt. `look x` is formula x.
use Rattle.std.specs.Prelude.{ℕ, zero, suc, ◌+◌, ◌*◌, ◌/◌, ◌%◌, List, [], ◌∷◌, Bool, cond, ◌&&◌, ◌||◌, get_or, set, eqb}
use Rattle.logic.specs.declared.Record.{Record}

-- the number of the mark that says that x is met, in the open (0) or inside a section from the sender (1)
abbrev pub mark_of : (x inside : ℕ) → ℕ
mark_of x inside = 2 * x + inside

-- encrypted or signed
abbrev pub is_section : ℕ → Bool
is_section k = eqb k 5 || eqb k 6

-- where the walk for the sender a goes on from a formula with the record r
unfoldable pub onward : (a : ℕ) → Record → (inside : ℕ) → List ℕ
onward a r inside =
    cond (eqb r.kind 4) (mark_of r.first inside ∷ mark_of r.second inside ∷ [])
    (cond (eqb r.kind 7) (mark_of r.first inside ∷ [])
    (cond (is_section r.kind && eqb r.third a) (mark_of r.first 1 ∷ [])
    []))

-- the table t with these marks
unfoldable pub with_marks : (t l : List ℕ) → List ℕ
with_marks t [] = t
with_marks t (i ∷ l) = with_marks (set t i 1) l

-- from the mark i, if it is set
unfoldable pub spread : (look : ℕ → Record) (a : ℕ) (t : List ℕ) (i : ℕ) → List ℕ
spread look a t i = cond (eqb (get_or t i 0) 0) t (with_marks t (onward a (look (i / 2)) (i % 2)))

-- from the marks below i, downwards
unfoldable pub walk_down : (look : ℕ → Record) (a : ℕ) (t : List ℕ) (i : ℕ) → List ℕ
walk_down look a t zero = t
walk_down look a t (suc i) = walk_down look a (spread look a t i) i

-- the walk from formula z, which is met in the open
unfoldable pub walk_from : (look : ℕ → Record) (a z : ℕ) (t : List ℕ) → List ℕ
walk_from look a z t = walk_down look a (set t (mark_of z 0) 1) (mark_of z 0 + 1)
