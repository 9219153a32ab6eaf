-- The messages of a book as deliveries: number m is 256 times the rank of who receives message m + 1, and its formula.
use Rattle.std.specs.Prelude.{ℕ, zero, suc, ◌+◌, ◌*◌, List, cond, set, take, replicate, leb}
use Rattle.flat.specs.Layout.{rank_at, receiver_at, message_at}

unfoldable pub delivery_at : List ℕ → ℕ → ℕ
delivery_at b m = rank_at b (receiver_at b m) * 256 + message_at b m

-- the first n
unfoldable pub delivered_upto : List ℕ → ℕ → List ℕ → List ℕ
delivered_upto b zero ds = ds
delivered_upto b (suc m) ds = set (delivered_upto b m ds) m (delivery_at b m)

-- all; more than 16 messages, which no book has, leave the deliveries as they are
unfoldable pub deliveries_of : List ℕ → ℕ → List ℕ → List ℕ
deliveries_of b n ds = cond (leb n 16) (delivered_upto b n ds) ds

-- those of the first n messages, in a table that was cleared
abbrev pub listed : List ℕ → ℕ → List ℕ
listed b n = take n (deliveries_of b n (replicate 16 0))
