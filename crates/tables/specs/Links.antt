-- The statements about each key and each secret as chains: number x of the links is the last statement about x, number 256 + y the one
-- before statement y about the same. 0 is none: record 0 is never a statement.
use Rattle.std.specs.Prelude.{ℕ, zero, suc, ◌+◌, List, Bool, cond, ◌&&◌, get_or, set, eqb, leb, ltb}
use Rattle.flat.specs.Layout.{kind_at, first_at, second_at}

-- kinds 8, 9 and 10 say whose a key or a secret is
unfoldable pub is_statement : List ℕ → ℕ → Bool
is_statement b y = leb 8 (kind_at b y) && ltb (kind_at b y) 11

-- the key or the secret that statement y is about
unfoldable pub about_of : List ℕ → ℕ → ℕ
about_of b y = cond (eqb (kind_at b y) 9) (first_at b y) (second_at b y)

-- y in front of the chain of k
unfoldable pub in_front : List ℕ → (k y : ℕ) → List ℕ
in_front links k y = set (set links (256 + y) (get_or links k 0)) k y

unfoldable pub linked_one : List ℕ → ℕ → List ℕ → List ℕ
linked_one b y links = cond (is_statement b y) (in_front links (about_of b y) y) links

-- the links with the first n records
unfoldable pub linked_upto : List ℕ → ℕ → List ℕ → List ℕ
linked_upto b zero links = links
linked_upto b (suc y) links = linked_one b y (linked_upto b y links)

-- with all records; more than 256 leave the links as they are
unfoldable pub linked : List ℕ → ℕ → List ℕ → List ℕ
linked b n links = cond (leb n 256) (linked_upto b n links) links
