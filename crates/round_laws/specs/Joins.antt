-- A joining by pairs of indices, whatever tells the pairs; and the joining by those members of the support that came
-- last. S, T, B and L are as in Join.antt of joining_rule, and F has the members that came last.
use Rattle.std.specs.Prelude.{◌≡◌, ◌⊎◌, List, ℕ, ◌+◌, ◌*◌, ◌≤◌, ◌<◌, length, get_or}
use Rattle.joining_rule.specs.Sets.{In}
use Rattle.joining_rule.proofs.Numbered.{Numbered}

-- the indices x and y are in one block
pub record Together (L : List ℕ) (x y : ℕ) : Type 0 where
  pub same : get_or L x 0 ≡ get_or L y 0

-- every two of the indices below n that are in P are in one block
pub record Has (P : ℕ → ℕ → Type 0) (n : ℕ) (L : List ℕ) : Type 0 where
  pub at : (x y : ℕ) → x < n → y < n → P x y → Together L x y

-- L' is L with the blocks of every two indices in P made one, and no others: any blocks M that have P and L have L'
pub record Joins (P : ℕ → ℕ → Type 0) (n : ℕ) (L L' : List ℕ) : Type 0 where
  pub long : length L' ≡ length L
  pub numbered : Numbered L'
  pub keeps : Has (Together L) n L'
  pub joins : Has P n L'
  pub only : (M : List ℕ) → Has P n M → Has (Together L) n M → Has (Together L') n M

-- pairs of indices below n that are among others, and pairs that are those of two kinds
abbrev pub Among : (ℕ → ℕ → Type 0) → (ℕ → ℕ → Type 0) → ℕ → Type 0
Among P R n = (x y : ℕ) → x < n → y < n → P x y → R x y

pub record Parts (P Q R : ℕ → ℕ → Type 0) (n : ℕ) : Type 0 where
  pub split : (x y : ℕ) → x < n → y < n → R x y → P x y ⊎ Q x y
  pub left : Among P R n
  pub right : Among Q R n

-- the pairs: i and k; two with a sum; two that some exponent t links, with t + b + b' in S; those of the items of a
-- list
pub record Two (i k x y : ℕ) : Type 0 where
  pub first : x ≡ i
  pub second : y ≡ k

pub record WithSum (B : List ℕ) (s x y : ℕ) : Type 0 where
  pub sum : get_or B x 0 + get_or B y 0 ≡ s

pub record Through (T B S : List ℕ) (x y : ℕ) : Type 0 where
  pub t : ℕ
  pub exponent : In t T
  pub hits : In (t + (get_or B x 0 + get_or B y 0)) S

pub record SomeOf (P : ℕ → ℕ → ℕ → Type 0) (items : List ℕ) (x y : ℕ) : Type 0 where
  pub item : ℕ
  pub listed : In item items
  pub holds : P item x y

-- those that S links, in their order, at the places from q on and before p: place 64x + y belongs to the indices x
-- and y
pub record LinkedIn (T B S : List ℕ) (q p x y : ℕ) : Type 0 where
  pub order : x < y
  pub from : q ≤ 64 * x + y
  pub before : 64 * x + y < p
  pub through : Through T B S x y

-- those with the sum s, in their order, at the places from v on
pub record SumFrom (B : List ℕ) (s v x y : ℕ) : Type 0 where
  pub sum : get_or B x 0 + get_or B y 0 ≡ s
  pub order : x < y
  pub from : v ≤ 64 * x + y

-- what a joining of B by pairs asks of its blocks
pub record Blocks (B L : List ℕ) : Type 0 where
  pub long : length L ≡ length B
  pub numbered : Numbered L

-- what all members of S link is in one block already, or a member that came last links it
pub record Recent (S T B L F : List ℕ) : Type 0 where
  pub members : (x : ℕ) → In x F → In x S
  pub at : (x y t : ℕ) → x < length B → y < length B → In t T → In (t + (get_or B x 0 + get_or B y 0)) S
      → Together L x y ⊎ In (t + (get_or B x 0 + get_or B y 0)) F
