-- An extension only adds, and what is full stays so.
use mathlib.Core.Path.{◌≡◌, refl, ◌∙◌}
use mathlib.Core.Bool.{Bool, true, false, cond}
use mathlib.Core.List.{List, [], ◌∷◌}
use Prim.Native.Nat.{ℕ, ◌+◌, ◌≤◌}
use native.Mathlib.Nat.{le_refl, le_trans}
use native.Mathlib.Omega.{arith}
use lib.ListN.{length, get_or}
use lib.Dec.{eqb}
use Rattle.joining_rule.specs.Sets.{insert, In}
use Rattle.joining_rule.proofs.Rising.{Rising}
use Rattle.joining_rule.proofs.Elements.{insert_keeps, insert_rising, insert_grows, insert_same}
use Rattle.counting.specs.Counting.{from_to}
use Rattle.counting.proofs.Steps.{from_to_keeps}
use Rattle.joining_rule.specs.Extend.{add_terms, add_pair, add_row, extend}
use Rattle.joining_rule.proofs.FullSets.{Full}

-- ---- the set never shrinks, and stays in order

-- S' is S grown: in order where S is, with all that S has, and at least as long
pub record Extends (S S' : List ℕ) : Type 0 where
  pub rising : Rising S → Rising S'
  pub keeps : (x : ℕ) → In x S → In x S'
  pub more : length S ≤ length S'
  pub same : length S' ≡ length S → S' ≡ S

pub extends_refl : (S : List ℕ) → Extends S S
extends_refl S = record { rising = λ r. r; keeps = λ x m. m; more = le_refl (length S); same = λ _. refl }

pub extends_trans : (S S' S'' : List ℕ) → Extends S S' → Extends S' S'' → Extends S S''
extends_trans S S' S'' a b = record {
  rising = λ r. b.rising (a.rising r);
  keeps = λ x m. b.keeps x (a.keeps x m);
  more = le_trans a.more b.more;
  same = λ e. b.same (omega (arith, a.more, b.more)) ∙ a.same (omega (arith, a.more, b.more));
}

pub insert_extends : (k : ℕ) (S : List ℕ) → Extends S (insert k S)
insert_extends k S = record { rising = insert_rising k S; keeps = λ x m. insert_keeps x k S m; more = insert_grows k S; same = insert_same k S }

pub add_extends : (T : List ℕ) (s : ℕ) (S : List ℕ) → Extends S (add_terms T s S)
unfolding add_terms
add_extends [] s S = extends_refl S
add_extends (t ∷ ts) s S = extends_trans S (insert (t + s) S) (add_terms ts s (insert (t + s) S)) (insert_extends (t + s) S) (add_extends ts s (insert (t + s) S))

pub from_to_extends : (f : ℕ → List ℕ → List ℕ) → ((k : ℕ) (S : List ℕ) → Extends S (f k S)) → (a n : ℕ) (S : List ℕ) → Extends S (from_to a n f S)
from_to_extends f h a n S = from_to_keeps (Extends S) f n a (λ k S' _ _ e. extends_trans S S' (f k S') e (h k S')) S (extends_refl S)

module _ (T B L : List ℕ) where
  pub one_extends : (i k : ℕ) (S : List ℕ) → Extends S (add_pair T B L i k S)
  unfolding add_pair
  one_extends i k S = go (eqb (get_or L i 0) (get_or L k 0))
    where
      go : (b : Bool) → Extends S (cond b (add_terms T (get_or B i 0 + get_or B k 0) S) S)
      go true = add_extends T (get_or B i 0 + get_or B k 0) S
      go false = extends_refl S

  pub rest_of_row_extends : (i a : ℕ) (S : List ℕ) → Extends S (from_to a (length B) (add_pair T B L i) S)
  rest_of_row_extends i a S = from_to_extends (add_pair T B L i) (one_extends i) a (length B) S

  pub rest_extends : (a : ℕ) (S : List ℕ) → Extends S (from_to a (length B) (add_row T B L) S)
  rest_extends a S = from_to_extends (add_row T B L) (λ i S'. rest_of_row_extends i i S') a (length B) S

  pub extend_extends : (S : List ℕ) → Extends S (extend T B L S)
  unfolding extend
  extend_extends S = rest_extends 0 S

-- ---- a set that the round before has filled

pub full_keeps : (T B L S S' : List ℕ) → Extends S S' → Full T B L S → Full T B L S'
full_keeps T B L S S' x f = record { at = λ i k h u. record { at = λ q t m. x.keeps _ ((f.at i k h u).at q t m) } }
