-- The order of a certificate's rows: rows that are the same but for their order, and but for the offsets of their
-- entries, which a stream with another order (format's `OtherOrder`) has elsewhere.
use Rattle.std.specs.Prelude.{◌≡◌, List, [], ◌∷◌}
use Rattle.format.specs.CertificateRules.{Entry, Row}

-- entries without their offsets
abbrev pub unplaced : List Entry → List Entry
unplaced [] = []
unplaced (e ∷ es) = record { index = e.index; factor = e.factor; place = 0 } ∷ unplaced es

-- two rows with one basis, one weight, and the same indices and factors
pub record SameRow (r r' : Row) : Type 0 where
  pub basis : r.basis ≡ r'.basis
  pub weight : r.weight ≡ r'.weight
  pub entries : unplaced r.entries ≡ unplaced r'.entries

-- "the order of a certificate's rows": each row of one list is a row of the other. Any exchange of neighbours, one
-- after another, gives any order
pub data Reordered : List Row → List Row → Type 0 where
  none : Reordered [] []
  same : {r r' : Row} {rs rs' : List Row} → SameRow r r' → Reordered rs rs' → Reordered (r ∷ rs) (r' ∷ rs')
  exchanged : {r r' : Row} {rs : List Row} → Reordered (r ∷ r' ∷ rs) (r' ∷ r ∷ rs)
  then : {rs rs' rs'' : List Row} → Reordered rs rs' → Reordered rs' rs'' → Reordered rs rs''
