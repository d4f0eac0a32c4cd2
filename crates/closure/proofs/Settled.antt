-- What is left on each way out: where a set on the way to the counted keys is too large, they are too many.
use mathlib.Core.Path.{◌≡◌, sym, ap, ◌∙◌}
use mathlib.Core.Bool.{Bool, true, false}
use mathlib.Core.List.{List}
use Prim.Native.Nat.{ℕ, ◌≤◌, ◌<◌}
use native.Mathlib.Omega.{arith}
use lib.Dec.{ltb}
use lib.ListN.{length, drop}
use borrow.Author.Tests.{lt-ltb, le-ltb}
use Rattle.std.proofs.Common.{Result, Ok, Err, IsErr, IfOk, subst}
use Rattle.joining_rule.specs.Sets.{insert}
use Rattle.key_set.specs.Table.{keys_in, Holds, Indexed, Grown, Stored}
use Rattle.joining_rule.proofs.Elements.{insert_grows}
use Rattle.joining_rule.specs.Rounds.{Bases, State, Closing, extend_to, start, after, closing_of, counted_keys}
use Rattle.joining_bases.specs.Parts.{bases_in, labels_in, Arrays}
use Rattle.joining_rule.specs.Bytes.{block_bytes}
use Rattle.joining_bases.specs.Settled.{Settled, Missing}
use Rattle.joining_bases.proofs.Labels.{labels_of}
use Rattle.joining_bases.proofs.Turns.{basis_long, arrays_sizes}
use Rattle.joining_rule.proofs.Bytes.{bytes_long}
use Rattle.joining_rule.proofs.Closing.{closing_state, closing_shaped, closing_full}
use Rattle.joining_rule.proofs.Counted.{counted_extends}
use Rattle.joining_rule.proofs.Extending.{Extends}
use Rattle.joining_rule.proofs.Rounds.{after_extends}
use Rattle.joining_bases.specs.declared.Closed.{Closed}
use Rattle.closure.specs.Tables.{ClosureLeft}
use Rattle.closure.specs.declared.Joined.{Joined}
use Rattle.key_set.specs.declared.Full.{Full}

-- the test for refusal 7
abbrev large : Bases → Closing → Bool
large g o = ltb 2048 (length (counted_keys g o.state))

module _ (rule most : ℕ) (g : Bases) (S₀ t : List ℕ) (n : ℕ) (t₁ : List ℕ) (grown : Grown S₀ t n t₁) where
  -- the counted keys have all of the start
  start_few : length S₀ ≤ length (counted_keys g (closing_of rule most g S₀).state)
  unfolding start after
  start_few =
      let x = after_extends rule g (start g S₀) 0 (closing_of rule most g S₀).rounds (omega arith) in
      let y : Extends S₀ (closing_of rule most g S₀).state.support = rw (← closing_state rule most g S₀) at x in
      omega (arith, y.more, (counted_extends g (closing_of rule most g S₀).state).more)

  pub start_large : 2048 < n → true ≡ large g (closing_of rule most g S₀)
  start_large h = sym (lt-ltb 2048 (length (counted_keys g (closing_of rule most g S₀).state)) (omega (arith, grown.count, start_few)))

-- ---- the rounds, the products that may be missing, and the zero exponent, one growth after another
pub close_large : (g : Bases) (o : Closing) (n : ℕ) (t : List ℕ) (f : Full) (t₁ idx₁ l₁ : List ℕ) → Settled o n t (Err f) t₁ idx₁ l₁ → true ≡ large g o
close_large g o n t f t₁ idx₁ l₁ settled =
    sym (lt-ltb 2048 (length (counted_keys g o.state)) (omega (arith, settled.stored.grown.count, (counted_extends g o.state).more)))

module _ (g : Bases) (o : Closing) (n : ℕ) (t : List ℕ) (c : Closed) (t₁ idx₁ l₁ : List ℕ) (settled : Settled o n t (Ok c) t₁ idx₁ l₁) where
  module _ (L : List (List ℕ)) (e : L ≡ o.state.labels) (m : ℕ) (t₂ idx₂ : List ℕ) (products : Stored c.len (extend_to 9 g L (keys_in c.len t₁)) t₁ m t₂ idx₂) where
    abbrev all : List ℕ
    all = extend_to 9 g o.state.labels o.state.support

    grown : Grown all t₁ m t₂
    grown = rw (e, settled.stored.grown.keys settled.few) at products.grown

    pub products_large : 2048 < m → true ≡ large g o
    unfolding counted_keys
    products_large h = sym (lt-ltb 2048 (length (insert 0 all)) (omega (arith, grown.count, insert_grows 0 all)))

    pub products_long : length t₂ ≡ length t
    products_long = grown.long ∙ settled.stored.grown.long

    pub products_rest : drop 2048 t₂ ≡ drop 2048 t
    products_rest = grown.rest ∙ settled.stored.grown.rest

    module _ (some : m ≤ 2048) (len : ℕ) (t₃ idx₃ : List ℕ) (put : Stored m (insert 0 (keys_in m t₂)) t₂ len t₃ idx₃) where
      last : Grown (counted_keys g o.state) t₂ len t₃
      unfolding counted_keys
      last = rw (grown.keys some) at put.grown

      pub put_large : 2048 < len → true ≡ large g o
      put_large h = sym (lt-ltb 2048 (length (counted_keys g o.state)) (omega (arith, last.count)))

      pub put_small : len ≤ 2048 → false ≡ large g o
      put_small h = sym (le-ltb 2048 (length (counted_keys g o.state)) (omega (arith, last.count)))

      pub len_is : len ≤ 2048 → len ≡ length (counted_keys g o.state)
      len_is h = omega (arith, last.count)

      pub put_keys : len ≤ 2048 → keys_in len t₃ ≡ counted_keys g o.state
      put_keys h = last.keys h

      pub put_long : length t₃ ≡ length t
      put_long = last.long ∙ products_long

      pub put_rest : drop 2048 t₃ ≡ drop 2048 t
      put_rest = last.rest ∙ products_rest

-- ---- what the closing leaves in the arrays
module _ (rule most : ℕ) (keys sizes : List ℕ) (a : Arrays keys sizes) (S₀ : List ℕ) where
  abbrev g : Bases
  g = bases_in keys sizes

  abbrev end : State
  end = (closing_of rule most g S₀).state

  module _ (l : List ℕ) (e : l ≡ block_bytes end.labels) where
    -- the bytes give the blocks back
    pub labels_held : labels_in sizes l ≡ end.labels
    labels_held = ap (labels_in sizes) e ∙ labels_of sizes (arrays_sizes keys sizes a) g (basis_long keys sizes a) end.labels (closing_shaped rule most g S₀)

    -- and S has the products of the bases that add
    pub products_held : 0 < most → (len : ℕ) (t idx : List ℕ) → Holds t len → Indexed idx t len → keys_in len t ≡ end.support
        → Missing t idx (record { len = len; rule = rule; most = most }) keys sizes l
    products_held some len t idx h i k = record {
      held = record { support = h; index = i; arrays = a };
      long = ap length e ∙ bytes_long end.labels;
      full = rw (labels_held, k) (closing_full rule most g S₀ some);
    }

-- what is left of a table that is kept beyond its first 2,048 numbers
module _ (g : Bases) (o : Closing) (t t' idx' l' : List ℕ) where
  -- where S is too large
  pub left_full : true ≡ large g o → length t' ≡ length t → drop 2048 t' ≡ drop 2048 t → (r : Result Joined Full) → IsErr r → ClosureLeft g o t r t' idx' l'
  left_full f a b (Ok j) e = cc
  left_full f a b (Err x) e = record { full = f; labels = tt; rounds = tt; blocks = tt; len = tt; keys = tt; index = tt; long = a; rest = b }

  -- where the table came from another, and bases with the same counted keys
  pub left_from : (h : Bases) → counted_keys g o.state ≡ counted_keys h o.state → (t₀ : List ℕ) → length t ≡ length t₀ → drop 2048 t ≡ drop 2048 t₀
      → (r : Result Joined Full) → ClosureLeft g o t r t' idx' l' → ClosureLeft h o t₀ r t' idx' l'
  left_from h e t₀ a b r w = record {
    full = w.full ∙ ap (λ (K : List ℕ). ltb 2048 (length K)) e;
    labels = w.labels;
    rounds = w.rounds;
    blocks = w.blocks;
    len = subst (λ (K : List ℕ). IfOk r (λ j. j.len ≡ length K)) e w.len;
    keys = subst (λ (K : List ℕ). IfOk r (λ j. keys_in j.len t' ≡ K)) e w.keys;
    index = w.index;
    long = w.long ∙ a;
    rest = w.rest ∙ b;
  }
