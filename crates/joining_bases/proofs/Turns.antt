-- Laws of a round, basis by basis: those before j have joined, by the members that were there when the round began, and
-- the support is these and the products of the blocks as they are.
use mathlib.Core.Path.{◌≡◌, refl, sym, ap, ◌∙◌}
use mathlib.Core.Logic.{inl, ⊎_elim}
use mathlib.Core.List.{List, []}
use Prim.Native.Nat.{ℕ, ◌+◌, ◌-◌, ◌*◌, ◌≤◌, ◌<◌}
use native.Mathlib.Omega.{arith}
use lib.ListN.{length, get_or, take, drop, set, length-set}
use lib.Seq.{take-take, get_or-set_same, get_or-set_other}
use Rattle.counting.specs.Counting.{listed}
use Rattle.counting.proofs.Cases.{lt_or_le}
use Rattle.counting.proofs.Listed.{same_or_not, listed_all}
use Rattle.joining_rule.specs.Join.{join}
use Rattle.joining_rule.specs.Rounds.{Bases, State, join_all, adding_bases, round}
use Rattle.joining_rule.proofs.Rising.{Rising}
use Rattle.joining_rule.proofs.Joined.{join_equal}
use Rattle.joining_rule.proofs.Rounds.{Shaped, AllNumbered, adding_most, round_labels, round_shaped}
use Rattle.key_set.specs.Table.{keys_in, Stored}
use Rattle.key_set.proofs.Keys.{keys_rising, keys_first, stored_none}
use Rattle.flat.specs.Flat.{basis_in}
use Rattle.flat.proofs.Flat.{part_take, part_length}
use Rattle.round_laws.specs.Joins.{Through, Blocks, Recent}
use Rattle.round_laws.specs.Added.{Products}
use Rattle.round_laws.proofs.Joins.{joins_once, join_is}
use Rattle.round_laws.proofs.Added.{extend_products, between_products, within_products, round_agrees}
use Rattle.joining_blocks.specs.Standing.{standing, latest, Ready}
use Rattle.joining_blocks.specs.declared.Reach.{Reach}
use Rattle.joining_products.proofs.Growing.{stored_then}
use Rattle.joining_bases.specs.Parts.{piece, exponents_in, bases_in, labels_at, labels_in, Sizes, Arrays}
use Rattle.joining_bases.specs.Nine.{Nine, nine, stage, reach_at, standing_at, begun, AsksAt, JoinedAt, AllReady, RoundAsks, Rounded}
use Rattle.joining_bases.proofs.Pieces.{turned, turned_none, turned_before, turned_from, turned_more, turned_all}
use Rattle.joining_bases.proofs.Labels.{labels_nine, labels_at_lem, labels_set, others_kept}
use Rattle.joining_bases.proofs.Ready.{stored_over, ready_grows, grew_keys, grew_more, grew_between}

-- ---- the arrays
module _ (keys sizes : List ℕ) (a : Arrays keys sizes) where
  pub basis_long : (j : ℕ) → j < 9 → length (basis_in keys sizes j) ≡ get_or sizes j 0
  basis_long j h = part_length (get_or sizes j 0) (64 * j) keys (a.bases j h)

  pub arrays_sizes : Sizes sizes
  arrays_sizes = record { nine = omega (arith, a.counted); small = λ j h. omega (arith, basis_long j h, (a.limits j h).basis.few) }

  -- the blocks of basis j, as it stands
  pub held_at : (s : Nine) (j : ℕ) → j < 9 → get_or (labels_in sizes s.labels) j [] ≡ labels_at sizes s.labels j
  held_at s j h = labels_at_lem sizes s.labels j h

  module _ (s : Nine) (r : AllReady keys sizes s) where
    pub held_long : (j : ℕ) → j < 9 → length (labels_at sizes s.labels j) ≡ length (basis_in keys sizes j)
    held_long j h = (r.at j h).blocks.size

    pub held_shaped : Shaped (bases_in keys sizes) (labels_in sizes s.labels)
    held_shaped = record { nine = labels_nine sizes s.labels; long = λ j h. ap length (held_at s j h) ∙ held_long j h }

    pub held_numbered : AllNumbered (bases_in keys sizes) (labels_in sizes s.labels)
    held_numbered = record { shape = held_shaped; at = λ j h. rw (held_at s j h) (r.at j h).blocks.numbered }

-- ---- a round of the definition, from the state o: those before basis j have joined
unfoldable pub joined_to : Bases → State → ℕ → List (List ℕ)
joined_to g o j =
    turned (λ i. join o.support (g.multiplier i) (g.basis i) (get_or o.labels i [])) (λ i. get_or o.labels i []) j

module _ (g : Bases) (o : State) where
  abbrev joined : ℕ → List ℕ
  joined i = join o.support (g.multiplier i) (g.basis i) (get_or o.labels i [])

  abbrev before : ℕ → List ℕ
  before i = get_or o.labels i []

  joined_none : length o.labels ≡ 9 → o.labels ≡ joined_to g o 0
  unfolding joined_to
  joined_none e = sym (turned_none joined before ∙ ap (λ (n : ℕ). listed n before) (sym e) ∙ listed_all o.labels [])

  joined_from : (j i : ℕ) → i < 9 → j ≤ i → get_or (joined_to g o j) i [] ≡ before i
  unfolding joined_to
  joined_from j i h b = turned_from joined before j i h b []

  joined_more : (j : ℕ) → set (joined_to g o j) j (joined j) ≡ joined_to g o (j + 1)
  unfolding joined_to
  joined_more j = turned_more joined before j

  module _ (rule : ℕ) where
    joined_all : joined_to g o 9 ≡ (round rule g o).labels
    unfolding joined_to round join_all
    joined_all = turned_all joined before

    -- the blocks only grow to those after the round
    joined_coarser : Shaped g o.labels → (j y i k : ℕ) → y < 9 → i < length (g.basis y) → k < length (g.basis y)
        → get_or (get_or (joined_to g o j) y []) i 0 ≡ get_or (get_or (joined_to g o j) y []) k 0 → get_or (get_or (round rule g o).labels y []) i 0 ≡ get_or (get_or (round rule g o).labels y []) k 0
    unfolding joined_to
    joined_coarser f j y i k h u v e =
        rw (round_labels rule g o y h)
        (⊎_elim
        (λ b. rw (turned_before joined before j y h b []) at e)
        (λ b. join_equal o.support (g.multiplier y) (g.basis y) (before y) (f.long y h) i k u v (rw (turned_from joined before j y h b []) at e))
        (lt_or_le y j))

    -- its set is the one before it and the products of its blocks
    round_products : Shaped g o.labels → Rising o.support → Products (adding_bases rule) g (round rule g o).labels o.support (round rule g o).support
    unfolding round
    round_products f r =
        extend_products (adding_bases rule) g o.support (adding_most rule) (join_all g o.support o.labels) o.support (round_shaped rule g o f) r (λ x m. m) (λ x m. inl m)

-- ---- the loop
pub record Turn (keys sizes : List ℕ) (s₀ : Nine) (j : ℕ) (s : Nine) : Type 0 where
  pub ready : AllReady keys sizes s
  pub labels : labels_in sizes s.labels ≡ joined_to (bases_in keys sizes) (begun sizes s₀) j
  pub products : Products s₀.stage.adding (bases_in keys sizes) (labels_in sizes s.labels) (begun sizes s₀).support (keys_in s.stage.len s.table)
  pub stored : Stored s₀.stage.len (keys_in s.stage.len s.table) s₀.table s.stage.len s.table s.index
  pub more : s₀.stage.len ≤ s.stage.len
  pub pairs : length s.pairs ≡ length s₀.pairs

recent_as : (S S' T B L L' F F' : List ℕ) → S ≡ S' → L ≡ L' → F ≡ F' → Recent S' T B L' F' → Recent S T B L F
recent_as S S' T B L L' F F' a b c r = rw (a, b, c) r

module _ (keys sizes : List ℕ) (s₀ : Nine) (asks : RoundAsks keys sizes s₀) where
  abbrev g : Bases
  g = bases_in keys sizes

  abbrev o : State
  o = begun sizes s₀

  shaped : Shaped g o.labels
  shaped = held_shaped keys sizes asks.arrays s₀ asks.ready

  pub turn_start : Turn keys sizes s₀ 0 s₀
  turn_start =
      let b = (asks.ready.at 0 (omega arith)).basis in
      record {
        ready = asks.ready;
        labels = joined_none g o shaped.nine;
        products = asks.products;
        stored = stored_none b.support b.index;
        more = omega arith;
        pairs = refl;
      }

  module _ (j : ℕ) (labels follow pairs t idx state : List ℕ) (n : ℕ) (u : Turn keys sizes s₀ j (nine labels follow pairs t idx state (stage s₀.stage.since s₀.stage.until n s₀.stage.adding))) where
    abbrev s : Nine
    s = nine labels follow pairs t idx state (stage s₀.stage.since s₀.stage.until n s₀.stage.adding)

    few : n ≤ 2048
    few = (u.ready.at 0 (omega arith)).basis.support.few

    -- what the joinings look at is as it was
    same_first : take s₀.stage.until t ≡ take s₀.stage.until s₀.table
    same_first =
        let m = (asks.ready.at 0 (omega arith)).until in
        sym (take-take s₀.stage.until s₀.stage.len t m) ∙ ap (take s₀.stage.until) (u.stored.first few) ∙ take-take s₀.stage.until s₀.stage.len s₀.table m

    same_keys : keys_in s₀.stage.until t ≡ o.support
    same_keys = keys_first s₀.stage.until t s₀.table same_first

    same_latest : latest t s₀.stage.since s₀.stage.until ≡ latest s₀.table s₀.stage.since s₀.stage.until
    same_latest =
        let a = s₀.stage.since in
        let b = s₀.stage.until in
        let m : a + (b - a) ≤ b = omega (arith, (asks.ready.at 0 (omega arith)).since) in
        sym (part_take (b - a) a b t m) ∙ ap (λ (l : List ℕ). take (b - a) (drop a l)) same_first ∙ part_take (b - a) a b s₀.table m

    module _ (h : j < 9) where
      abbrev T : List ℕ
      T = exponents_in keys sizes j

      abbrev B : List ℕ
      B = basis_in keys sizes j

      -- basis j has not joined yet
      not_joined : labels_at sizes labels j ≡ get_or o.labels j []
      not_joined = sym (held_at keys sizes asks.arrays s j h) ∙ ap (λ (L : List (List ℕ)). get_or L j []) u.labels ∙ joined_from g o j j h (omega arith)

      pub turn_asks : AsksAt keys sizes labels follow pairs t idx (reach_at state (stage s₀.stage.since s₀.stage.until n s₀.stage.adding) j) j
      turn_asks = record {
        arrays = asks.arrays;
        basis = h;
        long = u.ready.bytes.long;
        links = u.ready.links;
        room = u.ready.room;
        joining = record {
          ready = u.ready.at j h;
          recent = recent_as _ _ T B _ _ _ _ same_keys (not_joined ∙ held_at keys sizes asks.arrays s₀ j h) same_latest (asks.recent j h);
        };
      }

      module _ (labels' follow' pairs' t' idx' : List ℕ) (r' : Reach) (k : JoinedAt keys sizes labels follow pairs t idx (reach_at state (stage s₀.stage.since s₀.stage.until n s₀.stage.adding) j) j labels' follow' pairs' t' idx' r') where
        abbrev M : List ℕ
        M = labels_at sizes labels' j

        -- where the support has too many keys, that of the round has
        pub turn_over : 2048 < r'.len → (rule : ℕ) → adding_bases rule ≡ s₀.stage.adding
            → Stored s₀.stage.len (round rule g o).support s₀.table r'.len t' idx'
        turn_over b rule e =
            stored_over s₀.stage.len k.grew.set s₀.table r'.len t' idx'
            (stored_then s₀.stage.len (keys_in n t) s₀.table n t idx u.more few u.stored k.grew.set r'.len t' idx' k.grew.stored)
            b (round rule g o).support
            (within_products s₀.stage.adding g o.support (labels_in sizes labels) (round rule g o).labels (keys_in n t) k.grew.set (round rule g o).support u.products
            (rw e at (round_products g o rule shaped (keys_rising s₀.stage.until s₀.table)))
            (rw u.labels (joined_coarser g o rule shaped j))
            asks.adding j h (Through T B (keys_in s₀.stage.until t))
            (rw (round_labels rule g o j h, same_keys) (join_is o.support T B (get_or o.labels j []) blocks_before).joins)
            (rw (held_at keys sizes asks.arrays s j h) k.grew.within))
          where
            blocks_before : Blocks B (get_or o.labels j [])
            blocks_before = record { long = shaped.long j h; numbered = (held_numbered keys sizes asks.arrays s₀ asks.ready).at j h }

        module _ (b : r'.len ≤ 2048) where
          new : keys_in r'.len t' ≡ k.grew.set
          new = grew_keys T B _ (standing_at sizes s j) _ (u.ready.at j h) k.grew b

          -- the blocks are those of the rule
          pub turn_joined : M ≡ joined g o j
          turn_joined =
              let e = held_long keys sizes asks.arrays s u.ready j h in
              joins_once (length B) (Through T B (keys_in s₀.stage.until t)) (labels_at sizes labels j) M _ e (k.grew.fits b).joins
              (join_is (keys_in s₀.stage.until t) T B (labels_at sizes labels j) (record { long = e; numbered = (u.ready.at j h).blocks.numbered }))
              ∙ rw (same_keys, not_joined) refl

          abbrev s' : Nine
          s' = nine labels' follow' pairs' t' idx' (set state j r'.blocks) (stage s₀.stage.since s₀.stage.until r'.len s₀.stage.adding)

          now_labels : labels_in sizes labels' ≡ set (labels_in sizes labels) j M
          now_labels = labels_set sizes labels j h labels' k.other_labels

          now_products : Products s₀.stage.adding g (set (labels_in sizes labels) j M) o.support k.grew.set
          now_products =
              let e = held_at keys sizes asks.arrays s j h in
              between_products s₀.stage.adding g o.support (labels_in sizes labels) (keys_in n t) k.grew.set u.products j h
              (omega (arith, labels_nine sizes labels)) M
              (rw e (k.grew.fits b).joins.keeps)
              (rw e (grew_between T B _ (standing_at sizes s j) _ (u.ready.at j h) k.grew b))

          now_more : n ≤ r'.len
          now_more = grew_more T B _ (standing_at sizes s j) _ (u.ready.at j h) k.grew b

          now_ready : (y : ℕ) → y < 9 → Ready (exponents_in keys sizes y) (basis_in keys sizes y) (standing_at sizes s' y)
          now_ready y c = ⊎_elim (λ e. rw e here) other (same_or_not y j)
            where
              d : Ready T B (standing (labels_at sizes labels' j) (piece 64 follow' j) (piece 6240 pairs' j) t' idx' r')
              d = (k.grew.fits b).ready

              v : Ready (exponents_in keys sizes y) (basis_in keys sizes y) (standing_at sizes s y)
              v = u.ready.at y c

              here : Ready T B (standing_at sizes s' j)
              here =
                  ready_grows T B _ _ _ t' idx' r' d t' idx' (reach_at s'.state s'.stage j) d.basis.support d.basis.index (λ x m. m) v.since (omega (arith, v.until, now_more))
                  (get_or-set_same state j r'.blocks 0 (omega (arith, u.ready.numbers)))
                  (λ _. get_or-set_other state j (9 + j) r'.blocks 0 (λ q. omega arith) ∙ sym k.grew.same.bits)
                  (sym k.grew.same.adds)

              other : (y ≡ j → ⊥) → Ready (exponents_in keys sizes y) (basis_in keys sizes y) (standing_at sizes s' y)
              other q =
                  rw (k.other_labels.others y c q, k.other_follow.others y c q, k.other_pairs.others y c q)
                  (ready_grows (exponents_in keys sizes y) (basis_in keys sizes y) _ _ _ t idx _ v t' idx' (reach_at s'.state s'.stage y) d.basis.support d.basis.index
                  (λ x m. rw new (k.grew.within.keeps x m)) v.since (omega (arith, v.until, now_more))
                  (get_or-set_other state j y r'.blocks 0 q)
                  (λ _. get_or-set_other state j (9 + y) r'.blocks 0 (λ e. omega arith))
                  refl)

          pub turn_next : Turn keys sizes s₀ (j + 1) s'
          turn_next = record {
            ready = record {
              bytes = others_kept sizes labels u.ready.bytes j labels' k.other_labels;
              links = k.other_follow.long ∙ u.ready.links;
              room = record { at = λ y c l. k.other_pairs.long ∙ u.ready.room.at y c l };
              numbers = length-set state j r'.blocks ∙ u.ready.numbers;
              at = now_ready;
            };
            labels = now_labels ∙ rw (u.labels, turn_joined) (joined_more g o j);
            products = rw (now_labels, new) now_products;
            stored = rw new (stored_then s₀.stage.len (keys_in n t) s₀.table n t idx u.more few u.stored k.grew.set r'.len t' idx' k.grew.stored);
            more = omega (arith, u.more, now_more);
            pairs = k.other_pairs.long ∙ u.pairs;
          }

    -- all have joined
    pub turn_end : 9 ≤ j → j ≤ 9 → (rule : ℕ) → adding_bases rule ≡ s₀.stage.adding → Rounded keys sizes (round rule g o) s₀.stage.len s₀.table s
    turn_end c d rule e =
        let q : j ≡ 9 = omega arith in
        let l : labels_in sizes labels ≡ (round rule g o).labels = u.labels ∙ ap (joined_to g o) q ∙ joined_all g o rule in
        let w : keys_in n t ≡ (round rule g o).support =
        round_agrees rule g o.support o (keys_in n t) shaped (keys_rising s₀.stage.until s₀.table) (λ x m. m) (λ x m. inl m) (rw (l, ← e) at u.products) in
        record { stored = rw w at u.stored; labels = λ _. l; ready = λ _. u.ready }
