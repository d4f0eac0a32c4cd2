-- Laws of the rounds one after another: between two of them, those that are left lead to the outcome.
use mathlib.Core.Path.{◌≡◌, refl, sym, ap, ap₂, ◌∙◌}
use mathlib.Core.Logic.{◌⊎◌, inl, inr, ⊎_elim}
use mathlib.Core.Bool.{Bool, true, false, cond}
use mathlib.Core.List.{List, [], ◌++◌}
use Prim.Native.Nat.{ℕ, zero, suc, ◌+◌, ◌-◌, ◌≤◌, ◌<◌}
use native.Mathlib.Omega.{arith}
use lib.ListN.{length, get_or, take}
use lib.Seq.{take-add, take-take}
use Rattle.std.proofs.Common.{Result, Ok, Err, IsErr}
use Rattle.counting.specs.Counting.{sum_to}
use Rattle.counting.proofs.Sums.{sum_to_same}
use Rattle.joining_rule.specs.Sets.{In, different}
use Rattle.joining_rule.specs.Rounds.{Bases, State, Closing, adding_bases, round, same_state, close_from, blocks_in}
use Rattle.joining_rule.specs.Bytes.{block_bytes}
use Rattle.joining_rule.proofs.Rising.{Rising}
use Rattle.joining_rule.proofs.Elements.{in_append, append_in}
use Rattle.joining_rule.proofs.Members.{linked_by}
use Rattle.joining_rule.proofs.Numbered.{different_lowest, lowest_few}
use Rattle.joining_rule.proofs.Joined.{join_equal}
use Rattle.joining_rule.proofs.Full.{full_any}
use Rattle.joining_rule.proofs.Extending.{Extends, extends_refl, extends_trans}
use Rattle.joining_rule.proofs.Only.{rising_shorter}
use Rattle.joining_rule.proofs.Rounds.{Shaped, AllNumbered, adding_most, round_labels, round_joined, round_extends, round_full}
use Rattle.joining_rule.proofs.Same.{close_next, state_same, state_differs}
use Rattle.key_set.specs.Table.{keys_in, Stored}
use Rattle.key_set.specs.declared.Full.{Full}
use Rattle.key_set.proofs.Keys.{keys_rising, keys_first, keys_in_lem, keys_from}
use Rattle.flat.specs.Flat.{basis_in}
use Rattle.round_laws.specs.Joins.{Recent}
use Rattle.round_laws.specs.Added.{Product, Products}
use Rattle.round_laws.proofs.Added.{product_grows}
use Rattle.round_laws.proofs.Ending.{last_round}
use Rattle.joining_pairs.specs.Limits.{ForBasis}
use Rattle.joining_blocks.specs.Standing.{latest}
use Rattle.joining_products.proofs.Growing.{grown_length, stored_then}
use Rattle.joining_bases.specs.Parts.{exponents_in, bases_in, labels_at, labels_in, Arrays}
use Rattle.joining_bases.specs.Nine.{Nine, nine, stage, reach_at, begun, AllReady, RoundAsks, Rounded}
use Rattle.joining_bases.specs.Settled.{Settled}
use Rattle.joining_bases.specs.declared.Closed.{Closed}
use Rattle.joining_bases.proofs.Labels.{bytes_held}
use Rattle.joining_bases.proofs.Ready.{stored_over, ready_grows}
use Rattle.joining_bases.proofs.Turns.{arrays_sizes, held_at, held_long, held_numbered}

-- ---- the definition's rounds
module _ (rule : ℕ) (g : Bases) where
  -- after a round, whether it is the last or not
  or_last : (m : ℕ) (s : State) (c : ℕ) (b : Bool) → Extends s.support (close_from rule g m s c).state.support
      → Extends s.support (cond b (record { state = s; rounds = c }) (close_from rule g m s c)).state.support
  or_last m s c true h = extends_refl s.support
  or_last m s c false h = h

  -- those that are left only grow the support
  pub close_extends : (m : ℕ) (s : State) (c : ℕ) → Extends s.support (close_from rule g m s c).state.support
  unfolding close_from
  close_extends zero s c = extends_refl s.support
  close_extends (suc m) s c =
      rw (close_next rule g m s c)
      (extends_trans s.support (round rule g s).support _ (round_extends rule g s) (or_last m (round rule g s) (c + 1) (same_state s (round rule g s)) (close_extends m (round rule g s) (c + 1))))

  -- and that of the next one, where one is left
  pub close_first : (m : ℕ) (s : State) (c : ℕ) → 0 < m → length (round rule g s).support ≤ length (close_from rule g m s c).state.support
  close_first zero s c h = absurd (omega arith)
  close_first (suc m) s c h =
      rw (close_next rule g m s c) (or_last m (round rule g s) (c + 1) (same_state s (round rule g s)) (close_extends m (round rule g s) (c + 1))).more

  module _ (s : State) (f : Shaped g s.labels) (r : Rising s.support) where
    stays : (j i k : ℕ) → j < adding_bases rule → i < length (g.basis j) → k < length (g.basis j)
        → get_or (get_or s.labels j []) i 0 ≡ get_or (get_or s.labels j []) k 0 → get_or (get_or (round rule g s).labels j []) i 0 ≡ get_or (get_or (round rule g s).labels j []) k 0
    stays j i k h a b e =
        let nine : j < 9 = omega (arith, adding_most rule) in
        rw (round_labels rule g s j nine) (join_equal s.support (g.multiplier j) (g.basis j) (get_or s.labels j []) (f.long j nine) i k a b e)

    product_after : (x : ℕ) → Product (adding_bases rule) g (round rule g s).labels x → In x (round rule g s).support
    product_after x c =
        rw (← c.value)
        (full_any (g.multiplier c.j) (g.basis c.j) (get_or (round rule g s).labels c.j []) (round rule g s).support ((round_full rule g s).at c.j c.adding) c.i c.k c.t c.pair.first c.pair.second c.together c.pair.exponent)

    -- the support after a round has all products of its blocks
    pub round_products : Products (adding_bases rule) g (round rule g s).labels (round rule g s).support (round rule g s).support
    round_products = record { rising = (round_extends rule g s).rising r; starts = λ x m. m; full = product_after; only = λ x m. inl m }

    -- and so those of the blocks before it
    pub round_more : (S : List ℕ) → Products (adding_bases rule) g s.labels s.support S → length S ≤ length (round rule g s).support
    round_more S p =
        rising_shorter S (round rule g s).support p.rising ((round_extends rule g s).rising r)
        (λ x m.
        ⊎_elim
        (λ w. (round_extends rule g s).keeps x w)
        (λ w. product_after x (product_grows (adding_bases rule) g s.support s.labels (round rule g s).labels x stays w))
        (p.only x m))

-- ---- the members that came last: each is a member, and a member is one of them or came before
module _ (t : List ℕ) (a b : ℕ) (h : a ≤ b) where
  latest_split : take b t ≡ take a t ++ latest t a b
  latest_split = let e : b ≡ a + (b - a) = omega arith in ap (λ (n : ℕ). take n t) e ∙ take-add a (b - a) t

  pub latest_in : (x : ℕ) → In x (latest t a b) → In x (keys_in b t)
  latest_in x m = keys_in_lem b t x (rw latest_split (append_in x (take a t) (latest t a b) m))

  pub latest_or : (x : ℕ) → In x (keys_in b t) → In x (take a t) ⊎ In x (latest t a b)
  latest_or x m = in_append x (take a t) (latest t a b) (rw latest_split at (keys_from b t x m))

  -- after a round, what a member links that came before is in one block
  recent_next : (rule : ℕ) (g : Bases) (s : State) → Shaped g s.labels → keys_in a t ≡ s.support → keys_in b t ≡ (round rule g s).support → (j : ℕ) → j < 9
      → Recent (round rule g s).support (g.multiplier j) (g.basis j) (get_or (round rule g s).labels j []) (latest t a b)
  recent_next rule g s f before after j nine = record {
    members = λ x m. rw (← after) (latest_in x m);
    at = λ x y z hx hy q m.
        ⊎_elim
        (λ w. inl (record { same = (round_joined rule g s f j nine).at x y hx hy (linked_by s.support (g.multiplier j) _ z q (rw (← before) (keys_in_lem a t _ w))) }))
        (λ w. inr w)
        (latest_or _ (rw after m));
  }

-- ---- the numbers of blocks
module _ (keys sizes : List ℕ) (a : Arrays keys sizes) (s : Nine) (d : AllReady keys sizes s) where
  pub counts_few : (j : ℕ) → j < 9 → get_or s.state j 0 ≤ 64
  counts_few j h =
      let e = d.at j h in
      let l = labels_at sizes s.labels j in
      omega (arith, e.count, different_lowest l e.blocks.numbered, lowest_few 0 l, held_long keys sizes a s d j h, e.blocks.few)

  pub counts_all : sum_to 9 (λ j. get_or s.state j 0) ≡ blocks_in (labels_in sizes s.labels)
  unfolding blocks_in
  counts_all = sum_to_same 9 _ _ (λ j h. (d.at j h).count ∙ ap different (sym (held_at keys sizes a s j h)))

-- ---- the support would have too many keys
pub settled_full : (o : Closing) (n : ℕ) (t t' idx' S : List ℕ) → Stored n S t 2049 t' idx' → length S ≤ length o.state.support → (r : Result Closed Full) → IsErr r → (l : List ℕ) → Settled o n t r t' idx' l
settled_full o n t t' idx' S k h (Ok c) w l = cc
settled_full o n t t' idx' S k h (Err f) w l = record {
  stored = stored_over n S t 2049 t' idx' k (omega arith) o.state.support h;
  few = tt;
  rounds = tt;
  blocks = tt;
  labels = tt;
}

-- ---- the loop: after c rounds, those that are left of `most` lead to the outcome o. The table was t₀ and had n₀ keys
pub record Running (rule most : ℕ) (o : Closing) (n₀ : ℕ) (t₀ keys sizes : List ℕ) (s : Nine) (c left : ℕ) : Type 0 where
  pub upto : c ≤ most
  pub adding : s.stage.adding ≡ adding_bases rule
  pub asks : RoundAsks keys sizes s
  pub leads : close_from rule (bases_in keys sizes) (most - c) (begun sizes s) c ≡ o
  pub stored : Stored n₀ (keys_in s.stage.len s.table) t₀ s.stage.len s.table s.index
  pub more : n₀ ≤ s.stage.len
  pub apart : length (keys_in s.stage.until s.table) ≡ s.stage.until
  pub whole : 0 < c → s.stage.until ≡ s.stage.len
  pub blocks : left ≡ blocks_in (begun sizes s).labels

module _ (rule most : ℕ) (o : Closing) (n₀ : ℕ) (t₀ keys sizes : List ℕ) (s : Nine) (c left : ℕ) (r : Running rule most o n₀ t₀ keys sizes s c left) where
  abbrev g : Bases
  g = bases_in keys sizes

  abbrev old : State
  old = begun sizes s

  held : ForBasis s.table s.index s.stage.len (exponents_in keys sizes 0) (basis_in keys sizes 0)
  held = (r.asks.ready.at 0 (omega arith)).basis

  numbered : AllNumbered g old.labels
  numbered = held_numbered keys sizes r.asks.arrays s r.asks.ready

  rising : Rising old.support
  rising = keys_rising s.stage.until s.table

  -- all rounds are made
  pub running_out : c ≡ most → 0 < most → Settled o n₀ t₀ (Ok (record { len = s.stage.len; rounds = most; blocks = left })) s.table s.index s.labels
  unfolding close_from
  running_out h b =
      let z : most - c ≡ 0 = omega arith in
      let e : record { state = old; rounds = c } ≡ o = rw z at r.leads in
      let q : keys_in s.stage.len s.table ≡ o.state.support = ap (λ (n : ℕ). keys_in n s.table) (sym (r.whole (omega arith))) ∙ ap (λ (v : Closing). v.state.support) e in
      record {
        stored = rw q at r.stored;
        few = held.support.few;
        rounds = sym h ∙ ap (λ (v : Closing). v.rounds) e;
        blocks = r.blocks ∙ ap (λ (v : Closing). blocks_in v.state.labels) e;
        labels = bytes_held sizes (arrays_sizes keys sizes r.asks.arrays) s.labels r.asks.ready.bytes ∙ ap (λ (v : Closing). block_bytes v.state.labels) e;
      }

  module _ (h : c < most) (labels follow pairs t idx state : List ℕ) (n : ℕ)
      (k : Rounded keys sizes (round rule g old) s.stage.len s.table (nine labels follow pairs t idx state (stage s.stage.since s.stage.until n s.stage.adding))) where
    step : close_from rule g (most - c) old c ≡ cond (same_state old (round rule g old)) (record { state = round rule g old; rounds = c + 1 }) (close_from rule g (most - (c + 1)) (round rule g old) (c + 1))
    step = let z : most - c ≡ suc (most - (c + 1)) = omega arith in rw z (close_next rule g _ old c)

    grown : Stored n₀ (round rule g old).support t₀ n t idx
    grown = stored_then n₀ (keys_in s.stage.len s.table) t₀ s.stage.len s.table s.index r.more held.support.few r.stored (round rule g old).support n t idx k.stored

    -- there are too many keys
    pub running_over : n ≡ 2049 → (x : Result Closed Full) → IsErr x → (l : List ℕ) → Settled o n₀ t₀ x t idx l
    running_over b x w l = settled_full o n₀ t₀ t idx (round rule g old).support (rw b at grown) (rw r.leads at (close_first rule g (most - c) old c (omega arith))) x w l

    module _ (b : n ≤ 2048) (total : ℕ) (e : total ≡ sum_to 9 (λ j. get_or state j 0)) where
      counted : total ≡ blocks_in (labels_in sizes labels)
      counted = e ∙ counts_all keys sizes r.asks.arrays _ (k.ready b)

      new : keys_in n t ≡ (round rule g old).support
      new = k.stored.grown.keys b

      size : length (round rule g old).support ≡ n
      size = grown_length (round rule g old).support s.table n t k.stored.grown b

      -- this round has changed nothing
      pub running_last : n ≡ s.stage.until → total ≡ left → Settled o n₀ t₀ (Ok (record { len = n; rounds = c + 1; blocks = left })) t idx labels
      running_last q f =
          let w : left ≡ blocks_in (round rule g old).labels = sym f ∙ counted ∙ ap blocks_in (k.labels b) in
          let u : round rule g old ≡ old = last_round rule g old numbered (size ∙ q ∙ sym r.apart) (sym w ∙ r.blocks) in
          let y : same_state old (round rule g old) ≡ true = state_same old (round rule g old) (ap (λ (v : State). v.labels) u) (ap (λ (v : State). v.support) u) in
          let v : record { state = round rule g old; rounds = c + 1 } ≡ o = rw y at (sym step ∙ r.leads) in
          record {
            stored = rw (ap (λ (x : Closing). x.state.support) v) at grown;
            few = b;
            rounds = ap (λ (x : Closing). x.rounds) v;
            blocks = w ∙ ap (λ (x : Closing). blocks_in x.state.labels) v;
            labels = bytes_held sizes (arrays_sizes keys sizes r.asks.arrays) labels (k.ready b).bytes ∙ ap block_bytes (k.labels b ∙ ap (λ (x : Closing). x.state.labels) v);
          }

      -- it has changed something
      module _ (d : n ≡ s.stage.until → total ≡ left → ⊥) where
        differs : same_state old (round rule g old) ≡ false
        differs = state_differs old (round rule g old) (λ p q. d (sym size ∙ ap length q ∙ r.apart) (counted ∙ ap blocks_in (k.labels b ∙ p) ∙ sym r.blocks))

        abbrev s' : Nine
        s' = nine labels follow pairs t idx state (stage s.stage.until n n s.stage.adding)

        now : begun sizes s' ≡ round rule g old
        now = ap₂ (λ (L : List (List ℕ)) (S : List ℕ). record { labels = L; support = S }) (k.labels b) new

        further : close_from rule g (most - (c + 1)) (begun sizes s') (c + 1) ≡ o
        further =
            let e : close_from rule g (most - c) old c ≡ close_from rule g (most - (c + 1)) (round rule g old) (c + 1) = rw differs at step in
            ap (λ (v : State). close_from rule g (most - (c + 1)) v (c + 1)) now ∙ sym e ∙ r.leads

        longer : s.stage.len ≤ n
        longer =
            omega (
              arith,
              round_more rule g old numbered.shape rising (keys_in s.stage.len s.table) (rw r.adding at r.asks.products),
              held.support.apart,
              size,
            )

        until_more : s.stage.until ≤ n
        until_more = ((k.ready b).at 0 (omega arith)).until

        same_first : keys_in s.stage.until t ≡ old.support
        same_first =
            let m = (r.asks.ready.at 0 (omega arith)).until in
            keys_first s.stage.until t s.table
            (sym (take-take s.stage.until s.stage.len t m) ∙ ap (take s.stage.until) (k.stored.first b) ∙ take-take s.stage.until s.stage.len s.table m)

        ready_next : AllReady keys sizes s'
        ready_next =
            let e = k.ready b in
            record {
              bytes = e.bytes;
              links = e.links;
              room = e.room;
              numbers = e.numbers;
              at = λ j h.
                  let v = e.at j h in
                  ready_grows (exponents_in keys sizes j) (basis_in keys sizes j) _ _ _ t idx _ v t idx (reach_at state s'.stage j) v.basis.support v.basis.index (λ x m. m) until_more (omega arith) refl (λ _. refl) refl;
            }

        asks_next : RoundAsks keys sizes s'
        asks_next = record {
          arrays = r.asks.arrays;
          adding = r.asks.adding;
          ready = ready_next;
          products = rw (r.adding, k.labels b, new) (round_products rule g old numbered.shape rising);
          recent = λ j h.
              rw (← held_at keys sizes r.asks.arrays s' j h, k.labels b, new)
              (recent_next t s.stage.until n until_more rule g old numbered.shape same_first new j h);
        }

        pub running_more : Running rule most o n₀ t₀ keys sizes s' (c + 1) total
        running_more = record {
          upto = omega arith;
          adding = r.adding;
          asks = asks_next;
          leads = further;
          stored = rw new grown;
          more = omega (arith, r.more, longer);
          apart = ap length new ∙ size;
          whole = λ _. refl;
          blocks = counted;
        }
