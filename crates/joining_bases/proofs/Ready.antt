-- Laws of how things stand with one basis: while the others join, and what its own joining leaves.
use mathlib.Core.Path.{◌≡◌, sym, ◌∙◌}
use mathlib.Core.Logic.{inl, inr, ⊎_elim}
use mathlib.Core.List.{List}
use Prim.Native.Nat.{ℕ, ◌≤◌, ◌<◌}
use native.Mathlib.Omega.{arith}
use lib.ListN.{length, get_or}
use Rattle.std.proofs.Common.{Result, IsErr, IfOk}
use Rattle.std.proofs.lemmas.Result.{IfOk-from_err}
use Rattle.counting.proofs.Listed.{same_or_not}
use Rattle.joining_rule.specs.Sets.{In}
use Rattle.joining_rule.proofs.Full.{full_any}
use Rattle.joining_rule.proofs.Only.{rising_shorter}
use Rattle.key_set.specs.Table.{keys_in, count_in, Holds, Indexed, Stored}
use Rattle.key_set.specs.declared.Full.{Full}
use Rattle.key_set.proofs.Keys.{keys_rising}
use Rattle.round_laws.specs.Added.{Between}
use Rattle.round_laws.proofs.Sums.{done_grows}
use Rattle.joining_products.specs.Adding.{plain}
use Rattle.joining_blocks.specs.Standing.{Standing, standing, support, Ready, Grew}
use Rattle.joining_blocks.specs.declared.Reach.{Reach}
use Rattle.joining_products.proofs.Growing.{grown_length, count_full}

-- a set that is too large stays so
pub stored_over : (n : ℕ) (S t : List ℕ) (r : ℕ) (t' idx' : List ℕ) → Stored n S t r t' idx' → 2048 < r → (S' : List ℕ) → length S ≤ length S' → Stored n S' t r t' idx'
stored_over n S t r t' idx' g b S' x = record {
  grown = record { count = omega (arith, g.grown.count); keys = λ q. absurd (omega arith); long = g.grown.long; rest = g.grown.rest };
  index = λ q. absurd (omega arith);
  first = λ q. absurd (omega arith);
}

-- the answer that hands it on
pub stored_full : (n : ℕ) (S t t' idx' : List ℕ) → Stored n S t 2049 t' idx' → (S' : List ℕ) → length S ≤ length S' → (r : Result ℕ Full) → IsErr r → Stored n S' t (count_in r) t' idx' × IfOk r (λ k. k ≤ 2048)
stored_full n S t t' idx' g S' x r w = (rw (count_full r w) (stored_over n S t 2049 t' idx' g (omega arith) S' x), IfOk-from_err r _ w)

module _ (T B : List ℕ) where
  -- another basis has added to the support, or how far the round is was told anew
  pub ready_grows : (b f p t i : List ℕ) (r : Reach) → Ready T B (standing b f p t i r) → (t' i' : List ℕ) (r' : Reach)
      → Holds t' r'.len → Indexed i' t' r'.len → ((x : ℕ) → In x (keys_in r.len t) → In x (keys_in r'.len t'))
      → r'.since ≤ r'.until → r'.until ≤ r'.len → r'.blocks ≡ r.blocks → (plain < length B → r'.bits ≡ r.bits) → r'.adds ≡ r.adds
      → Ready T B (standing b f p t' i' r')
  ready_grows b f p t i r d t' i' r' h x keeps since until blocks bits adds = record {
    basis = record { support = h; index = x; basis = d.basis.basis };
    blocks = d.blocks;
    count = blocks ∙ d.count;
    since = since;
    until = until;
    full = λ e.
        let w = d.full (sym adds ∙ e) in
        record { at = λ u v a c. record { at = λ q y m. keeps _ ((w.at u v a c).at q y m) } };
    index = d.index;
    done = λ e l.
        let w = d.done (sym adds ∙ e) l in
        record { at = λ q a c. done_grows T (keys_in r.len t) (keys_in r'.len t') _ keeps (w.at q a c) };
    met = d.met;
    bits = λ l. rw (bits l) (d.bits l);
  }

  -- a small basis has no index of pairs
  module _ (small : length B ≤ plain) where
    pub ready_small : (b f p t i : List ℕ) (r : Reach) → Ready T B (standing b f p t i r) → (q : List ℕ) → Ready T B (standing b f q t i r)
    ready_small b f p t i r d q = record {
      basis = d.basis;
      blocks = d.blocks;
      count = d.count;
      since = d.since;
      until = d.until;
      full = d.full;
      index = record { all = λ l. absurd (omega arith); slots = λ l. absurd (omega arith) };
      done = λ _ l. absurd (omega arith);
      met = λ l. absurd (omega arith);
      bits = λ l. absurd (omega arith);
    }

    pub grew_small : (P : ℕ → ℕ → Type 0) (b f p t i : List ℕ) (r : Reach) (b' f' p' t' i' : List ℕ) (r' : Reach)
        → Grew T B P (standing b f p t i r) (standing b' f' p' t' i' r') → (q q' : List ℕ) → Grew T B P (standing b f q t i r) (standing b' f' q' t' i' r')
    grew_small P b f p t i r b' f' p' t' i' r' g q q' = record {
      set = g.set;
      stored = g.stored;
      within = g.within;
      same = g.same;
      fits = λ k. record { joins = (g.fits k).joins; ready = ready_small b' f' p' t' i' r' (g.fits k).ready q' };
    }

  -- ---- what a joining leaves that is not given up
  module _ (P : ℕ → ℕ → Type 0) (s s' : Standing) (d : Ready T B s) (g : Grew T B P s s') (few : s'.reach.len ≤ 2048) where
    pub grew_keys : support s' ≡ g.set
    grew_keys = g.stored.grown.keys few

    pub grew_more : s.reach.len ≤ s'.reach.len
    grew_more =
        omega (
          arith,
          rising_shorter (support s) g.set (keys_rising s.reach.len s.table) (g.within.rising (keys_rising s.reach.len s.table)) g.within.keeps,
          d.basis.support.apart,
          grown_length g.set s.table s'.reach.len s'.table g.stored.grown few,
        )

    -- the products of pairs that came into one block, and nothing else
    pub grew_between : Between s.reach.adds T B s.labels s'.labels (support s) g.set
    grew_between =
        let j = g.fits few in
        record {
          rising = g.within.rising;
          keeps = g.within.keeps;
          adds = λ a x p.
              let q = p.product in
              rw (← grew_keys, ← q.value)
              (full_any T B s'.labels (support s') (j.ready.full (g.same.adds ∙ a)) q.i q.k q.t q.first q.second q.together q.exponent);
          only = λ x m.
              ⊎_elim (λ w. inl w)
              (λ w.
              let q = w.1 in
              ⊎_elim
              (λ e. inl (rw (← q.value) (full_any T B s.labels (support s) (d.full w.0) q.i q.k q.t q.first q.second e q.exponent)))
              (λ e. inr (w.0, record { product = q; apart = e }))
              (same_or_not (get_or s.labels q.i 0) (get_or s.labels q.k 0)))
              (g.within.only s'.labels j.joins.joins j.joins.keeps x m);
        }
