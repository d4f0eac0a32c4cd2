-- Laws of the start of the rounds: every index is a block of its own, and the products of each with itself are put in.
use mathlib.Core.Path.{◌≡◌, sym, ap, ◌∙◌}
use mathlib.Core.Logic.{inr, ⊎_elim}
use mathlib.Core.List.{List}
use Prim.Native.Nat.{ℕ, ◌+◌, ◌-◌, ◌*◌, ◌≤◌, ◌<◌}
use native.Mathlib.Omega.{arith}
use lib.ListN.{length, get_or, drop}
use lib.Seq.{get_or-take, get_or-drop}
use borrow.Author.Tests.{ltb-true}
use Rattle.std.proofs.Common.{Result, IsErr}
use Rattle.counting.specs.Counting.{listed, sum_to}
use Rattle.counting.proofs.Listed.{listed_length, listed_same}
use Rattle.joining_rule.specs.Rounds.{Bases, State, Closing, singles, start, adding_bases, round, close_from, closing_of}
use Rattle.joining_rule.proofs.Elements.{not_nil}
use Rattle.joining_rule.proofs.Lowest.{singles_numbered, singles_count}
use Rattle.joining_rule.proofs.Only.{rising_shorter}
use Rattle.joining_rule.proofs.Rounds.{Shaped, adding_most}
use Rattle.key_set.specs.Table.{keys_in, Stored}
use Rattle.key_set.specs.declared.Full.{Full}
use Rattle.key_set.proofs.Keys.{keys_rising, keys_first, stored_none, grown_holds}
use Rattle.flat.specs.Flat.{basis_in}
use Rattle.flat.proofs.Flat.{part_length}
use Rattle.round_laws.specs.Joins.{Recent}
use Rattle.round_laws.specs.Added.{Products}
use Rattle.round_laws.specs.Lists.{Lists}
use Rattle.round_laws.proofs.Sums.{products_all}
use Rattle.round_laws.proofs.Lists.{lists_single}
use Rattle.joining_products.specs.Adding.{plain}
use Rattle.joining_blocks.specs.Standing.{latest, Ready}
use Rattle.joining_products.proofs.Growing.{grown_length, stored_then}
use Rattle.joining_bases.specs.Parts.{piece, exponents_in, bases_in, labels_at, labels_in, squares_to}
use Rattle.joining_bases.specs.Nine.{Nine, nine, stage, standing_at, RoundAsks, AllNoted, AllSingle}
use Rattle.joining_bases.specs.Settled.{Starting, len_in, Settled}
use Rattle.joining_bases.specs.declared.Support.{Support}
use Rattle.joining_bases.specs.declared.Closed.{Closed}
use Rattle.joining_bases.proofs.Labels.{labels_nine, labels_at_lem}
use Rattle.joining_bases.proofs.Squares.{squares_products}
use Rattle.joining_bases.proofs.Turns.{basis_long, held_at}
use Rattle.joining_rounds.proofs.Running.{Running, close_first, round_more, latest_in, latest_or, counts_all, settled_full}

-- ---- at the start every member is one of those that came last
recent_start : (t : List ℕ) (n : ℕ) (T B L : List ℕ) → Recent (keys_in n t) T B L (latest t 0 n)
recent_start t n T B L = record {
  members = latest_in t 0 n (omega arith);
  at = λ _ _ _ _ _ _ m. inr (⊎_elim (λ w. not_nil _ w) (λ w. w) (latest_or t 0 n (omega arith) _ m));
}

-- ---- the squares are put in
module _ (keys sizes t₀ idx₀ : List ℕ) (p : Support) (z : Starting t₀ idx₀ p keys sizes) (labels follow state : List ℕ) (single : AllSingle sizes labels follow state)
    (adding : ℕ) (e : adding ≡ adding_bases p.rule) (n : ℕ) (t idx : List ℕ)
    (k : Stored p.len (squares_to adding (bases_in keys sizes) (keys_in p.len t₀)) t₀ n t idx) where
  abbrev g : Bases
  g = bases_in keys sizes

  abbrev L : List (List ℕ)
  L = labels_in sizes labels

  abbrev S₀ : List ℕ
  S₀ = keys_in p.len t₀

  abbrev o : Closing
  o = closing_of p.rule p.most g S₀

  labels_one : (j : ℕ) → j < 9 → labels_at sizes labels j ≡ listed (length (basis_in keys sizes j)) (λ i. i)
  labels_one j h = rw (basis_long keys sizes z.held.arrays j h) (single.single.labels j h)

  shaped : Shaped g L
  shaped = record {
    nine = labels_nine sizes labels;
    long = λ j h.
        ap length (labels_at_lem sizes labels j h ∙ single.single.labels j h) ∙ listed_length (get_or sizes j 0) (λ i. i) ∙ sym (basis_long keys sizes z.held.arrays j h);
  }

  few : adding ≤ 9
  few = omega (arith, adding_most p.rule)

  -- the definition's start
  abbrev first : State
  first = record { labels = L; support = S₀ }

  all_alone : L ≡ singles g
  unfolding labels_in singles
  all_alone = listed_same 9 _ _ (λ j h. single.single.labels j h ∙ ap (λ (m : ℕ). listed m (λ i. i)) (sym (basis_long keys sizes z.held.arrays j h)))

  products : Products adding g L S₀ (squares_to adding g S₀)
  products = rw all_alone (squares_products adding g few S₀ (keys_rising p.len t₀))

  leads : close_from p.rule g p.most first 0 ≡ o
  unfolding closing_of start
  leads = ap (λ (M : List (List ℕ)). close_from p.rule g p.most (record { labels = M; support = S₀ }) 0) all_alone

  -- there are too many of them
  pub starting_over : n ≡ 2049 → (x : Result Closed Full) → IsErr x → (l : List ℕ) → Settled o p.len t₀ x t idx l
  starting_over b x w l =
      let q : length (squares_to adding g S₀) ≤ length (round p.rule g first).support = rw e (round_more p.rule g first shaped (keys_rising p.len t₀) (squares_to (adding_bases p.rule) g S₀) (rw e at products)) in
      settled_full o p.len t₀ t idx (squares_to adding g S₀) (rw b at k) (omega (arith, q, rw leads at (close_first p.rule g p.most first 0 z.some))) x w l

  module _ (b : n ≤ 2048) where
    new : keys_in n t ≡ squares_to adding g S₀
    new = k.grown.keys b

    same_first : keys_in p.len t ≡ S₀
    same_first = keys_first p.len t t₀ (k.first b)

    longer : p.len ≤ n
    longer =
        omega (
          arith,
          rising_shorter S₀ (squares_to adding g S₀) (keys_rising p.len t₀) products.rising products.starts,
          z.held.support.apart,
          grown_length (squares_to adding g S₀) t₀ n t k.grown b,
        )

    -- what the rounds lead to from here
    pub starting_then : (c : Result Closed Full) (t' idx' l : List ℕ) → Settled (closing_of p.rule p.most g (keys_in p.len t)) n t c t' idx' l → Settled o p.len t₀ c t' idx' l
    starting_then c t' idx' l w =
        let u : Settled o n t c t' idx' l = rw same_first at w in
        record {
          stored = stored_then p.len (squares_to adding g S₀) t₀ n t idx longer b k o.state.support (len_in c) t' idx' u.stored;
          few = u.few;
          rounds = u.rounds;
          blocks = u.blocks;
          labels = u.labels;
        }

    module _ (pairs : List ℕ) (noted : AllNoted keys sizes pairs state) where
      abbrev s : Nine
      s = nine labels follow pairs t idx state (stage 0 p.len n adding)

      module _ (j : ℕ) (h : j < 9) where
        abbrev T : List ℕ
        T = exponents_in keys sizes j

        abbrev B : List ℕ
        B = basis_in keys sizes j

        part_long : length (piece 64 follow j) ≡ 64
        part_long = part_length 64 (64 * j) follow (omega (arith, single.links))

        small : length B ≤ 64
        small = (z.held.arrays.limits j h).basis.few

        ends : (x : ℕ) → x < length B → 64 ≤ get_or (piece 64 follow j) x 0
        ends x c =
            rw (get_or-take 64 (drop (64 * j) follow) x 0 (omega (arith, small)), get_or-drop (64 * j) follow x 0)
            (single.last (64 * j + x) (omega (arith, small)))

        lists : Lists (piece 64 follow j) (labels_at sizes labels j)
        lists = rw (labels_one j h) (lists_single (length B) (piece 64 follow j) small (omega (arith, small, part_long)) ends)

        not_small : plain < length B → plain < get_or sizes j 0
        not_small l = omega (arith, basis_long keys sizes z.held.arrays j h)

        ready_one : Ready T B (standing_at sizes s j)
        ready_one = record {
          basis = record { support = grown_holds k.grown z.held.support.room b; index = k.index b; basis = z.held.arrays.limits j h };
          blocks = record { size = ap length (labels_one j h) ∙ listed_length (length B) (λ i. i); long = part_long; few = small; numbered = rw (labels_one j h) (singles_numbered (length B)); lists = lists };
          count = single.counts j h ∙ sym (basis_long keys sizes z.held.arrays j h) ∙ rw (labels_one j h) (sym (singles_count (length B)));
          since = omega arith;
          until = longer;
          full = λ q. rw (← held_at keys sizes z.held.arrays s j h, new) (products_all adding g L S₀ (squares_to adding g S₀) j (ltb-true j adding q) h products);
          index = record { all = λ l. (noted.at j h (not_small l)).index; slots = λ l. (noted.at j h (not_small l)).slots };
          done = λ _ l. record { at = λ x q u. absurd (omega (arith, (noted.at j h (not_small l)).untold x q)) };
          met = λ l. record { at = λ x q u. absurd (omega (arith, (noted.at j h (not_small l)).untold x q)) };
          bits = λ l. (noted.at j h (not_small l)).sums;
        }

      asks_first : RoundAsks keys sizes s
      asks_first = record {
        arrays = z.held.arrays;
        adding = few;
        ready = record { bytes = single.single.bytes; links = single.links; room = noted.room; numbers = single.numbers; at = ready_one };
        products = rw (same_first, new) products;
        recent = λ j h. recent_start t p.len (exponents_in keys sizes j) (basis_in keys sizes j) _;
      }

      pub starting_running : (left : ℕ) → left ≡ sum_to 9 (λ j. get_or state j 0) → Running p.rule p.most (closing_of p.rule p.most g (keys_in p.len t)) n t keys sizes s 0 left
      starting_running left f =
          let q : p.most - 0 ≡ p.most = omega arith in
          let d = (ready_one 0 (omega arith)).basis in
          record {
            upto = omega arith;
            adding = e;
            asks = asks_first;
            leads = rw (q, same_first) leads;
            stored = stored_none d.support d.index;
            more = omega arith;
            apart = ap length same_first ∙ z.held.support.apart;
            whole = λ c. absurd (omega arith);
            blocks = f ∙ counts_all keys sizes z.held.arrays s asks_first.ready;
          }
