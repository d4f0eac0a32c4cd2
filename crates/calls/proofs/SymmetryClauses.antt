-- What the definitions of the symmetries call promise: each clause of the contract, from the equations.
use mathlib.Core.Path.{◌≡◌, refl, sym, ◌∙◌}
use mathlib.Core.Bool.{Bool, true, false, cond}
use mathlib.Core.List.{List, [], ◌++◌}
use Prim.Native.Nat.{ℕ, suc, ◌+◌, ◌^◌, ◌<◌}
use native.Mathlib.Omega.{arith}
use lib.Bits.{bit_xor, xor_lt}
use lib.Count.{ones}
use lib.ListN.{length, get_or, drop, get_or-append}
use lib.Pow.{pow_mono, pow_pos}
use Rattle.format.specs.Commands as Stream
use Rattle.format.specs.ProblemRules.{Problem, read_problem}
use Rattle.format.specs.ProblemBases.{basis_of}
use Rattle.format.proofs.WithinLimits.{Limits}
use Rattle.format.proofs.ProblemLimits.{read_limits}
use Rattle.joining_rule.specs.Bytes.{block_byte_count, block_bytes, block_at}
use Rattle.joining_rule.specs.Joining.{closing}
use Rattle.calls.specs.declared.Refusal.{Refusal}
use Rattle.calls.specs.declared.SymmetriesVerdict.{SymmetriesVerdict}
use Rattle.calls.specs.Outcome.{given, ◌then◌, told}
use Rattle.calls.specs.Blocks.{refused_blocks, found_blocks, blocks_verdict, bytes_left}
use Rattle.calls.specs.Promises.{NumberedTo, Reads, Within, SevenExactly}
use Rattle.calls.specs.Zeros.{SymmetriesZeros}
use Rattle.calls.specs.Symmetries.{meets_evenly, meets_all, exponents_of, symmetries_of, refused_symmetries, found_symmetries, symmetries_verdict, mask_bytes, masks_left}
use Rattle.calls.specs.Symmetries.{RefusesAsBlocks, Symmetry, IsListed, ListsEach, EverySymmetry, InOneBlock, EvenInBlocks, PowerOfTwo, Group, SymmetryGroup}
use Rattle.calls.proofs.Refusing.{ProblemRefused, reads_at, problem_by, problem_within}
use Rattle.calls.proofs.Zeros.{refused_zeros, symmetries_refused_lem, symmetries_accepted}
use Rattle.calls.proofs.Promised.{bytes_agree, clauses, clause_seven}
use Rattle.calls.proofs.Doubling.{closed_power}
use Rattle.calls.proofs.Evenness.{meets_xor}
use Rattle.calls.proofs.EvenBlocks.{block_even}
use Rattle.calls.proofs.Masks.{meets_in, in_meets, Lists, passing_lists, passing_count}

-- ---- the symmetries of a problem

-- 0 has no ones in common with anything
zero_meets : (e : ℕ) → meets_evenly 0 e ≡ true
unfolding meets_evenly ones
zero_meets e = refl

module _ (p : Problem) (limits : Limits p) where
  mask_small : (r : ℕ) → r < 2 ^ p.variables → r < 256
  mask_small r h = omega (arith, pow_mono limits.variables.1)

  abbrev es : List ℕ
  es = exponents_of p

  abbrev meets : ℕ → Type 0
  meets r = meets_all r es ≡ true

  list : Lists meets (2 ^ p.variables) (symmetries_of p)
  unfolding symmetries_of
  list = passing_lists (λ r. meets_all r es) (2 ^ p.variables)

  is_symmetry : (r : ℕ) → r < 2 ^ p.variables → meets r → Symmetry p r
  is_symmetry r h m = record { mask = h; meets = λ e i. meets_in r es m e i }

  both_meet : (r q : ℕ) → r < 2 ^ p.variables → q < 2 ^ p.variables → meets r → meets q → meets (bit_xor r q)
  both_meet r q hr hq mr mq =
      in_meets (bit_xor r q) es (λ e i. meets_xor r q e (mask_small r hr) (mask_small q hq) (meets_in r es mr e i) (meets_in q es mq e i))

  -- ---- listed before whatever follows
  module _ (rest : List ℕ) where
    abbrev bytes : List ℕ
    bytes = symmetries_of p ++ rest

    abbrev count : ℕ
    count = length (symmetries_of p)

    at_place : (m : ℕ) → m < count → get_or bytes m 0 ≡ get_or (symmetries_of p) m 0
    at_place m b = get_or-append (symmetries_of p) rest 0 m b

    listed_all : (r : ℕ) → Symmetry p r → IsListed count bytes r
    listed_all r s =
        let o = list.all r s.mask (in_meets r es s.meets) in
        record { place = o.place; within = o.within; there = at_place o.place o.within ∙ o.there }

    listed_only : (r : ℕ) → IsListed count bytes r → (r < 2 ^ p.variables) × meets r
    listed_only r l =
        let e : get_or (symmetries_of p) l.place 0 ≡ r = sym (at_place l.place l.within) ∙ l.there in
        rw (← e) (list.only l.place l.within)

    pub lists_each : ListsEach p count bytes
    lists_each = record {
      only = λ m b. rw (at_place m b) (is_symmetry _ (list.only m b).0 (list.only m b).1);
      all = listed_all;
      rising = λ k m b c. rw (at_place k (omega arith), at_place m c) (list.rising k m b c);
    }

    none_listed : IsListed count bytes 0
    none_listed = listed_all 0 (record { mask = pow_pos p.variables; meets = λ e i. zero_meets e })

    number_power : PowerOfTwo p.variables count
    unfolding symmetries_of
    number_power =
        rw (passing_count (λ r. meets_all r es) (2 ^ p.variables))
        (closed_power p.variables (λ r. meets_all r es) (record { none = in_meets 0 es (λ e i. zero_meets e); both = both_meet }))

    pub are_group : Group p count bytes
    are_group = record {
      none = none_listed;
      both = λ r q l k.
          let a = listed_only r l in
          let b = listed_only q k in
          listed_all (bit_xor r q) (is_symmetry _ (xor_lt p.variables r q a.0 b.0) (both_meet r q a.0 b.0 a.1 b.1));
      number = number_power;
    }

    -- the sum of two monomials of one block
    pub listed_even : (m : ℕ) → m < count → (j i k : ℕ) → j < 9 → i < length (basis_of p j) → k < length (basis_of p j)
        → get_or (get_or (closing p).state.labels j []) i 0 ≡ get_or (get_or (closing p).state.labels j []) k 0
        → meets_evenly (get_or bytes m 0) (get_or (basis_of p j) i 0 + get_or (basis_of p j) k 0) ≡ true
    listed_even m b j i k h hi hk e =
        let o = list.only m b in
        rw (at_place m b) (block_even p limits _ (mask_small _ o.0) (meets_in _ es o.1) j i k h hi hk e)

-- ---- from the verdict and the bytes to the clauses

-- a property of what the call returns and leaves, by how it ends
symmetries_by : (short : Bool) (s out : List ℕ) (P : SymmetriesVerdict → List ℕ → Type 0)
    → ((r : Refusal) → ProblemRefused short s r → P (refused_symmetries r) out)
    → ((p : Problem) → Within short s p → P (found_symmetries p) (mask_bytes (symmetries_of p) out))
    → P (symmetries_verdict short s) (masks_left short s out)
unfolding symmetries_verdict masks_left
symmetries_by short s out P =
    problem_by short s
    (λ o. P (told refused_symmetries (o then λ p. given (found_symmetries p))) (told (λ _. out) (o then λ p. given (mask_bytes (symmetries_of p) out))))

-- what is found where nothing is refused
record Found (short : Bool) (s out : List ℕ) (v : SymmetriesVerdict) (bytes : List ℕ) (p : Problem) : Type 0 where
  within : Within short s p
  masks : v.masks ≡ length (symmetries_of p)
  bytes_are : bytes ≡ mask_bytes (symmetries_of p) out

module _ (short : Bool) (s out : List ℕ) where
  -- "uses refusals 1 to 7 as the blocks call does"
  as_blocks : RefusesAsBlocks short s (symmetries_verdict short s)
  unfolding symmetries_verdict blocks_verdict
  as_blocks =
      problem_by short s
      (λ o. (told refused_symmetries (o then λ p. given (found_symmetries p))).refusal ≡ (told refused_blocks (o then λ p. given (found_blocks p))).refusal)
      (λ r b. refl) (λ p w. refl)

  clause_numbered : NumberedTo 7 (symmetries_verdict short s).refusal.number
  clause_numbered = rw as_blocks (clauses short s out (blocks_verdict short s) _ refl refl).0

  as_seven : SevenExactly short s (symmetries_verdict short s).refusal
  as_seven = rw as_blocks (clause_seven short s out)

  clause_zeros : SymmetriesZeros (symmetries_verdict short s)
  clause_zeros =
      symmetries_by short s out (λ v bytes. SymmetriesZeros v)
      (λ r b. symmetries_refused_lem r (refused_zeros r b.least (λ _. b.key))) (λ p w. symmetries_accepted _)

  module _ (p : Problem) (read : read_problem s ≡ Stream.given p) (h : (symmetries_verdict short s).refusal.number ≡ 0) where
    found : Found short s out (symmetries_verdict short s) (masks_left short s out) p
    found = reads_at s (Found short s out (symmetries_verdict short s) (masks_left short s out)) (reads h) p read
      where
        reads : (symmetries_verdict short s).refusal.number ≡ 0 → Reads s (Found short s out (symmetries_verdict short s) (masks_left short s out))
        reads =
            symmetries_by short s out (λ v bytes. v.refusal.number ≡ 0 → Reads s (Found short s out v bytes))
            (λ r b h. absurd (omega (arith, b.least)))
            (λ q w h. record { problem = q; read = w.read; holds = record { within = w; masks = refl; bytes_are = refl } })

    -- the bytes that the blocks call leaves for the same stream tell the blocks
    labels_told : (lent : List ℕ) → bytes_left false s lent ≡ block_bytes (closing p).state.labels ++ drop block_byte_count lent
    unfolding bytes_left
    labels_told lent = let w = found.within in rw (problem_within false s p (record { long = refl; read = w.read; few = w.few }))

    one_block : (lent : List ℕ) (j i k : ℕ) → InOneBlock p (block_at (bytes_left false s lent)) j i k
        → get_or (get_or (closing p).state.labels j []) i 0 ≡ get_or (get_or (closing p).state.labels j []) k 0
    unfolding closing
    one_block lent j i k b =
        let a = bytes_agree s p read (drop block_byte_count lent) in
        a.at j i b.basis b.first ∙ (rw (labels_told lent) at b.same) ∙ sym (a.at j k b.basis b.second)

  clause_every : EverySymmetry s (symmetries_verdict short s).refusal.number (symmetries_verdict short s).masks (masks_left short s out)
  unfolding mask_bytes
  clause_every p read h = let f = found p read h in rw (f.masks, f.bytes_are, mask_bytes) (lists_each p (read_limits s p read) _)

  clause_even : EvenInBlocks s (symmetries_verdict short s).refusal.number (symmetries_verdict short s).masks (masks_left short s out)
  unfolding mask_bytes
  clause_even p read h lent j i k m b c =
      let f = found p read h in
      rw (f.bytes_are, mask_bytes)
      (listed_even p (read_limits s p read) _ m (rw f.masks at c) j i k b.basis b.first b.second (one_block p read h lent j i k b))

  clause_group : SymmetryGroup s (symmetries_verdict short s).refusal.number (symmetries_verdict short s).masks (masks_left short s out)
  unfolding mask_bytes
  clause_group p read h = let f = found p read h in rw (f.masks, f.bytes_are, mask_bytes) (are_group p (read_limits s p read) _)

  -- all of them, of a verdict and bytes that are the definitions'
  pub symmetry_clauses : (v : SymmetriesVerdict) (bytes : List ℕ) → v ≡ symmetries_verdict short s → bytes ≡ masks_left short s out
      → NumberedTo 7 v.refusal.number
      × (RefusesAsBlocks short s v
      × (EverySymmetry s v.refusal.number v.masks bytes
      × (EvenInBlocks s v.refusal.number v.masks bytes
      × (SymmetryGroup s v.refusal.number v.masks bytes × (SymmetriesZeros v × SevenExactly short s v.refusal)))))
  symmetry_clauses v bytes e f = rw (e, f) (clause_numbered, (as_blocks, (clause_every, (clause_even, (clause_group, (clause_zeros, as_seven))))))
