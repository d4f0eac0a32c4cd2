-- Request 01 of document 02, "Sign symmetries beside the blocks": what the call returns and leaves in the 256 bytes,
-- for all inputs, and what it promises.
use Rattle.std.specs.Prelude.{◌≡◌, Bool, true, false, cond, ◌&&◌, ◌||◌, List, [], ◌∷◌, ◌++◌, ℕ, zero, suc, ◌+◌, ◌-◌, ◌*◌, ◌%◌, ◌^◌, ◌≤◌, ◌<◌, eqb, ltb, length, get_or, drop, replicate}
use Rattle.std.specs.Int.Bits.{bit_and, bit_xor}
use Rattle.std.specs.Int.Count.{ones}
use Rattle.counting.specs.Counting.{sum_to}
use Rattle.polynomial.specs.Monomial.{exponent}
use Rattle.polynomial.specs.Terms.{keys_of}
use Rattle.format.specs.ProblemRules.{Condition, Problem}
use Rattle.format.specs.ProblemBases.{basis_of}
use Rattle.joining_rule.specs.Sets.{In}
use Rattle.joining_rule.specs.Bytes.{block_at}
use Rattle.calls.specs.Tables.{Tables, tables_short}
use Rattle.calls.specs.Refusals.{no_refusal}
use Rattle.calls.specs.Outcome.{given, ◌then◌, told}
use Rattle.calls.specs.Checks.{problem_of}
use Rattle.calls.specs.Blocks.{blocks_verdict, bytes_left}
use Rattle.calls.specs.Promises.{WhereAccepted}
use Rattle.calls.specs.declared.Refusal.{Refusal}
use Rattle.calls.specs.declared.SymmetriesVerdict.{SymmetriesVerdict}

-- ---- masks and exponents
-- the odd positions of an exponent, "bit i − 1 for variable i": set where e_i is odd
unfoldable pub parity_byte : ℕ → ℕ
parity_byte e = sum_to 8 (λ i. exponent (i + 1) e % 2 * 2 ^ i)

-- how many ones two bytes have in common
abbrev pub ones_in_common : ℕ → ℕ → ℕ
ones_in_common r b = ones (bit_and r b)

abbrev pub is_even : ℕ → Bool
is_even n = eqb (n % 2) 0

-- "r has an even number of ones in common with its odd positions": the mask r and the exponent e. That is r · e ≡ 0
-- modulo 2, as definition 6.1 of paper 000 has it: proofs/Evenness.antt, `meets_inner`
unfoldable pub meets_evenly : ℕ → ℕ → Bool
meets_evenly r e = is_even (ones_in_common r (parity_byte e))

unfoldable pub meets_all : ℕ → List ℕ → Bool
meets_all r [] = true
meets_all r (e ∷ es) = meets_evenly r e && meets_all r es

-- ---- the sign symmetries of a problem
-- "every exponent of the objective and constraints"; "symmetries .. treat an equality as a constraint"
abbrev pub condition_exponents : List Condition → List ℕ
condition_exponents [] = []
condition_exponents (g ∷ gs) = keys_of g.terms ++ condition_exponents gs

unfoldable pub exponents_of : Problem → List ℕ
exponents_of p = keys_of p.objective ++ condition_exponents p.conditions

-- the numbers below a limit that pass a test, "rising and each once"
unfoldable pub passing : (ℕ → Bool) → ℕ → List ℕ
passing test zero = []
passing test (suc r) = passing test r ++ cond (test r) (r ∷ []) []

-- "A mask r from 0 to 2^n − 1 .. is a sign symmetry when, for every exponent of the objective and constraints, .."
unfoldable pub symmetries_of : Problem → List ℕ
symmetries_of p = passing (λ r. meets_all r (exponents_of p)) (2 ^ p.variables)

-- ---- refusal 1: "1 also for the 256 bytes"
abbrev pub mask_byte_count : ℕ
mask_byte_count = 256

unfoldable pub symmetries_short : List ℕ → Tables → Bool
symmetries_short out t = ltb (length out) mask_byte_count || tables_short t

-- ---- the verdict: "It returns their number"; "uses refusals 1 to 7 as the blocks call does"
abbrev pub refused_symmetries : Refusal → SymmetriesVerdict
refused_symmetries r = record { refusal = r; masks = 0 }

abbrev pub found_symmetries : Problem → SymmetriesVerdict
found_symmetries p = record { refusal = no_refusal; masks = length (symmetries_of p) }

unfoldable pub symmetries_verdict : Bool → List ℕ → SymmetriesVerdict
symmetries_verdict short s = told refused_symmetries (problem_of short s then λ p. given (found_symmetries p))

-- ---- the 256 bytes: "lists all sign symmetries .. into 256 lent bytes"; "the rest of the 256 is 0"; "a refusal leaves
-- them untouched, and bytes past them always stay"
unfoldable pub mask_bytes : List ℕ → List ℕ → List ℕ
mask_bytes masks out = masks ++ (replicate (mask_byte_count - length masks) 0 ++ drop mask_byte_count out)

unfoldable pub masks_left : Bool → List ℕ → List ℕ → List ℕ
masks_left short s out = told (λ _. out) (problem_of short s then λ p. given (mask_bytes (symmetries_of p) out))

-- ---- what the call promises. s is the problem stream, number and masks are what the call returns, and bytes the lent
-- bytes at exit; short is true where something lent is too short
-- the refusal is that of the blocks call on the same stream, with as much lent
abbrev pub RefusesAsBlocks : Bool → List ℕ → SymmetriesVerdict → Type 0
RefusesAsBlocks short s v = v.refusal ≡ (blocks_verdict short s).refusal

-- r is a sign symmetry of p
pub record Symmetry (p : Problem) (r : ℕ) : Type 0 where
  pub mask : r < 2 ^ p.variables
  pub meets : (e : ℕ) → In e (exponents_of p) → meets_evenly r e ≡ true

-- r is among the listed bytes
pub record IsListed (masks : ℕ) (bytes : List ℕ) (r : ℕ) : Type 0 where
  pub place : ℕ
  pub within : place < masks
  pub there : get_or bytes place 0 ≡ r

-- "lists all sign symmetries, rising and each once"
pub record ListsEach (p : Problem) (masks : ℕ) (bytes : List ℕ) : Type 0 where
  pub only : (m : ℕ) → m < masks → Symmetry p (get_or bytes m 0)
  pub all : (r : ℕ) → Symmetry p r → IsListed masks bytes r
  pub rising : (k m : ℕ) → k < m → m < masks → get_or bytes k 0 < get_or bytes m 0

abbrev pub EverySymmetry : List ℕ → ℕ → ℕ → List ℕ → Type 0
EverySymmetry s number masks bytes = WhereAccepted s number (λ p. ListsEach p masks bytes)

-- the indices i and k of basis j are in one block, label j i being the block number of i
pub record InOneBlock (p : Problem) (label : ℕ → ℕ → ℕ) (j i k : ℕ) : Type 0 where
  pub basis : j < 9
  pub first : i < length (basis_of p j)
  pub second : k < length (basis_of p j)
  pub same : label j i ≡ label j k

-- "Two monomials of one block must give a sum that every listed mask meets evenly": the blocks are those that the
-- blocks call reports for the same stream, whatever bytes are lent to it
abbrev pub EvenInBlocks : List ℕ → ℕ → ℕ → List ℕ → Type 0
EvenInBlocks s number masks bytes =
    WhereAccepted s number
    (λ p. (lent : List ℕ) (j i k m : ℕ) → InOneBlock p (block_at (bytes_left false s lent)) j i k → m < masks
    → meets_evenly (get_or bytes m 0) (get_or (basis_of p j) i 0 + get_or (basis_of p j) k 0) ≡ true)

-- a number is a power of two, at most 2^n
pub record PowerOfTwo (n x : ℕ) : Type 0 where
  pub power : ℕ
  pub most : power ≤ n
  pub is : x ≡ 2 ^ power

-- the masks are a group: 0 is one, the exclusive or of two is one, and their number is a power of two
pub record Group (p : Problem) (masks : ℕ) (bytes : List ℕ) : Type 0 where
  pub none : IsListed masks bytes 0
  pub both : (r q : ℕ) → IsListed masks bytes r → IsListed masks bytes q → IsListed masks bytes (bit_xor r q)
  pub number : PowerOfTwo p.variables masks

abbrev pub SymmetryGroup : List ℕ → ℕ → ℕ → List ℕ → Type 0
SymmetryGroup s number masks bytes = WhereAccepted s number (λ p. Group p masks bytes)
