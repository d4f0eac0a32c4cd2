-- Rows in another order, and notes put in: two streams each, from their bytes to whole verdicts, and the relations that
-- the promises speak of.
use mathlib.Core.Path.{◌≡◌, refl}
use mathlib.Core.List.{List, [], ◌∷◌, flatten}
use mathlib.Core.Bool.{false}
use Prim.Native.Nat.{ℕ, ◌+◌}
use native.Mathlib.Omega.{arith}
use lib.IntN.{pos, negsuc}
use Rattle.counting.specs.Counting.{listed, from_to, sum_to}
use Rattle.polynomial.specs.Monomial.{degree_of, degree, within, among}
use Rattle.polynomial.specs.Terms.{keys_of}
use Rattle.polynomial.specs.Algebra.{coefficient}
use Rattle.format.specs.All.{All}
use Rattle.format.specs.Operands.{number, signed}
use Rattle.format.specs.Commands.{first_refusal, run, read_whole}
use Rattle.format.specs.ProblemLayout.{problem_command}
use Rattle.format.specs.ProblemRules.{append_at, fitting, problem_applied, problem_refusal_at, problem_next, read_problem}
use Rattle.format.specs.ProblemBases.{basis_of, multiplier_of, multiplier, kind_of}
use Rattle.format.specs.CertificateLayout.{certificate_command}
use Rattle.format.specs.CertificateRules.{Entry, Row, certificate_refusal_at, certificate_applied, certificate_next, read_certificate}
use Rattle.format.specs.Cut.{cut_from, commands_of}
use Rattle.format.specs.Permuted.{exchanged}
use Rattle.format.specs.RowOrder.{rows_bytes, OtherOrder, entries_at, row_at, rows_at}
use Rattle.format.specs.PutIn.{whole, eight, sent, plain, PutIn}
use Rattle.joining_rule.specs.Sets.{member, different, insert, insert_all}
use Rattle.joining_rule.specs.Join.{linked, merged, join_pair, join}
use Rattle.joining_rule.specs.Extend.{add_terms, add_pair, extend}
use Rattle.joining_rule.specs.Rounds.{singles, start, join_all, extend_to, adding_bases, round, same, same_all, same_state, close_from, most_rounds, closing_of, blocks_in, counted_keys}
use Rattle.joining_rule.specs.Joining.{start_from, start_set, closing, too_large}
use Rattle.accepting.specs.Identity.{square, squares, claim_of, block_of}
use Rattle.accepting.specs.Judgement.{first_outside, row_split, split_by, first_difference, compared_keys, difference_key, judge_read, judge}
use Rattle.calls.specs.Fractions.{fraction}
use Rattle.calls.specs.Checks.{problem_of}
use Rattle.calls.specs.Pair.{pair_sides, pair_verdict}
use Rattle.calls.specs.declared.PairVerdict.{PairVerdict}
use Rattle.samples.specs.Streams.{problem_f, header_minus, row, entry, entry_minus, finish, low_f, high_f, certificate_a}
use Rattle.samples.specs.Noted.{noted_a, header_a}
use Rattle.samples.specs.Orders.{turned_f, row_on_zero, row_on_one, pieces_a}

-- ---- the cut: case F's lower certificate is its seven commands
pub cut_F :
    commands_of low_f ≡ header_minus 0 2 255 1 ∷ row 0 1 ∷ entry 0 1 ∷ entry 1 1 ∷ row 1 1 ∷ entry 0 1 ∷ finish ∷ []
unfolding commands_of cut_from certificate_command
cut_F = refl

-- ---- the two streams have the same runs of rows
pub turned : OtherOrder low_f turned_f
unfolding All flatten rows_bytes certificate_command
turned = record {
  header = header_minus 0 2 255 1;
  rows = row_on_zero ∷ row_on_one ∷ [];
  others = row_on_one ∷ row_on_zero ∷ [];
  headed = record { whole = record { some = omega arith; long = refl }; header = refl };
  each = (
    record {
      whole = record { some = omega arith; long = refl };
      begins = refl;
      entries = (
        record { whole = record { some = omega arith; long = refl }; entry = refl },
        (record { whole = record { some = omega arith; long = refl }; entry = refl }, tt),
      );
    },
    (
      record {
        whole = record { some = omega arith; long = refl };
        begins = refl;
        entries = (record { whole = record { some = omega arith; long = refl }; entry = refl }, tt);
      },
      tt,
    ),
  );
  order = exchanged;
  first = refl;
  second = refl;
}

-- ---- a row that is moved moves the places of its entries with it: 14, 18 and 26, and in the other order 14, 22 and 26
abbrev entries_on : ℕ → List ℕ → List Entry
entries_on i [] = []
entries_on i (at ∷ l) = record { index = i; factor = pos 1; place = at } ∷ entries_on (i + 1) l

abbrev row_of : ℕ → List ℕ → Row
row_of j l = record { basis = j; weight = pos 1; entries = entries_on 0 l }

pub places :
    rows_at 10 (row_on_zero ∷ row_on_one ∷ []) ∷ rows_at 10 (row_on_one ∷ row_on_zero ∷ []) ∷ []
    ≡ (row_of 0 (14 ∷ 18 ∷ []) ∷ row_of 1 (26 ∷ []) ∷ [])
    ∷ (row_of 1 (14 ∷ []) ∷ row_of 0 (22 ∷ 26 ∷ []) ∷ [])
    ∷ []
unfolding rows_at row_at entries_at flatten certificate_command number signed
places = refl

-- ---- both are accepted, with the same verdict
abbrev bounds : PairVerdict
bounds = record {
  refusal = record { number = 0; stream = 0; place = 0; key = 0 };
  lower = fraction (negsuc 0) 1;
  upper = fraction (pos 1) 1;
  gap = fraction (pos 2) 1;
  empty = false;
  rounds = 2;
  rule = 1;
}

pub verdicts :
    pair_verdict false problem_f low_f high_f ∷ pair_verdict false problem_f turned_f high_f ∷ [] ≡ bounds ∷ bounds ∷ []
unfolding listed from_to sum_to number signed first_refusal run read_whole degree_of degree within among keys_of problem_command append_at fitting problem_applied problem_refusal_at problem_next read_problem basis_of multiplier multiplier_of kind_of member insert linked merged join_pair join add_terms add_pair extend different singles start join_all extend_to adding_bases round same same_all same_state close_from blocks_in counted_keys most_rounds closing_of insert_all start_from start_set closing too_large certificate_command certificate_refusal_at certificate_applied certificate_next read_certificate coefficient square squares claim_of block_of first_outside row_split split_by first_difference compared_keys difference_key judge_read judge problem_of pair_sides pair_verdict
verdicts = refl

-- ---- sample A's certificate with notes put in
pub put_in_A : PutIn certificate_a noted_a
unfolding All sent plain certificate_command
put_in_A = record {
  header = header_a;
  pieces = pieces_a;
  rest = [];
  headed = record { whole = record { some = omega arith; long = refl }; header = refl };
  each = (
    eight refl,
    (
      whole {r = row 0 1} (record { some = omega arith; long = refl }) (λ e. omega arith),
      (
        whole {r = entry_minus 0 255} (record { some = omega arith; long = refl }) (λ e. omega arith),
        (
          eight refl,
          (whole {r = entry 1 1} (record { some = omega arith; long = refl }) (λ e. omega arith), (eight refl, tt)),
        ),
      ),
    ),
  );
  without = refl;
  noted = refl;
}
