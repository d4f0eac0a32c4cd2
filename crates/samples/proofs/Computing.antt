-- What samples compute through. To unfold one of these is to unfold every definition that its line names, from the
-- bytes of a stream up: so a sample's own line names what is new on its way, and no more. Nothing is said here.
use Rattle.counting.specs.Counting.{listed, from_to, sum_to}
use Rattle.format.specs.Operands.{number, signed}
use Rattle.format.specs.Commands.{first_refusal, run, read_whole}
use Rattle.polynomial.specs.Monomial.{degree_of, degree, within, among}
use Rattle.polynomial.specs.Terms.{keys_of}
use Rattle.polynomial.specs.Algebra.{coefficient}
use Rattle.format.specs.ProblemLayout.{problem_command}
use Rattle.format.specs.ProblemRules.{append_at, order_place, fitting, problem_applied, problem_refusal_at, problem_next, read_problem}
use Rattle.format.specs.ProblemBases.{basis_of, multiplier_of, multiplier, kind_of}
use Rattle.format.specs.CertificateLayout.{certificate_command}
use Rattle.format.specs.CertificateRules.{certificate_refusal_at, certificate_applied, certificate_next, read_certificate}
use Rattle.joining_rule.specs.Sets.{member, different, insert, insert_all}
use Rattle.joining_rule.specs.Join.{linked, merged, join_pair, join}
use Rattle.joining_rule.specs.Extend.{add_terms, add_pair, extend}
use Rattle.joining_rule.specs.Rounds.{singles, start, join_all, extend_to, adding_bases, round, after, same, same_all, same_state, close_from, most_rounds, closing_of, blocks_in, counted_keys}
use Rattle.joining_rule.specs.Bytes.{block_bytes}
use Rattle.joining_rule.specs.Joining.{start_from, start_set, closing, too_large, block_total}
use Rattle.accepting.specs.Identity.{square, squares, claim_of, block_of}
use Rattle.accepting.specs.Judgement.{first_outside, row_split, split_by, first_difference, compared_keys, difference_key, judge_read, judge}
use Rattle.calls.specs.Checks.{problem_of}
use Rattle.calls.specs.Blocks.{blocks_verdict, bytes_left}
use Rattle.calls.specs.Check.{check_verdict}
use Rattle.calls.specs.Pair.{pair_sides, pair_verdict}
use Rattle.lines.specs.Lines.{decimal, signed_decimal, ratio, refusal_line, gap_word, pair_words, pair_lines}

-- a problem is read
unfoldable pub reading : Unit {0}
unfolding listed from_to sum_to number signed first_refusal run read_whole degree_of degree within among keys_of problem_command append_at order_place fitting problem_applied problem_refusal_at problem_next read_problem basis_of multiplier multiplier_of kind_of
reading = tt

-- the joining rule ends, its keys are counted, and the problem has its outcome
unfoldable pub joining : Unit {0}
unfolding reading member different insert insert_all linked merged join_pair join add_terms add_pair extend singles start join_all extend_to adding_bases round after same same_all same_state close_from most_rounds closing_of blocks_in counted_keys start_from start_set closing too_large problem_of
joining = tt

-- the blocks call
unfoldable pub blocking : Unit {0}
unfolding joining block_bytes block_total blocks_verdict bytes_left
blocking = tt

-- a certificate is read and judged
unfoldable pub judging : Unit {0}
unfolding joining certificate_command certificate_refusal_at certificate_applied certificate_next read_certificate coefficient square squares claim_of block_of first_outside row_split split_by first_difference compared_keys difference_key judge_read judge
judging = tt

-- the check
unfoldable pub checking : Unit {0}
unfolding judging check_verdict
checking = tt

-- the pair
unfoldable pub pairing : Unit {0}
unfolding judging pair_sides pair_verdict
pairing = tt

-- the lines of the pair
unfoldable pub printing : Unit {0}
unfolding decimal signed_decimal ratio refusal_line gap_word pair_words pair_lines
printing = tt
