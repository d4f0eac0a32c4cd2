-- What the programs print: gapcheck's lines and those of weekcheck from the bytes of their files, and the line of
-- replay for each kind of record.
use mathlib.Core.Path.{◌≡◌, refl}
use mathlib.Core.List.{[], ◌∷◌, ◌++◌, map, flat_map}
use mathlib.Core.Bool.{true}
use lib.IntN.{pos, negsuc}
use lib.ListN.{replicate}
use Rattle.calls.specs.Report.{runs_at, records_from, records_of, pair_on, unsigned, fields_of, with_verdict, result_of}
use Rattle.lines.specs.Answers.{answer_to}
use Rattle.lines.specs.Lines.{ascii, decimal, blocks_line, check_words, check_line, pair_line, arrival_word, window_line, tighter_line, symmetries_line, adjusted_line, office_line}
use Rattle.lines.specs.ReportLines.{bounds_words, report_line, tool_line, refused_words, record_words, record_line, last_line, week_lines, week_answer}
use Rattle.lines.specs.SumLines.{sum_line}
use Rattle.samples.proofs.Computing.{pairing, printing}
use Rattle.samples.specs.Roots.{problem_root, low_root, high_root}
use Rattle.samples.specs.Streams.{problem_a, certificate_b, problem_f, low_f, high_f, problem_crossed, low_crossed, high_crossed}
use Rattle.samples.specs.Verdicts.{over, zeroes, refusal, allowed, blocks_found, blocks_refused, check_accepted, check_refused, pair_accepted, pair_refused, symmetries_found, reported, widest_found, arrival_refused, summed, sum_refused, moved}
use Rattle.samples.specs.Weeks.{pair}

-- ---- gapcheck: contradictory limits, and bounds of several digits, unreduced
pub lines :
    answer_to problem_crossed low_crossed high_crossed ∷ answer_to problem_root low_root high_root ∷ []
    ≡ ascii "lower 1/1\nupper -1/1\ngap empty\nrounds 1\n"
    ∷ ascii "lower -17/12\nupper 17/12\ngap 408/144\nrounds 2\n"
    ∷ []
unfolding pairing printing
lines = refl

-- "in base ten"
pub numbers :
    map decimal (0 ∷ 9 ∷ 10 ∷ 100 ∷ 65535 ∷ [])
    ≡ ascii "0" ∷ ascii "9" ∷ ascii "10" ∷ ascii "100" ∷ ascii "65535" ∷ []
unfolding decimal
numbers = refl

-- ---- weekcheck: case F and case B, one that is cut behind F, and an empty file
pub week :
    map week_answer
    ((pair problem_f low_f high_f ++ pair problem_a certificate_b []) ∷ (pair problem_f low_f high_f ++ (0 ∷ [])) ∷ [] ∷ [])
    ≡ ascii "1 lower -1/1 upper 1/1\n2 refused 9 1 0 0\naccepted 1 lower -1/1 upper 1/1\n"
    ∷ ascii "refused 12 0 137 0\n"
    ∷ ascii "accepted 0 lower 0/0 upper 0/0\n"
    ∷ []
unfolding pairing printing flat_map runs_at records_from records_of pair_on unsigned fields_of with_verdict result_of bounds_words refused_words record_words record_line last_line week_lines
week = refl

-- ---- replay: blocks, check and pair, and a refusal of each
pub replays :
    blocks_line (blocks_found 3 1 2) (0 ∷ 17 ∷ 255 ∷ [])
    ∷ blocks_line (blocks_refused 4 2) (0 ∷ [])
    ∷ check_line (check_accepted 1 (over (negsuc 0) 12) 3 2)
    ∷ check_line (check_refused 9 1 0 258)
    ∷ pair_line (pair_accepted (over (negsuc 1) 3) (over (pos 4) 5) (over (pos 22) 15) 6 2)
    ∷ pair_line
    (record {
      refusal = allowed;
      lower = over (pos 1) 1;
      upper = over (negsuc 0) 1;
      gap = zeroes;
      empty = true;
      rounds = 1;
      rule = 1;
    })
    ∷ pair_line (pair_refused 10 2 0 0)
    ∷ []
    ≡ ascii "blocks 3 rounds 1 rule 2 0011ff\n"
    ∷ ascii "refused 4 0 2 0\n"
    ∷ ascii "check 1 -1/12 rounds 3 rule 2\n"
    ∷ ascii "refused 9 1 0 258\n"
    ∷ ascii "pair -2/3 4/5 gap 22/15 rounds 6 rule 2\n"
    ∷ ascii "pair 1/1 -1/1 gap empty rounds 1 rule 1\n"
    ∷ ascii "refused 10 2 0 0\n"
    ∷ []
unfolding printing blocks_line check_words check_line pair_line
replays = refl

-- the calls of document 02
pub replays_of_requests :
    symmetries_line (symmetries_found 2) (0 ∷ 3 ∷ [])
    ∷ tighter_line allowed (16 ∷ 1 ∷ [])
    ∷ tighter_line (refusal 11 2 0 0) []
    ∷ window_line (widest_found (over (pos 1) 2) 3 ∷ arrival_refused ∷ widest_found (over (pos 4) 5) 0 ∷ [])
    ∷ report_line (reported 2 (over (negsuc 0) 1) (over (pos 3) 4)) (171 ∷ [])
    ∷ tool_line 9 (9 ∷ 0 ∷ [])
    ∷ sum_line (summed (over (negsuc 3) 2) (over (pos 2) 1) 1 2)
    ∷ sum_line (sum_refused 15 0 0 0)
    ∷ adjusted_line (moved (negsuc 10) 1)
    ∷ office_line (record { check = check_accepted 0 (over (pos 2) 1) 2 1; notes = 1 }) (replicate 3 64)
    ∷ []
    ≡ ascii "symmetries 2 0003\n"
    ∷ ascii "tighter 1001\n"
    ∷ ascii "refused 11 2 0 0\n"
    ∷ ascii "window 1/2 3; 14; 4/5 0\n"
    ∷ ascii "report 2 lower -1/1 upper 3/4 ab\n"
    ∷ ascii "record 9 0900\n"
    ∷ ascii "sum -4/2 2/1 rules 1 2\n"
    ∷ ascii "refused 15 0 0 0\n"
    ∷ ascii "adjusted -11/1\n"
    ∷ ascii "office 0 2/1 rounds 2 rule 1 notes 1 404040\n"
    ∷ []
unfolding printing symmetries_line tighter_line arrival_word window_line bounds_words report_line tool_line sum_line adjusted_line check_words office_line
replays_of_requests = refl
