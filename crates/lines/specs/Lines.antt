-- The lines that the programs write, byte by byte, in document 01's words.
use Rattle.std.specs.Prelude.{Bool, cond, List, [], ◌∷◌, ◌++◌, ℕ, zero, suc, ◌/◌, ◌%◌, ltb, ℤ, pos, nat_abs}
use Prim.Native.Char.{code}
use Prim.Native.String.{String, [] as none, ◌∷◌ as ◌then◌}
use Rattle.std.specs.Int.Signed.{lt_z}
use Rattle.io.specs.Digits.{hex_digit_ascii}
use Rattle.calls.specs.declared.Fraction.{Fraction}
use Rattle.calls.specs.declared.Refusal.{Refusal}
use Rattle.calls.specs.declared.BlocksVerdict.{BlocksVerdict}
use Rattle.calls.specs.declared.CheckVerdict.{CheckVerdict}
use Rattle.calls.specs.declared.PairVerdict.{PairVerdict}
use Rattle.calls.specs.declared.WindowVerdict.{WindowVerdict}
use Rattle.calls.specs.declared.SymmetriesVerdict.{SymmetriesVerdict}
use Rattle.calls.specs.declared.AdjustedVerdict.{AdjustedVerdict}
use Rattle.calls.specs.declared.OfficeVerdict.{OfficeVerdict}

-- the bytes of a text, one for each character
abbrev pub ascii : String → List ℕ
ascii none = []
ascii (c then s) = code c ∷ ascii s

-- ---- numbers: "in base ten, unreduced, with a minus sign below 0"

-- the digits of m, none where m is 0; f, which bounds how many, is at least m at every call
abbrev pub leading : ℕ → ℕ → List ℕ
leading zero m = []
leading (suc f) zero = []
leading (suc f) (suc m) = leading f (suc m / 10) ++ (hex_digit_ascii (suc m % 10) ∷ [])

-- the digits of the tenth part, and the last digit
unfoldable pub decimal : ℕ → List ℕ
decimal n = leading n (n / 10) ++ (hex_digit_ascii (n % 10) ∷ [])

unfoldable pub signed_decimal : ℤ → List ℕ
signed_decimal n = cond (lt_z n (pos 0)) (ascii "-" ++ decimal (nat_abs n)) (decimal (nat_abs n))

unfoldable pub ratio : Fraction → List ℕ
ratio f = signed_decimal f.num ++ ascii "/" ++ decimal f.den

-- two hexadecimal digits for each byte
abbrev pub hexadecimal : List ℕ → List ℕ
hexadecimal [] = []
hexadecimal (b ∷ s) = hex_digit_ascii (b / 16) ∷ (hex_digit_ascii (b % 16) ∷ hexadecimal s)

-- ---- words, each with what stands after it
abbrev pub with_number : String → ℕ → List ℕ
with_number word n = ascii word ++ decimal n

abbrev pub with_ratio : String → Fraction → List ℕ
with_ratio word f = ascii word ++ ratio f

-- ---- "A refusal is one line, `refused` and then number, stream, place and key"
unfoldable pub refusal_line : Refusal → List ℕ
refusal_line r =
    with_number "refused " r.number
    ++ with_number " " r.stream
    ++ with_number " " r.place
    ++ with_number " " r.key
    ++ ascii "\n"

-- the line of the refusal, or what stands in its place where nothing is refused
abbrev pub unless_refused : Refusal → List ℕ → List ℕ
unless_refused r lines = cond (ltb 0 r.number) (refusal_line r) lines

-- the gap, or `empty` where it is marked so: "the program prints the line `gap empty` there"
unfoldable pub gap_word : Bool → Fraction → List ℕ
gap_word empty gap = cond empty (ascii "empty") (ratio gap)

-- the bounds, the gap and the rounds of the pair, with the words that stand before each
unfoldable pub pair_words : List ℕ → List ℕ → List ℕ → List ℕ → PairVerdict → List ℕ
pair_words lower upper gap rounds v =
    (lower ++ ratio v.lower)
    ++ (upper ++ ratio v.upper)
    ++ (gap ++ gap_word v.empty v.gap)
    ++ (rounds ++ decimal v.rounds)

-- ---- gapcheck: "The lines give p/q, P/Q, the gap and the rounds"; "each line ends in byte 0A"; with two joining rules
-- "the program's lines .. keep their form"
unfoldable pub pair_lines : PairVerdict → List ℕ
pair_lines v =
    unless_refused v.refusal
    (pair_words (ascii "lower ") (ascii "\nupper ") (ascii "\ngap ") (ascii "\nrounds ") v ++ ascii "\n")

-- ---- replay: one line for each record, with the rule used
unfoldable pub blocks_line : BlocksVerdict → List ℕ → List ℕ
blocks_line v out =
    unless_refused v.refusal
    (with_number "blocks " v.blocks
    ++ with_number " rounds " v.rounds
    ++ with_number " rule " v.rule
    ++ ascii " "
    ++ hexadecimal out
    ++ ascii "\n")

-- the side, the bound, the rounds and the rule of the check, after a word
unfoldable pub check_words : List ℕ → CheckVerdict → List ℕ
check_words word v =
    (word ++ decimal v.side)
    ++ with_ratio " " v.bound
    ++ with_number " rounds " v.rounds
    ++ with_number " rule " v.rule

unfoldable pub check_line : CheckVerdict → List ℕ
check_line v = unless_refused v.refusal (check_words (ascii "check ") v ++ ascii "\n")

unfoldable pub pair_line : PairVerdict → List ℕ
pair_line v =
    unless_refused v.refusal
    (pair_words (ascii "pair ") (ascii " ") (ascii " gap ") (ascii " rounds ") v
    ++ with_number " rule " v.rule
    ++ ascii "\n")

-- the outcomes of the arrivals, in order: the widest gap and its age, or the number of the refusal, with "; " between
-- them
unfoldable pub arrival_word : WindowVerdict → List ℕ
arrival_word v =
    cond (ltb 0 v.refusal.number) (decimal v.refusal.number) (ratio v.widest ++ with_number " " v.age)

abbrev pub arrival_words : List ℕ → List WindowVerdict → List ℕ
arrival_words before [] = []
arrival_words before (v ∷ l) = before ++ (arrival_word v ++ arrival_words (ascii "; ") l)

unfoldable pub window_line : List WindowVerdict → List ℕ
window_line l = ascii "window" ++ (arrival_words (ascii " ") l ++ ascii "\n")

-- the bytes that came back of two certificates
unfoldable pub tighter_line : Refusal → List ℕ → List ℕ
tighter_line r part = unless_refused r (ascii "tighter " ++ hexadecimal part ++ ascii "\n")

-- the number of masks, and the 256 bytes
unfoldable pub symmetries_line : SymmetriesVerdict → List ℕ → List ℕ
symmetries_line v out =
    unless_refused v.refusal
    (with_number "symmetries " v.masks ++ ascii " " ++ hexadecimal out ++ ascii "\n")

-- the moved bound
unfoldable pub adjusted_line : AdjustedVerdict → List ℕ
adjusted_line v = unless_refused v.refusal (with_ratio "adjusted " v.bound ++ ascii "\n")

-- what the check says of a certificate with its notes removed, their number, and the buffer at exit
unfoldable pub office_line : OfficeVerdict → List ℕ → List ℕ
office_line v buffer =
    unless_refused v.check.refusal
    (check_words (ascii "office ") v.check
    ++ with_number " notes " v.notes
    ++ ascii " "
    ++ hexadecimal buffer
    ++ ascii "\n")
