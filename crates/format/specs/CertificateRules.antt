-- The rules of the certificate stream: what is refused, with which number, and what is read.
use Rattle.std.specs.Prelude.{Bool, true, false, not, ◌&&◌, List, [], ◌∷◌, ◌++◌, ℕ, ◌+◌, ◌-◌, eqb, leb, ltb, ℤ, pos, length, get_or, set}
use Rattle.format.specs.Commands.{Outcome, first_refusal, Language, read_whole}
use Rattle.format.specs.ProblemRules.{Problem, nonzero}
use Rattle.format.specs.ProblemBases.{basis_of, is_equality, kind_of}
use Rattle.format.specs.declared.certificate.Command.{Command}
use Rattle.format.specs.declared.certificate.Command.TheVariants as C
use Rattle.format.specs.declared.certificate.Instruction.{Instruction}
use Rattle.format.specs.declared.certificate.Instruction.TheVariants as I
use Rattle.format.specs.declared.certificate.Header.{Header}
use Rattle.format.specs.CertificateLayout.{certificate_command, certificate_size, certificate_decoded}

-- an entry: factor l on basis index i, and the offset of its command. 12 and 15 are two layouts of it, with one rule
-- for each check
pub record Entry : Type 0 where
  pub index : ℕ
  pub factor : ℤ
  pub place : ℕ

-- a row: weight w, a whole number, on basis j, with its entries
pub record Row : Type 0 where
  pub basis : ℕ
  pub weight : ℤ
  pub entries : List Entry

pub record Certificate : Type 0 where
  pub header : Header
  pub rows : List Row

abbrev pub no_header : Header
no_header = record { side = 0; scale = 0; p = pos 0; q = 0 }

-- before the first command
abbrev pub no_certificate : Certificate
no_certificate = record { header = no_header; rows = [] }

-- ---- "the row begun last", by 11 or by 14
abbrev pub no_row : Row
no_row = record { basis = 0; weight = pos 0; entries = [] }

abbrev pub last_row : List Row → Row
last_row rs = get_or rs (length rs - 1) no_row

-- ---- refusal 3: 10 stands "first, and only first"
-- an entry: "a 12 before any row, is misplaced", and "a 15 before any row is misplaced"
abbrev pub entry_placed : Certificate → ℕ → Bool
entry_placed c at = ltb 0 at && ltb 0 (length c.rows)

abbrev pub certificate_placed : Certificate → ℕ → Command → Bool
certificate_placed c at C.Header = eqb at 0
certificate_placed c at C.Row = ltb 0 at
certificate_placed c at C.Entry = entry_placed c at
certificate_placed c at C.End = ltb 0 at
certificate_placed c at C.EqualityRow = ltb 0 at
certificate_placed c at C.WideEntry = entry_placed c at
certificate_placed c at C.Unknown = false

-- ---- refusal 4: "side 0 lower, 1 upper; D and q at least 1"; 11 is "on basis j, 0 or a constraint of the problem,
-- with weight w at least 1"; 14 is "on an equality, with w negative or positive, never 0"; "Command 11 on an equality,
-- or 14 on another basis, breaks an operand rule"
-- an entry: its index is "less than the basis's length"; "factors are never 0"
abbrev pub entry_fits : Problem → Certificate → ℕ → ℤ → Bool
entry_fits p c i l = ltb i (length (basis_of p (last_row c.rows).basis)) && nonzero l

abbrev pub certificate_operands_fit : Problem → Certificate → Instruction → Bool
certificate_operands_fit p c (I.Header side d x q) = leb side 1 && (leb 1 d && leb 1 q)
certificate_operands_fit p c (I.Row j w) =
    leb j (length p.conditions) && (not (is_equality (kind_of p j)) && leb 1 w)
certificate_operands_fit p c (I.Entry i l) = entry_fits p c i l
certificate_operands_fit p c I.End = true
certificate_operands_fit p c (I.EqualityRow j w) =
    leb j (length p.conditions) && (is_equality (kind_of p j) && nonzero w)
certificate_operands_fit p c (I.WideEntry i l) = entry_fits p c i l

-- ---- refusal 5: "index not rising"
-- "Indices rise within a row": an index is above that of the row's last entry
abbrev pub rises : List Entry → ℕ → Bool
rises [] i = true
rises (e ∷ []) i = ltb e.index i
rises (e ∷ f ∷ es) i = rises (f ∷ es) i

-- an entry: "both kinds may stand in one row and share the rising indices"
abbrev pub index_repeated : Certificate → ℕ → Bool
index_repeated c i = not (rises (last_row c.rows).entries i)

abbrev pub certificate_repeated : Certificate → Instruction → Bool
certificate_repeated c (I.Header side d x q) = false
certificate_repeated c (I.Row j w) = false
certificate_repeated c (I.Entry i l) = index_repeated c i
certificate_repeated c I.End = false
certificate_repeated c (I.EqualityRow j w) = false
certificate_repeated c (I.WideEntry i l) = index_repeated c i

-- ---- refusal 6: "one more than a count allows"
-- "at most 128 rows", and a row on an equality is "counted among the 128"
abbrev pub most_rows : ℕ
most_rows = 128

abbrev pub rows_full : Certificate → Bool
rows_full c = leb most_rows (length c.rows)

abbrev pub certificate_full : Certificate → Instruction → Bool
certificate_full c (I.Header side d x q) = false
certificate_full c (I.Row j w) = rows_full c
certificate_full c (I.Entry i l) = false
certificate_full c I.End = false
certificate_full c (I.EqualityRow j w) = rows_full c
certificate_full c (I.WideEntry i l) = false

-- ---- what a command that is not refused does; an entry belongs to the row begun last
-- a row begun on basis j with weight w
abbrev pub with_row : Certificate → ℕ → ℤ → Certificate
with_row c j w = record {
  header = c.header;
  rows = c.rows ++ (record { basis = j; weight = w; entries = [] } ∷ []);
}

abbrev pub with_entry : Row → Entry → Row
with_entry r e = record { basis = r.basis; weight = r.weight; entries = r.entries ++ (e ∷ []) }

-- one more entry of the row begun last, by a command at an offset
abbrev pub entered : Certificate → ℕ → ℤ → ℕ → Certificate
entered c i l at = record {
  header = c.header;
  rows =
      let e : Entry = record { index = i; factor = l; place = at } in
      set c.rows (length c.rows - 1) (with_entry (last_row c.rows) e);
}

unfoldable pub certificate_applied : Certificate → Instruction → ℕ → Certificate
certificate_applied c (I.Header side d p q) at = record {
  header = record { side = side; scale = d; p = p; q = q };
  rows = c.rows;
}
certificate_applied c (I.Row j w) at = with_row c j (pos w)
certificate_applied c (I.Entry i l) at = entered c i l at
certificate_applied c I.End at = c
certificate_applied c (I.EqualityRow j w) at = with_row c j w
certificate_applied c (I.WideEntry i l) at = entered c i l at

-- ---- the command at an offset
abbrev pub certificate_command_at : List ℕ → ℕ → Command
certificate_command_at s at = certificate_command (get_or s at 0)

abbrev pub certificate_instruction_at : List ℕ → ℕ → Instruction
certificate_instruction_at s at = certificate_decoded (certificate_command_at s at) s at

unfoldable pub certificate_refusal_at : Problem → Certificate → List ℕ → ℕ → ℕ
certificate_refusal_at p c s at =
    let k = certificate_command_at s at in
    let i = certificate_instruction_at s at in
    first_refusal (certificate_placed c at k) (leb (at + certificate_size k) (length s))
    (certificate_operands_fit p c i) (certificate_repeated c i) (certificate_full c i)

unfoldable pub certificate_next : Certificate → List ℕ → ℕ → Certificate
certificate_next c s at = certificate_applied c (certificate_instruction_at s at) at

-- ---- the certificate stream, read against a problem
abbrev pub certificate_language : Problem → Language Certificate
certificate_language p = record {
  verdict = certificate_refusal_at p;
  next = certificate_next;
  size = λ b. certificate_size (certificate_command b);
  ending = 0x13;
}

unfoldable pub read_certificate : Problem → List ℕ → Outcome Certificate
read_certificate p s = read_whole (certificate_language p) no_certificate s
