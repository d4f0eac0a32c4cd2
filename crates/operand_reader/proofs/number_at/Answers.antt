-- `number_at`: the stream's bytes are copied to the front of eight zeros.
use Rattle.std.proofs.Common.{arith}
use Rattle.format.proofs.Numbers.{number_low}
use Rattle.operand_reader.proofs.Operands.{read_front}
use Rattle.operand_reader.proofs.number_at.Goals as goal

pub returns : goal.returns
returns c =
    let e = read_front c.args.s.now _ _ c.args.at _ c.requires.0 c.requires.1 c.copy_from_slice.ensures.after c.from_le_bytes.ensures in
    (e, rw e (number_low c.args.s.now (λ i. omega (arith, c.type_inv.s i)) c.args.width c.args.at))
