use Rattle.std.proofs.lemmas.List.{length-take-le}
use Rattle.work_tables.proofs.clear_tables.Goals as goal

pub returns : goal.returns
returns c =
    let keys = length-take-le 2048 c.args.keys.now c.requires.keys in
    let high = length-take-le 2048 c.args.high.now c.requires.high in
    let low = length-take-le 2048 c.args.low.now c.requires.low in
    record {
      keys = rw (c.fill.ensures.after (λ y e. e), keys);
      high = rw (c.fill-2.ensures.after (λ y e. e), high);
      low = rw (c.fill-3.ensures.after (λ y e. e), low);
    }
