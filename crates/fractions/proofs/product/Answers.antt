use Rattle.fractions.proofs.Products.{product_is}
use Rattle.fractions.proofs.product.Goals as goal

pub returns : goal.returns
returns c = product_is c.args.n c.args.d
