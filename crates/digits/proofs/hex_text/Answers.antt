-- `digits::hex_text` meets its contract: what each call of its closure gave is what the definition has there.
use Rattle.std.proofs.Common.{rules}
use Rattle.digits.specs.Hex.{hex_text}
use Rattle.octets.proofs.FromFn.{from_fn-tab}
use Rattle.digits.proofs.hex_text.Goals as goal

pub returns : goal.returns
unfolding hex_text
returns c = from_fn-tab _ _ _ (λ i y q e. search rules) c.from_fn.result 16 0 c.from_fn.ensures.items
