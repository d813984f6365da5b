-- `digits::hex_bytes` meets its contract: what each call of its closure gave is what the definition has there.
use Rattle.std.proofs.Common.{rules}
use Rattle.digits.specs.Hex.{hex_bytes}
use Rattle.octets.proofs.FromFn.{from_fn-tab}
use Rattle.digits.proofs.hex_bytes.Goals as goal

pub returns : goal.returns
unfolding hex_bytes
returns c = from_fn-tab _ _ _ (λ i y q e. search rules) c.from_fn.result 8 0 c.from_fn.ensures.items
