-- `answers::put_feed` meets its contract.
use borrow.Author.Rules.{rules}
use mathlib.Core.Path.{refl}
use Rattle.octets.proofs.Put.{put_one}
use Rattle.answers.proofs.put_feed.Goals as goal

pub returns : goal.returns
returns c = (put_one c.args.out.now c.args.at 10 (search rules), refl)
