-- `read_input` meets its contract. Assumes nothing.
use Rattle.plan.proofs.Input.{first_read}
use Rattle.plan.proofs.read_input.Goals as goal

pub returns : goal.returns
returns g c = first_read g.R.Read.remaining c.take.result c.args.from 65537 c.new-input.result.items c.read_to_end.new.buf.items c.take.ensures.limit c.take.ensures.inner c.new-input.ensures.items c.in_ok-read_to_end.ensures.bytes
