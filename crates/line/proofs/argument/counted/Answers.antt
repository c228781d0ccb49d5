-- `line::argument::counted` meets its contract: a count after the first. Assumes nothing.
use Rattle.line.proofs.Laws.Next.{counted_later}
use Rattle.line.proofs.argument.counted.Goals as goal

pub returns : goal.returns
returns c = counted_later c.args.c c.in-Some.count c.listing.result c.in-Some.is c.if-c-eq0.false c.listing.ensures
