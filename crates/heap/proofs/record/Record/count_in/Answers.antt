-- `heap::record::Record::count_in` meets its contract: the fields that change are what the three calls ensure.
use Rattle.heap.proofs.record.Record.count_in.Goals as goal

pub returns : goal.returns
returns c = cc
