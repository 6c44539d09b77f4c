-- `steps::free::set_free_chunk_hdr_ftr` meets its contract: two stores.
use Rattle.steps.proofs.Neighbours.{freed_by}
use Rattle.steps.proofs.free.set_free_chunk_hdr_ftr.Goals as goal

pub returns : goal.returns
returns c = freed_by _ _ _ _ _ _ c.set_hdr.ensures c.hdr_to_ftr-ftr.ensures c.set_ftr_chunk_size.ensures
