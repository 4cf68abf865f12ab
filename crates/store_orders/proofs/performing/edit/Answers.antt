use Rattle.std.proofs.Common.{inl}
use Rattle.store_orders.proofs.performing.edit.Goals as goal

pub returns-in-Ok : goal.returns-in-Ok
returns-in-Ok g c = inl (record {
  hub = c.in-Ok.hub;
  last = c.serve-served.new.desk;
  served = c.serve-served.result;
  is_opened = record {
    image = c.in-Ok.ensures.image;
    state = c.in-Ok.ensures.opened;
    loaded = c.in-Ok.ensures.loaded;
    looked = c.in-Ok.ensures.looks;
  };
  serves = rw c.new-desk.ensures at c.serve-served.ensures;
  is_end = rw c.into_hub-hub.ensures at (rw c.has_failed.ensures at c.end_of-end.ensures);
  disk = rw c.into_hub-hub.ensures at c.into_disk.ensures;
})
