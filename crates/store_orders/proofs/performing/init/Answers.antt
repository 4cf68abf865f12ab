use Rattle.std.proofs.Common.{inl}
use Rattle.store_orders.proofs.performing.init.Goals as goal

pub returns-in-Ok : goal.returns-in-Ok
returns-in-Ok g c = inl (record {
  store = c.in-Ok.store;
  new_store = c.in-Ok.ensures.made;
  disk = c.into_disk.ensures;
  ok = c.print_done.ensures.ok;
  err = c.print_done.ensures.err;
})
