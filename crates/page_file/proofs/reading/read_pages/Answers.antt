use Rattle.std.proofs.Common.{arith}
use Rattle.disk_trait.proofs.Looking.{looks_then}
use Rattle.page_file.proofs.PageReads.{next_inside, next_whole, next_read}
use Rattle.page_file.proofs.reading.read_pages.Goals as goal

pub append_page-requires : goal.append_page-requires
append_page-requires g c = record {
  inside = λ told.
      let before = c.loop-number.invariant.tells.0 told in
      rw (c.loop-number.invariant.looks before).same
      (next_inside c.args.numbers.now (g.D.DiskFacts.content c.args.disk.now) c.loop-number.number-index (c.loop-number.invariant.whole before) c.loop-number-test.true);
}

pub loop-number-preserved : goal.loop-number-preserved
loop-number-preserved g c =
    let ns = c.args.numbers.now in
    let i = c.loop-number.number-index in
    let file = g.D.DiskFacts.content c.args.disk.now in
    record {
      tells = (λ told. c.loop-number.invariant.tells.0 (c.append_page.ensures.looks.tells.0 told), λ told. c.append_page.ensures.looks.tells.1 (c.loop-number.invariant.tells.1 told));
      looks = λ told.
          looks_then g.D.DiskFacts 0 0 0 0 c.args.disk.now c.loop-number.disk c.append_page.new.disk (c.loop-number.invariant.looks told)
          (c.in_ok-append_page.ensures.looks.looks (c.loop-number.invariant.tells.1 told));
      read = λ told.
          rw (c.in_ok-append_page.ensures.read (c.loop-number.invariant.tells.1 told), (c.loop-number.invariant.looks told).same)
          (next_read ns file c.loop-number.bytes.items _ i c.loop-number-test.true (c.loop-number.invariant.read told));
      whole = λ told. next_whole ns file i (c.loop-number.invariant.whole told) c.loop-number-test.true;
      size = omega (arith, c.in_ok-append_page.ensures.size, c.loop-number.invariant.size);
    }
