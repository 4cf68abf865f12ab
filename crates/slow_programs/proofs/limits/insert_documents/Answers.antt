use Rattle.std.proofs.Common.{◌-◌, suc, ◌≡◌, arith}
use Rattle.op_model.proofs.RisingLemmas.{up_with}
use Rattle.slow_programs.proofs.DocumentLemmas.{documents_before}
use Rattle.slow_programs.proofs.limits.insert_documents.Goals as goal

pub loop-i-preserved : goal.loop-i-preserved
loop-i-preserved c =
    let next : suc (c.loop-i.i - 1) ≡ c.loop-i.i = omega (arith, c.loop-i-test.true) in
    record {
      within = omega (arith, c.loop-i.invariant.within);
      up = rw c.in_ok-put_among.ensures.put (up_with _ c.loop-i.found.items c.loop-i.invariant.up);
      found = λ behind is.
          documents_before c.args.ops.now behind (c.loop-i.i - 1) c.loop-i.i c.index-ops-i.result c.loop-i.found.items c.put_among.new.numbers.items next
          (omega (arith, c.loop-i-test.true, c.loop-i.invariant.within)) c.in_ok-put_among.ensures.put (c.loop-i.invariant.found behind is);
    }
