use Rattle.std.proofs.Common.{[], ◌++◌, ap, sym, ◌∙◌, refl, inl}
use Rattle.std.proofs.lemmas.Result.{err_from_is_err_and}
use Rattle.group_commit.specs.Saved.{with_stream}
use Rattle.page_file.proofs.Looked.{looked_on}
use Rattle.group_commit.proofs.MovingLemmas.{can_move}
use Rattle.group_commit.proofs.ImageReads.{root_fault, stands_read}
use Rattle.group_commit.proofs.load_image.read_image.Goals as goal

pub returns-in_err-pages-clause-fault : goal.returns-in_err-pages-clause-fault
returns-in_err-pages-clause-fault g c = λ told.
    let p = err_from_is_err_and c.from_residual-in_err-pages.result c.from_residual-in_err-pages.ensures.1 in
    let file = g.D.DiskFacts.content c.args.disk.now in
    let looks = c.in_ok-roots.ensures.looks in
    let named = rw (looks.looks told).same at (c.in_err-pages.ensures.fault (looks.tells.1 told)) in
    rw (p.1, p.2) (root_fault file c.in_ok-roots.field-0.roots.slot c.in_ok-roots.field-0.roots.stale_open c.in_ok-roots.field-0.root c.in_err-pages.field-0.0
    (c.in_ok-roots.ensures.found told) named)

pub returns-in_err-pages-clause-looks : goal.returns-in_err-pages-clause-looks
returns-in_err-pages-clause-looks g c =
    let p = err_from_is_err_and c.from_residual-in_err-pages.result c.from_residual-in_err-pages.ensures.1 in
    rw (p.1, p.2)
    (looked_on g.D.DiskFacts _ 0 c.args.disk.now c.load_roots.new.disk c.read_stream.new.disk c.in_ok-roots.ensures.looks c.in_err-pages.ensures.looks)

pub returns-in_err-current-clause-fault : goal.returns-in_err-current-clause-fault
returns-in_err-current-clause-fault g c = λ told.
    let p = err_from_is_err_and c.from_residual-in_err-current.result c.from_residual-in_err-current.ensures.1 in
    rw (p.1, p.2) (inl tt)

pub returns-in_err-anew-clause-fault : goal.returns-in_err-anew-clause-fault
returns-in_err-anew-clause-fault g c = λ told.
    let p = err_from_is_err_and c.from_residual-in_err-anew.result c.from_residual-in_err-anew.ensures.1 in
    rw (p.1, p.2) (inl tt)

pub returns-in_err-anew-clause-looks : goal.returns-in_err-anew-clause-looks
returns-in_err-anew-clause-looks g c =
    let p = err_from_is_err_and c.from_residual-in_err-anew.result c.from_residual-in_err-anew.ensures.1 in
    rw (p.1, p.2)
    (looked_on g.D.DiskFacts 0 0 c.args.disk.now c.load_roots.new.disk c.read_stream.new.disk c.in_ok-roots.ensures.looks c.in_ok-pages.ensures.looks)

pub returns-in_err-current-clause-looks : goal.returns-in_err-current-clause-looks
returns-in_err-current-clause-looks g c =
    let p = err_from_is_err_and c.from_residual-in_err-current.result c.from_residual-in_err-current.ensures.1 in
    rw (p.1, p.2)
    (looked_on g.D.DiskFacts 0 0 c.args.disk.now c.load_roots.new.disk c.read_stream.new.disk c.in_ok-roots.ensures.looks c.in_ok-pages.ensures.looks)

pub returns-clause-read : goal.returns-clause-read
returns-clause-read g c =
    let read = c.in_ok-pages.ensures.read in
    let tail = c.in_ok-pages.field-0.tail in
    let says = c.in_ok-current.ensures.says in
    record {
      slot = c.in_ok-roots.ensures.below;
      stands = λ told.
          let file = g.D.DiskFacts.content c.args.disk.now in
          let live = c.in_ok-roots.ensures.found told in
          let head = c.in_ok-roots.field-0.root in
          let same = (c.in_ok-roots.ensures.looks.looks told).same in
          let told' = c.load_roots.ensures.looks.tells.1 told in
          stands_read file c.in_ok-roots.field-0.roots.slot c.in_ok-roots.field-0.roots.stale_open head (with_stream c.in_ok-current.current tail)
          (with_stream c.in_ok-current.next []) live
          (c.in_ok-current.ensures.written ∙ sym live.written)
          (rw (sym same) (read.stream told'))
          (rw (c.in_ok-current.ensures.pages, sym same) (read.pages told'));
      long = read.has.long ∙ ap (λ r. r.stream_length) (sym says);
      moving =
          can_move (with_stream c.in_ok-current.current tail) c.in_ok-pages.field-0.ops c.in_ok-anew.anew.items
          (rw (ap (λ r. r.format) says, ap (λ r. r.operations) says) read.has.spelled)
          (rw (ap (λ r. r.format) says ∙ sym c.format.ensures) c.in_ok-anew.ensures.spells)
          (rw (ap (λ r. r.format) says ∙ sym c.format.ensures) c.in_ok-anew.ensures.short);
      other = c.in_ok-current.ensures.other;
      history = record {
        spelled = rw (ap (λ r. r.format) says, ap (λ r. r.operations) says) read.has.spelled;
        owner = refl;
      };
      index = record {
        tables = read.index.tables ∙ ap (λ r. r.tables) (sym says);
        live = ap (λ t. t ++ c.in_ok-pages.field-0.pages.data_pages) read.index.tables ∙ sym c.in_ok-current.ensures.pages;
      };
      none_taken = read.index.none_taken;
    }

pub returns-clause-looks : goal.returns-clause-looks
returns-clause-looks g c =
    looked_on g.D.DiskFacts 0 0 c.args.disk.now c.load_roots.new.disk c.read_stream.new.disk c.in_ok-roots.ensures.looks c.in_ok-pages.ensures.looks
