use Rattle.std.proofs.Common.{◌≡◌, ℕ, ◌++◌, List, length, ap, sym, ◌∙◌, Ok, subst, Result}
use Rattle.std.proofs.Math.Seq.{drop-append_seam}
use Rattle.std.proofs.lemmas.Result.{err_from_is_err_and}
use Rattle.page_file.specs.Pages.{pages}
use Rattle.root_slots.specs.Body.{Root}
use Rattle.group_commit.specs.Loading.{reached_of, stream_of, stream_at, stream_behind}
use Rattle.group_commit.specs.Parts.{NamesReadFault}
use Rattle.group_commit.proofs.load_stream.read_stream.Goals as goal

-- the stream of a root is what its data pages hold
stream_found : (head : Root) (file named numbers : List ℕ) → reached_of head file ≡ Ok (head.tables ++ named) → numbers ≡ named
    → stream_of head.stream_length (pages numbers file) ≡ stream_at head file
stream_found head file named numbers found same =
    ap (λ ns. stream_of head.stream_length (pages ns file)) (same ∙ sym (drop-append_seam head.tables named))
    ∙ sym (ap (stream_behind (length head.tables) head.stream_length file) found)

pub returns-in_err-tail-clause-fault : goal.returns-in_err-tail-clause-fault
returns-in_err-tail-clause-fault g c = λ told.
    let p = err_from_is_err_and c.from_residual-in_err-tail.result c.from_residual-in_err-tail.ensures.1 in
    let head = c.args.head.now in
    let file = g.D.DiskFacts.content c.args.disk.now in
    let looks = c.in_ok-pages.ensures.looks in
    let found = stream_found head file c.in_ok-pages.pages.data_pages c.live.result.1.now (c.in_ok-pages.ensures.value told) c.live.ensures.data_pages in
    let fault = rw (looks.looks told).same at (c.in_err-tail.ensures.fault (looks.tells.1 told)) in
    rw (p.1, p.2) (subst (λ (s : Result (List ℕ) ℕ). NamesReadFault c.in_err-tail.field-0.0 head.format head.operations s) found fault)

pub returns-clause-read : goal.returns-clause-read
returns-clause-read g c = record {
  index = c.in_ok-pages.ensures.index;
  has = c.in_ok-tail.ensures.read;
  pages = c.in_ok-pages.ensures.value;
  stream = λ told.
      let head = c.args.head.now in
      let file = g.D.DiskFacts.content c.args.disk.now in
      let looks = c.in_ok-pages.ensures.looks in
      let found = stream_found head file c.in_ok-pages.pages.data_pages c.live.result.1.now (c.in_ok-pages.ensures.value told) c.live.ensures.data_pages in
      sym found ∙ (rw (looks.looks told).same at (c.in_ok-tail.ensures.value (looks.tells.1 told)));
}
