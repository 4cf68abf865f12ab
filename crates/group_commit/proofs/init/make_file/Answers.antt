use Rattle.std.proofs.Common.{ap, ◌∙◌, ◌++◌, [], ◌∷◌}
use Rattle.std.specs.Prelude.{replicate}
use Rattle.std.proofs.lemmas.Result.{on_ok_weaker, err_from_is_err_and, IfErr-weaker}
use Rattle.disk_trait.specs.File.{overwritten}
use Rattle.group_commit.specs.NewFile.{OpensPartly}
use Rattle.group_commit.proofs.NewFileLemmas.{opened_file, made_by}
use Rattle.group_commit.proofs.Stopped.{refuses_memory, refuses_opening, counts_then}
use Rattle.group_commit.proofs.init.make_file.Goals as goal

pub returns-clause-made : goal.returns-clause-made
returns-clause-made g c = λ told.
    let mid = (c.in_ok-put_slots.ensures.tells).1 told in
    let slots = c.in_ok-put_slots.ensures.made told in
    made_by g.D.DiskFacts c.open_first.result _ 3 2 c.args.disk.now c.open_first.new.disk
    (on_ok_weaker c.open_first.result
    (λ put. opened_file c.in_ok-first.first.items _ c.args.body.now c.in_ok-first.ensures
    (put ∙ ap (λ f. overwritten f 0 (1 ∷ [])) (slots.made ∙ ap (λ p. p ++ replicate 4096 0) c.deref.ensures.value)))
    (c.open_first.ensures.written mid))
    (on_ok_weaker c.open_first.result (counts_then g.D.DiskFacts 0 2 0 0 1 2 c.args.disk.now c.put_slots.new.disk c.open_first.new.disk slots.counts) (c.open_first.ensures.counts mid))

pub returns-in_err-first-clause-refused : goal.returns-in_err-first-clause-refused
returns-in_err-first-clause-refused g c = λ told.
    let p = err_from_is_err_and c.from_residual.result c.from_residual.ensures.1 in
    rw (p.1, p.2) (λ replica root. refuses_memory g.D.DiskFacts replica c.args.disk.now (g.met.D.Disk.lawful c.args.disk.now told) (c.requires.empty told))

pub returns-clause-refused : goal.returns-clause-refused
returns-clause-refused g c = λ told.
    IfErr-weaker c.open_first.result (λ e. OpensPartly g.D.DiskFacts e c.put_slots.new.disk c.open_first.new.disk) _
    (λ e partly replica root. refuses_opening g.D.DiskFacts replica c.args.body.now c.in_ok-first.first.items e c.args.disk.now c.put_slots.new.disk
    c.open_first.new.disk (c.requires.empty told) root c.in_ok-first.ensures
    ((c.in_ok-put_slots.ensures.made told).made ∙ ap (λ p. p ++ replicate 4096 0) c.deref.ensures.value) (c.in_ok-put_slots.ensures.made told).counts partly)
    (c.open_first.ensures.partly ((c.in_ok-put_slots.ensures.tells).1 told))
