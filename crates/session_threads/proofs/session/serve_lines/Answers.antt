use Rattle.std.proofs.Common.{[], refl}
use Rattle.std.proofs.lemmas.Result.{err_from_is_err_and}
use Rattle.std.proofs.KnownBytes.{Appends-nil, Consumes-nil}
use Rattle.session_threads.proofs.OutcomeLemmas.{cut_between}
use Rattle.session_threads.proofs.session.serve_lines.Goals as goal

pub returns-in_err-room-clause-err : goal.returns-in_err-room-clause-err
returns-in_err-room-clause-err g c =
    let p = err_from_is_err_and c.from_residual.result c.from_residual.ensures.1 in
    rw p.1
    (cut_between g.D.Desk.serves _ _ _ _ _ _ [] [] (Consumes-nil _) (refl, refl) (Appends-nil _))
