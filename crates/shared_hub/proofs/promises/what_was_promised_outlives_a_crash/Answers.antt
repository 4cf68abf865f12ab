use Rattle.shared_hub.proofs.CrashLemmas.{acknowledged_left, counted_left, left_since, settled_after, told_left}
use Rattle.shared_hub.proofs.promises.what_was_promised_outlives_a_crash.Goals as goal

pub returns : goal.returns
returns g c = record {
  since = λ l committer event answer w. settled_after g.D.DiskFacts l committer event answer w;
  left = λ l committer n file turn since. left_since g.D.DiskFacts l committer n file turn since;
  acknowledged = λ l committer t file w since. acknowledged_left g.D.DiskFacts l committer t file w since;
  told = λ l committer its ops file w since. told_left g.D.DiskFacts l committer its ops file w since;
  counted = λ l committer its file w since. counted_left g.D.DiskFacts l committer its file w since;
}
