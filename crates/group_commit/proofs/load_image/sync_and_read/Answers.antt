use Rattle.group_commit.proofs.OpeningReads.{refused_read}
use Rattle.group_commit.proofs.load_image.sync_and_read.Goals as goal

pub returns-clause-refused : goal.returns-clause-refused
returns-clause-refused g c =
    refused_read g.D.DiskFacts c.read_image.result c.args.disk.now c.sync_file.new.disk c.read_image.new.disk c.in_ok-sync_file.ensures.looks
    c.in_ok-sync_file.ensures.settled c.read_image.ensures.looks c.read_image.ensures.fault
