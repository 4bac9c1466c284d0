use Rattle.std.proofs.Common.{◌≤◌, arith, rules}
use Rattle.scsi_disk.specs.Disk.{most_blocks}
use Rattle.nbd_client.proofs.ServedLemmas.{may_asked, answers_asked}
use Rattle.nbd_client.proofs.served.ServedLine.send.Goals as goal

pub returns-in_default-performed-clause-may : goal.returns-in_default-performed-clause-may
returns-in_default-performed-clause-may g c r lba a =
    let few : (g.M.Medium.seen c.args.self.now.medium).count ≤ most_blocks = search rules in
    may_asked _ r _ lba _ _ _ _ _ _ _ _ _ _ few c.in-Some.ensures.asked.0 c.in-Some.ensures.asked.1 a c.perform-performed.ensures.may

pub returns-in_default-reply_of-clause-may : goal.returns-in_default-reply_of-clause-may
returns-in_default-reply_of-clause-may g c r lba a =
    let few : (g.M.Medium.seen c.args.self.now.medium).count ≤ most_blocks = search rules in
    may_asked _ r _ lba _ _ _ _ _ _ _ _ _ _ few c.in-Some.ensures.asked.0 c.in-Some.ensures.asked.1 a c.perform-performed.ensures.may

pub returns-clause-may : goal.returns-clause-may
returns-clause-may g c r lba a =
    let few : (g.M.Medium.seen c.args.self.now.medium).count ≤ most_blocks = search rules in
    may_asked _ r _ lba _ _ _ _ _ _ _ _ _ _ few c.in-Some.ensures.asked.0 c.in-Some.ensures.asked.1 a c.perform-performed.ensures.may

pub returns-clause-answers : goal.returns-clause-answers
returns-clause-answers g c same r lba a =
    let few : (g.M.Medium.seen c.args.self.now.medium).count ≤ most_blocks = search rules in
    answers_asked _ r (record { place = _; count = _ }) (record { place = lba; count = _ }) _ _ _ _ _ _ _ c.in-Ok.done.error _ _ few
    c.in-Some.ensures.asked.0 c.in-Some.ensures.asked.1 a (omega arith) c.in-Ok-reply_of.ensures.sent (c.in-Ok.ensures.done same)
