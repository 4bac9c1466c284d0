use Rattle.iscsi_pdu.proofs.laws.read_written.Goals as goal

pub returns : goal.returns
returns c = c.read_head.ensures.only c.args.head.now c.args.len (c.write_head.ensures.back c.requires.login)
