use Rattle.std.proofs.Common.{arith, rules}
use Rattle.iscsi_tool.proofs.SpellingLemmas.{even_written, odd_written, cut_written}
use Rattle.iscsi_tool.proofs.hex_writer.write_digits.Goals as goal

pub returns-then-taken-eq0-clause-ok : goal.returns-then-taken-eq0-clause-ok
returns-then-taken-eq0-clause-ok g c =
    even_written _ _ _ c.in_ok-taken.taken c.args.bytes.now c.spell.new.digits c.in_ok-taken.ensures.bytes
    c.spell.ensures c.in_ok-taken.ensures.bound c.if-taken-eq0.true

pub returns-then-write_digit-clause-ok : goal.returns-then-write_digit-clause-ok
returns-then-write_digit-clause-ok g c =
    odd_written _ _ _ _ c.in_ok-taken.taken c.args.bytes.now c.spell.new.digits c.in_ok-taken.ensures.bytes
    (c.write_digit.ensures.yes (search rules)) c.spell.ensures c.in_ok-taken.ensures.bound (omega (arith, c.if-taken-eq0.false))

pub returns-clause-ok : goal.returns-clause-ok
returns-clause-ok g c =
    cut_written _ _ _ _ c.in_ok-taken.taken c.args.bytes.now c.spell.new.digits c.in_ok-taken.ensures.bytes
    (c.write_digit.ensures.no (search rules)) c.spell.ensures c.in_ok-taken.ensures.bound (omega (arith, c.if-taken-eq0.false))
