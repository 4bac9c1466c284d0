-- A segment of another direction leaves nothing, and one that is cut leaves what it adds.
use Rattle.iscsi_captures.proofs.captured.hear_segment.Goals as goal
use Rattle.iscsi_captures.proofs.Hearing.{heard_all, heard_none}
use Rattle.iscsi_captures.proofs.Reading.{adds_nothing, adds_one}

pub returns-in-Ok-false-clause-hears : goal.returns-in-Ok-false-clause-hears
returns-in-Ok-false-clause-hears c =
    heard_none c.args.connections.now c.args.heard.now c.args.wanted c.in-Ok.number
    c.take.new.self c.keep_within.new.self c.clear.new.self.items c.take.new.out.items
    c.clear-in-Ok-false.new.self.items c.in-Ok-false.field-0 c.list.result.now
    c.clear.ensures.items c.clear-in-Ok-false.ensures.items c.in-Ok-false.field-0-test
    c.list.ensures c.in-Ok.ensures.hears c.keep_within.ensures.last c.keep_within.ensures.keeps
    c.in-Ok-false.ensures.is

pub returns-in-Err-clause-err : goal.returns-in-Err-clause-err
returns-in-Err-clause-err c =
    adds_nothing c.args.wanted c.args.connections.now c.clear-in-Err.new.self.items
    c.clear-in-Err.ensures.items

pub returns-in-Err-Cut-clause-err : goal.returns-in-Err-Cut-clause-err
returns-in-Err-Cut-clause-err c = (
  c.keep_within.new.self,
  adds_one c.args.wanted c.args.connections.now c.keep_within.new.self c.args.heard.now
      c.take.new.out.items
      (heard_all c.args.connections.now c.args.heard.now c.args.wanted c.in-Ok.number c.take.new.self
      c.keep_within.new.self c.clear.new.self.items c.take.new.out.items c.in-Err-Cut.field-0
      c.in-Err-Cut.at c.in-Err-Cut.packet c.list.result.now c.clear.ensures.items
      c.in-Err-Cut.field-0-is c.list.ensures c.in-Ok.ensures.hears c.keep_within.ensures.last
      c.keep_within.ensures.keeps c.in-Err-Cut.ensures.cut),
)

pub returns-in-Err-is_wanted : goal.returns-in-Err-is_wanted
returns-in-Err-is_wanted c = record {
  hears = tt;
  err = adds_nothing c.args.wanted c.args.connections.now c.clear-in-Err-is_wanted.new.self.items
      c.clear-in-Err-is_wanted.ensures.items;
  fault = c.in-Err-is_wanted.ensures.fault;
}
