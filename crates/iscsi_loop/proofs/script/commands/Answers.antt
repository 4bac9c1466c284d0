use Rattle.std.proofs.Common.{◌≡◌, ◌++◌, ◌∷◌, [], List, Option, Some, IfSome, sym, subst, ◌∙◌, map, rules}
use borrow.Author.Tests.{tests}
use Rattle.iscsi_loop.specs.declared.command.Command.{Command}
use Rattle.iscsi_loop.specs.Script.{meaning, meanings}
use Rattle.iscsi_loop.specs.inner.Script.{IsCommandInRange, AreCommandsInRange}
use Rattle.iscsi_loop.proofs.ScriptLemmas.{commands_more, one_more_in_range}
use Rattle.iscsi_loop.proofs.script.commands.Goals as goal

pub loop-rest-preserved : goal.loop-rest-preserved
loop-rest-preserved c =
    let at = c.loop-rest in
    let command = c.in-Some.command in
    let line = c.first_line.result.0.now in
    let more = c.first_line.result.1.now in
    let items : c.push.new.self.items ≡ at.commands.items ++ command ∷ [] = search (
      rules,
      tests,
      c.push.ensures.items,
      c.is_err.ensures.value,
      c.is_err.ensures.negation,
      c.if-is_err.false,
    ) in
    let means : meaning line ≡ Some command = sym c.in_ok-command.ensures.means ∙ c.in-Some.is in
    let range : IsCommandInRange command = subst (λ (o : Option Command). IfSome o IsCommandInRange) c.in-Some.is c.in_ok-command.ensures.range in (
      subst (λ (cs : List Command). meanings c.args.script.now ≡ map Some cs ++ meanings more) (sym items)
          (commands_more c.args.script.now at.rest.now line more at.commands.items command at.invariant.0 c.first_line.ensures.lines means),
      subst AreCommandsInRange (sym items) (one_more_in_range at.commands.items command at.invariant.1 range),
    )
