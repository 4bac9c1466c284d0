-- What was read on, step by step.
use Rattle.std.proofs.Common.{rules, ◌≡◌, ◌≤◌, ℕ, List, [], length, drop, false, refl, sym, ◌∙◌, subst, arith}
use Rattle.std.specs.Prelude.{Option, Some, None, not, vec_len}
use Rattle.std.proofs.lemmas.List.{drop_all}
use Rattle.iscsi_captures.specs.Giving.{Listening, DirectionReadsOn}
use Rattle.iscsi_captures.specs.declared.captured.Captured.TheInside.{Inside}
use Rattle.iscsi_captures.proofs.Reading.{none_known, reads_none, reads_then, reads_step, reads_fault}
use Rattle.iscsi_captures.proofs.captured.Captured.advance.Goals as goal
use Rattle.iscsi_captures.proofs.captured.Captured.advance.Goals.{in-Ok, in-Err}

pub returns-then-self-len-clause-reads : goal.returns-then-self-len-clause-reads
returns-then-self-len-clause-reads g c = reads_none c.args.self.now

pub loop-turn-init : goal.loop-turn-init
loop-turn-init g c =
    let s : Inside g.row.R.Denot = c.self.inside in
    let now : List ℕ → Listening = λ known. record {
      connections = s.connections;
      wanted = s.wanted;
      known = known;
      ended = s.ended;
      fault = s.fault;
      left = g.R.Read.remaining s.source.now;
    } in
    let all : length s.out.items ≤ s.given = search rules in
    let e : drop s.given s.out.items ≡ c.clear.new.self.items =
    drop_all s.given s.out.items all ∙ sym c.clear.ensures.items in
    let P : Listening → Type 0 = λ old. DirectionReadsOn old (now (drop s.given s.out.items)) [] in
    let Q : List ℕ → Type 0 = λ known. DirectionReadsOn c.args.self.now (now known) [] in
    (refl, subst Q e (subst P c.self.view_is (reads_none (now (drop s.given s.out.items)))))

pub loop-turn-preserved : goal.loop-turn-preserved
loop-turn-preserved g c =
    let now : Inside g.row.R.Denot → Listening = λ s. record {
      connections = s.connections;
      wanted = s.wanted;
      known = s.out.items;
      ended = s.ended;
      fault = s.fault;
      left = g.R.Read.remaining s.source.now;
    } in
    let P : Inside g.row.R.Denot → Type 0 = λ s. (s.given ≡ 0) × DirectionReadsOn c.args.self.now (now s) [] in
    let s : Inside g.row.R.Denot = c.loop-turn.self-inside in
    let count : vec_len s.out ≡ length s.out.items = omega (arith, s.out.ok.0) in
    let none : s.out.items ≡ [] =
    none_known c.is_empty.result s.out.items (vec_len s.out) count c.is_empty.ensures c.if-not-is_empty.false in
    let goes : s.ended ≡ false = search rules in
    let well : s.fault ≡ None = search rules in
    let left : Option (List ℕ) = g.R.Read.remaining c.step.new.source in
    elim c.match-step.branch [
      | in-Ok w ↦ subst P (sym w.self-inside-is) (
        c.loop-turn.invariant.0,
        reads_then c.args.self.now (now s) (record (now s) {
          connections = c.step.new.connections;
          known = c.step.new.out.items;
          ended = not w.in-Ok.more;
          left = left;
        }) goes well c.loop-turn.invariant.1
            (reads_step (now s) c.step.new.connections c.step.new.out.items w.in-Ok.more left none
            w.in-Ok.ensures.reads w.in-Ok.ensures.on w.in-Ok.ensures.end),
      )
      | in-Err w ↦ subst P (sym w.self-inside-is) (
        c.loop-turn.invariant.0,
        reads_then c.args.self.now (now s) (record (now s) {
          connections = c.step.new.connections;
          known = c.step.new.out.items;
          fault = Some w.in-Err.fault;
          left = left;
        }) goes well c.loop-turn.invariant.1
            (reads_fault (now s) w.in-Err.ensures.err.0 c.step.new.connections c.step.new.out.items left
            w.in-Err.fault none w.in-Err.ensures.reads w.in-Err.ensures.err.1 w.in-Err.ensures.fault),
      )
    ]
