use Rattle.std.proofs.Common.{◌≡◌, ◌-◌, ◌≤◌, Result}
use Rattle.layout.specs.declared.fault.TableFault.{TableFault}
use Rattle.layout.proofs.Steps.{Judges}
use Rattle.table_check.specs.Given.{given as tables_in}
use Rattle.table_check.proofs.check.+judge_nodes.Given as goal

abbrev pub decreases-judge_nodes : goal.decreases-judge_nodes
decreases-judge_nodes l = l.to - l.from

-- what is said of the rows that are left is said of all
abbrev pub invariant-loop-i : goal.invariant-loop-i
invariant-loop-i l =
    let left = l.i-iterator in record {
      rows : left.rows.now ≡ l.source.nodes.now;
      to : left.to ≡ l.to;
      from : l.from ≤ left.at;
      said : (r : Result (Unit {0}) TableFault) → Judges (tables_in l.source) l.nesting left.at l.to r → Judges (tables_in l.source) l.nesting l.from l.to r;
    }
