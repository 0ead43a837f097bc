-- What is judged at a row that is given with the one behind those below it. Assumes nothing.
use Rattle.std.proofs.Common.{◌≡◌, ℕ, ◌+◌, ◌<◌, Ok, Err, Result, subst}
use Rattle.layout.specs.Rows.{Tables}
use Rattle.layout.specs.Tables.{judged, node_cause, next}
use Rattle.layout.specs.declared.fault.Table.{Table}
use Rattle.layout.specs.declared.fault.TableFault.{TableFault}
use Rattle.layout.proofs.Steps.{Judges, judges_here, judges_in, judges_on}

module _ (t : Tables) (d to i at : ℕ) (is : i ≡ at) (lt : i < to) where
  pub refused_here : (e : TableFault) → Err e ≡ judged Table.Nodes i (node_cause t d i to) → Judges t d at to (Err e)
  refused_here e judge = subst (λ n. Judges t d n to (Err e)) is (judges_here t d i to e lt judge)

  pub refused_below : (end : ℕ) (e : TableFault) → end ≡ next t i → Ok tt ≡ judged Table.Nodes i (node_cause t d i to) → Judges t (d + 1) (i + 1) end (Err e) → Judges t d at to (Err e)
  refused_below end e behind judge below = subst (λ n. Judges t d n to (Err e)) is (judges_in t d i to e lt judge (subst (λ n. Judges t (d + 1) (i + 1) n (Err e)) behind below))

  pub passed : (end left : ℕ) (r : Result (Unit {0}) TableFault) → end ≡ next t i → left ≡ end → Ok tt ≡ judged Table.Nodes i (node_cause t d i to) → Judges t (d + 1) (i + 1) end (Ok tt) → Judges t d left to r → Judges t d at to r
  passed end left r behind same judge below on =
      subst (λ n. Judges t d n to r) is
      (judges_on t d i to r lt judge (subst (λ n. Judges t (d + 1) (i + 1) n (Ok tt)) behind below) (subst (λ n. Judges t d n to r) behind (subst (λ n. Judges t d n to r) same on)))
