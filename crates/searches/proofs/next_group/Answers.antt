use Rattle.std.proofs.Common.{◌≡◌, Bool, false, eqb, sym, ap, ◌∙◌}
use Rattle.std.proofs.lemmas.Bool.{eqb-true, eqb-false}
use Rattle.tree.specs.declared.handle.NodeHandle.{NodeHandle}
use Rattle.tree.specs.Lent.{ident_of}
use Rattle.searches.proofs.Turns.{fewer}
use Rattle.searches.proofs.Sought.{sought_first, sought_end, sought_met, sought_next, sought_alike, groups_passed, group_begins}
use Rattle.searches.proofs.next_group.Goals as goal

apart : (k h : NodeHandle) (r : Bool) → r ≡ eqb k.number h.number → r ≡ false → k ≡ h → ⊥
apart k h r told other e = eqb-false k.number h.number (sym told ∙ other) (ap (λ (x : NodeHandle). x.number) e)

pub earlier-init : goal.earlier-init
earlier-init g c =
    sought_first (g.T.Tree.meaning c.args.tree.now) (g.T.Tree.lawful c.args.tree.now) c.in-Some.h (ident_of c.in_ok-name.name) c.first_sibling-before.result c.in_ok-name.ensures c.first_sibling-before.ensures

pub nodes-smaller : goal.nodes-smaller
nodes-smaller g c =
    fewer (g.T.Tree.meaning c.args.tree.now) (g.T.Tree.lawful c.args.tree.now) c.nodes.at c.in-Some.h c.next_sibling-at.result c.in-Some.is c.next_sibling-at.ensures

pub nodes-preserved : goal.nodes-preserved
nodes-preserved g c =
    let d = g.T.Tree.meaning c.args.tree.now in
    let law = g.T.Tree.lawful c.args.tree.now in
    let m = c.in_ok-name.name.bytes.now in
    let s = c.earlier.invariant in
    let seen = sought_alike d law c.in-Some.h m c.earlier.before c.in-Some-before.e s c.in-Some-before.is (apart c.in-Some-before.e c.in-Some.h c.eq.result c.eq.ensures c.if-eq.false) (sym c.if-is_called.ensures) in
    c.nodes.invariant ∙ groups_passed d law c.nodes.at c.in-Some.h c.next_sibling-at.result m s.spot c.in-Some.is s.is s.named seen c.next_sibling-at.ensures

pub earlier-smaller : goal.earlier-smaller
earlier-smaller g c =
    fewer (g.T.Tree.meaning c.args.tree.now) (g.T.Tree.lawful c.args.tree.now) c.earlier.before c.in-Some-before.e c.next_sibling-before.result c.in-Some-before.is c.next_sibling-before.ensures

pub earlier-preserved : goal.earlier-preserved
earlier-preserved g c =
    sought_next (g.T.Tree.meaning c.args.tree.now) (g.T.Tree.lawful c.args.tree.now) c.in-Some.h c.in_ok-name.name.bytes.now c.earlier.before c.in-Some-before.e c.next_sibling-before.result
    c.earlier.invariant c.in-Some-before.is (apart c.in-Some-before.e c.in-Some.h c.eq.result c.eq.ensures c.if-eq.false) c.next_sibling-before.ensures (sym c.if-is_called.ensures)

pub returns-then-eq : goal.returns-then-eq
returns-then-eq g c =
    let d = g.T.Tree.meaning c.args.tree.now in
    let law = g.T.Tree.lawful c.args.tree.now in
    let m = c.in_ok-name.name.bytes.now in
    let s = c.earlier.invariant in
    let fresh = sought_met d law c.in-Some.h m c.earlier.before c.in-Some-before.e s c.in-Some-before.is (ap (λ n. record { number = n }) (eqb-true c.in-Some-before.e.number c.in-Some.h.number (sym c.eq.ensures ∙ c.if-eq.true))) in
    group_begins d law c.args.start c.nodes.at c.in-Some.h m s.spot c.nodes.invariant c.in-Some.is s.is s.named fresh

pub returns-in_default-before : goal.returns-in_default-before
returns-in_default-before g c =
    sought_end (g.T.Tree.meaning c.args.tree.now) (g.T.Tree.lawful c.args.tree.now) c.in-Some.h c.in_ok-name.name.bytes.now c.earlier.before c.earlier.invariant c.in_default-before.is
