use Rattle.std.proofs.Common.{◌≡◌, ◌+◌, length, [], ◌∷◌, ◌++◌, vec_items, refl, ap, ◌∙◌, subst, sym, arith}
use Rattle.std.proofs.lemmas.Slice.{pushed}
use Rattle.layout.specs.Tables.{next}
use Rattle.layout.proofs.Filling.{Whole, fills_none}
use Rattle.table_check.specs.Given.{given as tables_in}
use Rattle.table_links.proofs.Beside.{parts_at, filled}
use Rattle.table_links.proofs.linking.+link_nodes.Goals as goal

pub link_of-requires-clause-inside : goal.link_of-requires-clause-inside
link_of-requires-clause-inside t c =
    let gives = c.in-Some.ensures.steps in
    (parts_at (tables_in c.args.tables.source) c.args.to c.in-Some.i _ gives.row (omega arith) c.loop-i.invariant.whole).fits.inside

pub link_nodes-requires : goal.link_nodes-requires
link_nodes-requires t c =
    let gives = c.in-Some.ensures.steps in
    let rows = c.loop-i.invariant.rows in
    let end : c.in-Some.end ≡ next (tables_in c.args.tables.source) c.in-Some.i = cc in
    let p = parts_at (tables_in c.args.tables.source) c.args.to c.in-Some.i _ gives.row (omega arith) c.loop-i.invariant.whole in
    let inside = p.fits.inside in
    (omega (arith, c.decreases), (subst (λ n. Whole (tables_in c.args.tables.source) (c.in-Some.i + 1) n) (sym end) p.inner, omega arith))

pub loop-i-preserved : goal.loop-i-preserved
loop-i-preserved t c =
    let gives = c.in-Some.ensures.steps in
    let rows = c.loop-i.invariant.rows in
    let end : c.in-Some.end ≡ next (tables_in c.args.tables.source) c.in-Some.i = cc in
    let p = parts_at (tables_in c.args.tables.source) c.args.to c.in-Some.i _ gives.row (omega arith) c.loop-i.invariant.whole in
    record {
      rows = gives.rows ∙ rows;
      to = gives.to ∙ c.loop-i.invariant.to;
      from = omega arith;
      whole = subst (λ n. Whole (tables_in c.args.tables.source) n c.args.to) (sym (gives.at ∙ end)) p.rest;
      fills = λ ys on. c.loop-i.invariant.fills ys (filled (tables_in c.args.tables.source) c.args.to c.in-Some.i _ gives.row (omega arith) c.in-Some.end _ c.args.parent (vec_items c.loop-i.out) _ _ ys end gives.at
          (pushed (_ ∷ []) refl c.in_ok-push.was c.push.ensures.items ∙ ap (λ x. vec_items c.loop-i.out ++ x ∷ []) c.link_of.ensures)
          c.in_ok-link_nodes.ensures on);
    }

pub returns : goal.returns
returns t c =
    let none = c.in-None.ensures.steps in
    let rows = ap (λ xs. length xs) c.loop-i.invariant.rows in
    c.loop-i.invariant.fills _ (fills_none (tables_in c.args.tables.source) c.loop-i.i-iterator.at c.args.to c.args.parent (vec_items c.loop-i.out) (omega arith))
