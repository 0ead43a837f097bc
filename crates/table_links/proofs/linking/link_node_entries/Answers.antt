use Rattle.std.proofs.Common.{◌≡◌, Bool, true, false, cond, Some, None, ◌+◌, [], ◌∷◌, ◌++◌, vec_items, refl, ap, ◌∙◌, arith}
use Rattle.std.specs.Bool.{then_some}
use Rattle.std.proofs.lemmas.Slice.{pushed}
use Rattle.layout.proofs.Filling.{picked_more}
use Rattle.table_check.specs.Given.{given as tables_in}
use Rattle.table_links.proofs.linking.link_node_entries.Goals as goal

as_cond : {X : Type 0} (b : Bool) (x : X) → then_some b x ≡ cond b (Some x) None
as_cond true x = refl
as_cond false x = refl

pub loop-k-preserved : goal.loop-k-preserved
loop-k-preserved c =
    let k = c.loop-k.k in
    picked_more (tables_in c.args.tables.source) c.args.node k (c.args.start + c.args.count) (vec_items c.loop-k.out) _ (omega arith) c.requires
    (pushed (_ ∷ []) refl c.in_ok-push.was c.push.ensures.items ∙ ap (λ n. vec_items c.loop-k.out ++ record { key = k; value = record { node = c.args.node; next = n } } ∷ []) (c.then_some.ensures ∙ as_cond _ _))
    ∙ c.loop-k.invariant
