use Rattle.tree.specs.Lent.{ident_of}
use Rattle.places.specs.declared.place.Place.TheVariants as place
use Rattle.map_stages.proofs.Groups.{nameless, alone, several}
use Rattle.map_turns.proofs.groups.group_place.Goals as goal

pub returns-in_default : goal.returns-in_default
returns-in_default g c = λ fs x is. nameless _ (g.T.Tree.lawful c.args.tree.now) fs _ x is (place.Node c.args.first) c.in_default.ensures

pub returns-in-None : goal.returns-in-None
returns-in-None g c = λ fs x is. alone _ (g.T.Tree.lawful c.args.tree.now) fs _ x is (ident_of c.in-Some.name) _ c.in-Some.ensures c.next_sibling.ensures c.in-None.ensures

pub returns-in-Some-next_called : goal.returns-in-Some-next_called
returns-in-Some-next_called g c = λ fs x is. several _ (g.T.Tree.lawful c.args.tree.now) fs _ x is
