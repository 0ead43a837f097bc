-- What leads on from each node and entry of a document, by handle. Assumes nothing.
use Rattle.std.specs.Prelude.{List, map}
use Rattle.tree.specs.Document.{Nodes, handle_in, head_in, block_in}
use Rattle.tree.specs.Going.{Spot, EntrySpot, all_spots, all_entries, first, first_in, first_of}
use Rattle.index.specs.declared.keyed.Keyed.{Keyed}
use Rattle.index.specs.declared.link.NodeLink.{NodeLink}
use Rattle.index.specs.declared.link.EntryLink.{EntryLink}

abbrev pub link : Spot → NodeLink
link s = record { parent = s.parent; next = first s.after; block = first_in (block_in s.self); entry = first_of (head_in s.self).entries }

abbrev pub entry_link : EntrySpot → EntryLink
entry_link s = record { node = s.node; next = first_of s.after }

abbrev pub links : List Spot → List (Keyed NodeLink)
links ss = map (λ s. record { key = (handle_in s.self).number; value = link s }) ss

abbrev pub entry_links : List EntrySpot → List (Keyed EntryLink)
entry_links ss = map (λ s. record { key = s.self.handle.number; value = entry_link s }) ss

abbrev pub links_of : Nodes → List (Keyed NodeLink)
links_of doc = links (all_spots doc)

abbrev pub entry_links_of : Nodes → List (Keyed EntryLink)
entry_links_of doc = entry_links (all_entries doc)
