-- That every number in tables is one of its type, as a test. The types of the code see to it; so nothing tests it when it runs. Assumes nothing.
use Rattle.std.specs.Prelude.{ℕ, ◌^◌, Bool, true, ◌&&◌, List, [], ◌∷◌, ℤ, pos, negsuc, Some, None, Option, nat_lt}
use Rattle.tree.specs.declared.span.Span.{Span}
use Rattle.layout.specs.Rows.{Tables}
use Rattle.layout.specs.declared.rows.IdentRow.{IdentRow}
use Rattle.layout.specs.declared.rows.NodeRow.{NodeRow}
use Rattle.layout.specs.declared.rows.EntryRow.{EntryRow}
use Rattle.layout.specs.declared.rows.ValueRow.{ValueRow}
use Rattle.layout.specs.declared.rows.ValueRow.TheVariants.{Null, String, Integer, Float, Bool as Truth, Unknown}

abbrev pub byte_typed : ℕ → Bool
byte_typed b = nat_lt b 256

abbrev pub span_typed : Span → Bool
span_typed s = nat_lt s.start (2 ^ 32) && nat_lt s.length (2 ^ 32)

abbrev pub perhaps_typed : Option IdentRow → Bool
perhaps_typed None = true
perhaps_typed (Some i) = span_typed i.span

abbrev pub signed_typed : ℤ → Bool
signed_typed (pos n) = nat_lt n (2 ^ 63)
signed_typed (negsuc n) = nat_lt n (2 ^ 63)

abbrev pub value_typed : ValueRow → Bool
value_typed Null = true
value_typed (String p) = true
value_typed (Integer n) = signed_typed n.high && nat_lt n.low (2 ^ 64)
value_typed (Float x) = nat_lt x (2 ^ 64)
value_typed (Truth b) = true
value_typed (Unknown k) = true

abbrev pub node_typed : NodeRow → Bool
node_typed r = span_typed r.span && (span_typed r.name.span && perhaps_typed r.ty)

abbrev pub entry_typed : EntryRow → Bool
entry_typed e = span_typed e.span && (perhaps_typed e.name && (perhaps_typed e.ty && value_typed e.value))

abbrev pub each : {X : Type 0} → (X → Bool) → List X → Bool
each p [] = true
each p (x ∷ xs) = p x && each p xs

abbrev pub typed : Tables → Bool
typed t = each byte_typed t.text && (each node_typed t.nodes && each entry_typed t.entries)
