-- What the rows of tables say. Assumes nothing.
use Rattle.std.specs.Prelude.{ℕ, suc, ◌+◌, Bool, true, false, List, [], ◌∷◌, length, take, drop, Some, None, Option, nat_le}
use Rattle.tree.specs.Document.{Ident, Value, null, string, integer, float, bool, Entry, Head}
use Rattle.layout.specs.declared.rows.Part.{Part}
use Rattle.layout.specs.declared.rows.IdentRow.{IdentRow}
use Rattle.layout.specs.declared.rows.NodeRow.{NodeRow}
use Rattle.layout.specs.declared.rows.EntryRow.{EntryRow}
use Rattle.layout.specs.declared.rows.ValueRow.{ValueRow}
use Rattle.layout.specs.declared.rows.ValueRow.TheVariants.{Null, String, Integer, Float, Bool as Truth, Unknown}

pub record Tables : Type 0 where
  pub text : List ℕ
  pub nodes : List NodeRow
  pub entries : List EntryRow

abbrev pub tables : List ℕ → List NodeRow → List EntryRow → Tables
tables bs ns es = record { text = bs; nodes = ns; entries = es }

-- the bytes that a part spells
abbrev pub piece : List ℕ → Part → List ℕ
piece bs p = take p.length (drop p.start bs)

-- whether a part lies in the text
abbrev pub in_text : List ℕ → Part → Bool
in_text bs p = nat_le (p.start + p.length) (length bs)

abbrev pub ident : List ℕ → IdentRow → Ident
ident bs i = record { bytes = piece bs i.part; span = i.span }

abbrev pub perhaps : List ℕ → Option IdentRow → Option Ident
perhaps bs None = None
perhaps bs (Some i) = Some (ident bs i)

abbrev pub perhaps_in_text : List ℕ → Option IdentRow → Bool
perhaps_in_text bs None = true
perhaps_in_text bs (Some i) = in_text bs i.part

abbrev pub value : List ℕ → ValueRow → Value
value bs Null = null
value bs (String p) = string (piece bs p)
value bs (Integer n) = integer n
value bs (Float x) = float x
value bs (Truth b) = bool b
value bs (Unknown k) = null

-- whether a value is of one of the five kinds, and a string lies in the text
abbrev pub value_known : List ℕ → ValueRow → Bool
value_known bs Null = true
value_known bs (String p) = in_text bs p
value_known bs (Integer n) = true
value_known bs (Float x) = true
value_known bs (Truth b) = true
value_known bs (Unknown k) = false

-- the entry in row k
abbrev pub entry : List ℕ → ℕ → EntryRow → Entry
entry bs k e = record { handle = record { number = k }; name = perhaps bs e.name; type = perhaps bs e.ty; value = value bs e.value; span = e.span }

-- the entries in rows from k on
abbrev pub entries_from : List ℕ → ℕ → List EntryRow → List Entry
entries_from bs k [] = []
entries_from bs k (e ∷ es) = entry bs k e ∷ entries_from bs (suc k) es

-- the entries that a start and a count pick out of the entry table
abbrev pub picked : Tables → ℕ → ℕ → List Entry
picked t start count = entries_from t.text start (take count (drop start t.entries))

abbrev pub head : Tables → NodeRow → Head
head t r = record { name = ident t.text r.name; type = perhaps t.text r.ty; span = r.span; entries = picked t r.entries_start r.entries_count }
