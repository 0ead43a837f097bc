-- Bytes that are accepted are the writing of the document that is answered. Assumes nothing.
use Rattle.std.proofs.Common.{◌≡◌, ℕ, zero, suc, ◌+◌, ◌<◌, ◌≤◌, Bool, true, false, cond, eqb, ltb, leb, List, [], ◌∷◌, ◌++◌, length, take, drop, Ok, Err, Option, sym, refl, ap, ◌∙◌, subst, ⊎_elim, append_assoc, arith, length-append, length-drop, take-append-drop, length-take-le, drop-drop}
use Rattle.std.specs.List.{AllByRecursion}
use Rattle.std.proofs.ByRecursion.{All-take, All-drop}
use Rattle.std.proofs.lemmas.Bool.{ltb-false, leb-true, eqb-true, ne_eqb, cases_eq, cases_Bool, false≢true}
use Rattle.tree.specs.declared.span.Span.{Span}
use Rattle.tree.specs.Document.{Ident, Value, null, Entry, Node, Block, Nodes, depth, depth_node, depth_block}
use Rattle.tree.specs.Numbers.{SpanFits}
use Rattle.records.specs.declared.fault.Cause.TheVariants.{Body}
use Rattle.records.specs.Numbers.{Bytes, number, low}
use Rattle.records.specs.Records.{record_of, none}
use Rattle.records.proofs.Numbers.{low_all, low_take, number_lt}
use Rattle.records.proofs.Cutting.{record_long}
use Rattle.image_format.specs.Signed.{signed, unsigned}
use Rattle.image_format.specs.Reading.{Place, Read, located, part, part_of, spanned, ident, perhaps, ended, next, value, bool_in, value_in, entry, entries, is_entry, document, block_at, Fore, fore, Front, front, node_at, nodes, start, image}
use Rattle.image_format.specs.Writing.{PerhapsFits, ValueFits, EntryFits, HeadFits, Fit, NodeFits, BlockFits, Stand, NodeStands, BlockStands, EntriesStand, span_of, ident_of, perhaps_of, value_of, entry_kind, entry_of, entries_of, front_of, node_of, nodes_of, block_of}
use Rattle.image_format.specs.Law.{Exact}
use Rattle.image_format.proofs.Basics.{err_ok, ok_ok, then_ok, passes, holds, chosen}
use Rattle.image_format.proofs.Signs.{unsigned_signed, signed_fits}
pub use Rattle.records.proofs.Parts.{Goes, PartIs, place, located_ok, part_is, goes_bytes, goes_then, goes_long, goes_all, part_of_is}

pub spanned_is : (p b : Place) (s : Span) (q : Place) → Bytes b.bytes → spanned p b ≡ Ok (s, q) → Goes b (span_of s) q × SpanFits s
unfolding spanned span_of
spanned_is p b s q y e =
    let xs = b.bytes in
    let g = passes (ltb (length xs) 8) _ _ (s, q) e in
    let long = ltb-false (length xs) 8 g.0 in
    let rest = All-drop (λ x. x < 256) 4 xs y in
    let more : 4 ≤ length (drop 4 xs) = simp length-drop (omega arith) in
    let one = low_take 4 xs (omega arith) y in
    let two = low_take 4 (drop 4 xs) more rest in
    let P : Span × Place → Type 0 = λ x. Goes b (span_of x.0) x.1 × SpanFits x.0 in
    subst P (ok_ok g.1) (
      record {
        bytes = sym ((λ i. (one i ++ two i) ++ drop 8 xs) ∙ append_assoc (take 4 xs) (take 4 (drop 4 xs)) (drop 8 xs) ∙ ap (λ ys. take 4 xs ++ ys) (ap (λ ys. take 4 (drop 4 xs) ++ ys) (sym (drop-drop 4 4 xs)) ∙ take-append-drop 4 (drop 4 xs)) ∙ take-append-drop 4 xs);
        at = refl;
      },
      record {
        start = number_lt 4 (take 4 xs) (length-take-le 4 xs (omega arith)) (All-take (λ x. x < 256) 4 xs y);
        length = number_lt 4 (take 4 (drop 4 xs)) (length-take-le 4 (drop 4 xs) more) (All-take (λ x. x < 256) 4 (drop 4 xs) rest);
      },
    )

ended_at : (at : ℕ) (xs : List ℕ) (t : Unit {0}) → ended (place at xs) ≡ Ok t → xs ≡ []
ended_at at [] t e = refl
ended_at at (x ∷ xs) t e = err_ok _ t e

pub ended_is : (p : Place) (t : Unit {0}) → ended p ≡ Ok t → p.bytes ≡ []
ended_is p t e = ended_at p.at p.bytes t e

pub ident_is : (k : ℕ) (p : Place) (i : Ident) (q : Place) → Bytes p.bytes → ident k p ≡ Ok (i, q) → Goes p (ident_of k i) q × SpanFits i.span
unfolding ident ident_of
ident_is k p i q b e =
    let h = then_ok (part_of k p) _ (i, q) e in
    let r = h.0 in
    let is = part_of_is k p r b h.1 in
    let g = then_ok (spanned p r.body) _ (i, q) h.2 in
    let sp = spanned_is p r.body g.0.0 g.0.1 is.0.inner g.1 in
    let P : Ident × Place → Type 0 = λ x. Goes p (ident_of k x.0) x.1 × SpanFits x.0.span in
    let Q : List ℕ → Type 0 = λ w. Goes p (record_of k w) r.after in
    subst P (ok_ok g.2) (subst Q sp.0.bytes (subst (λ n. Goes p (record_of n r.body.bytes) r.after) is.1 is.0.goes), sp.1)

pub perhaps_is : (t : Bool) (k : ℕ) (p : Place) (i : Option Ident) (q : Place) → Bytes p.bytes → perhaps t k p ≡ Ok (i, q) → Goes p (perhaps_of k i) q × PerhapsFits i × (entry_kind i ≡ cond t 6 5)
perhaps_is true k p i q b e =
    let h = then_ok (ident k p) _ (i, q) e in
    let P : Option Ident × Place → Type 0 = λ x. Goes p (perhaps_of k x.0) x.1 × PerhapsFits x.0 × (entry_kind x.0 ≡ 6) in
    let is = ident_is k p h.0.0 h.0.1 b h.1 in
    subst P (ok_ok h.2) (is.0, is.1, refl)
perhaps_is false k p i q b e =
    let P : Option Ident × Place → Type 0 = λ x. Goes p (perhaps_of k x.0) x.1 × PerhapsFits x.0 × (entry_kind x.0 ≡ 5) in
    subst P (ok_ok e) (record { bytes = refl; at = omega arith }, tt, refl)

abbrev Writes : ℕ → List ℕ → Value → Type 0
Writes k b v = (record_of k b ≡ value_of v) × ValueFits v

bool_writes : (b : List ℕ) (v : Value) → bool_in b ≡ Ok v → Writes 10 b v
unfolding value_of
bool_writes [] v e = err_ok _ v e
bool_writes (x ∷ []) v e = ⊎_elim
    (λ h. subst (Writes 10 (x ∷ [])) (ok_ok h.1) (ap (λ n. record_of 10 (n ∷ [])) h.0, tt))
    (λ f. ⊎_elim
    (λ h. subst (Writes 10 (x ∷ [])) (ok_ok h.1) (ap (λ n. record_of 10 (n ∷ [])) h.0, tt))
    (λ g. err_ok _ v g)
    (chosen x 1 _ _ v f))
    (chosen x 0 _ _ v e)
bool_writes (x ∷ y ∷ ys) v e = err_ok _ v e

null_writes : (b : List ℕ) (v : Value) → cond (none b) (Ok null) (Err Body) ≡ Ok v → Writes 11 b v
unfolding value_of
null_writes [] v e = subst (Writes 11 []) (ok_ok e) (refl, tt)
null_writes (x ∷ xs) v e = err_ok _ v e

value_writes : (k : ℕ) (b : List ℕ) (v : Value) → Bytes b → value_in k b ≡ Ok v → Writes k b v
unfolding value_of
value_writes k b v y e = ⊎_elim
    (λ h. subst (Writes k b) (ok_ok h.1) (ap (λ n. record_of n b) h.0, tt))
    (λ e. ⊎_elim
    (λ h.
    let g = holds (eqb (length b) 16) _ _ v h.1 in
    let long = eqb-true (length b) 16 g.0 in
    let front : length (take 8 b) ≡ 8 = length-take-le 8 b (omega arith) in
    let back : length (drop 8 b) ≡ 8 = simp length-drop (omega arith) in
    let yf = All-take (λ x. x < 256) 8 b y in
    let yb = All-drop (λ x. x < 256) 8 b y in
    let one = low_all 8 (take 8 b) front yf in
    let two = low_all 8 (drop 8 b) back yb in
    let big = number_lt 8 (drop 8 b) back yb in
    let back_is : low 8 (unsigned (signed (number (drop 8 b)))) ≡ drop 8 b = ap (low 8) (unsigned_signed (number (drop 8 b)) big) ∙ two in
    subst (Writes k b) (ok_ok g.1) (
      ap (λ n. record_of n b) h.0 ∙ ap (record_of 8) (sym ((λ i. one i ++ back_is i) ∙ take-append-drop 8 b)),
      record { high = signed_fits (number (drop 8 b)) big; low = number_lt 8 (take 8 b) front yf },
    ))
    (λ e. ⊎_elim
    (λ h.
    let g = holds (eqb (length b) 8) _ _ v h.1 in
    let long = eqb-true (length b) 8 g.0 in
    subst (Writes k b) (ok_ok g.1) (ap (λ n. record_of n b) h.0 ∙ ap (record_of 9) (sym (low_all 8 b long y)), number_lt 8 b long y))
    (λ e. ⊎_elim
    (λ h. subst (λ n. Writes n b v) (sym h.0) (bool_writes b v h.1))
    (λ e. ⊎_elim
    (λ h. subst (λ n. Writes n b v) (sym h.0) (null_writes b v h.1))
    (λ e. err_ok _ v e)
    (chosen k 11 _ _ v e))
    (chosen k 10 _ _ v e))
    (chosen k 9 _ _ v e))
    (chosen k 8 _ _ v e))
    (chosen k 7 _ _ v e)

pub value_is : (p : Place) (v : Value) (q : Place) → Bytes p.bytes → value p ≡ Ok (v, q) → Goes p (value_of v) q × ValueFits v
unfolding value
value_is p v q b e =
    let h = then_ok (part p) _ (v, q) e in
    let r = h.0 in
    let is = part_is p r b h.1 in
    let g = then_ok (located p (value_in r.kind r.body.bytes)) _ (v, q) h.2 in
    let w = value_writes r.kind r.body.bytes g.0 is.inner (located_ok p _ g.0 g.1) in
    let P : Value × Place → Type 0 = λ x. Goes p (value_of x.0) x.1 × ValueFits x.0 in
    subst P (ok_ok g.2) (subst (λ w. Goes p w r.after) w.0 is.goes, w.1)

either_kind : (k : ℕ) → is_entry k ≡ true → k ≡ cond (eqb k 6) 6 5
either_kind k e = ⊎_elim
    (λ is. rw is)
    (λ other. rw (ne_eqb k 6 other) (⊎_elim (λ is. is) (λ neither5. absurd (false≢true (rw (ne_eqb k 5 neither5, ne_eqb k 6 other) at e))) (cases_eq k 5)))
    (cases_eq k 6)

-- an entry at p, with q behind it
pub record EntryIs (p : Place) (e : Entry) (q : Place) : Type 0 where
  pub goes : Goes p (entry_of e) q
  pub fits : EntryFits e
  pub stands : e.handle ≡ record { number = p.at }

pub entry_is : (p : Place) (x : Entry) (q : Place) → Bytes p.bytes → is_entry (next p) ≡ true → entry p ≡ Ok (x, q) → EntryIs p x q
unfolding entry entry_of
entry_is p x q b k e =
    let h = then_ok (part p) _ (x, q) e in
    let r = h.0 in
    let is = part_is p r b h.1 in
    let s = then_ok (spanned p r.body) _ (x, q) h.2 in
    let si = spanned_is p r.body s.0.0 s.0.1 is.inner s.1 in
    let sb = goes_bytes _ _ _ si.0 is.inner in
    let n = then_ok (perhaps (eqb r.kind 6) 3 s.0.1) _ (x, q) s.2 in
    let ni = perhaps_is (eqb r.kind 6) 3 s.0.1 n.0.0 n.0.1 sb n.1 in
    let nb = goes_bytes _ _ _ ni.0 sb in
    let t = then_ok (perhaps (eqb (next n.0.1) 4) 4 n.0.1) _ (x, q) n.2 in
    let ti = perhaps_is (eqb (next n.0.1) 4) 4 n.0.1 t.0.0 t.0.1 nb t.1 in
    let tb = goes_bytes _ _ _ ti.0 nb in
    let v = then_ok (value t.0.1) _ (x, q) t.2 in
    let vi = value_is t.0.1 v.0.0 v.0.1 tb v.1 in
    let d = then_ok (ended v.0.1) _ (x, q) v.2 in
    let all = goes_all _ _ _ (goes_then _ _ _ _ _ si.0 (goes_then _ _ _ _ _ ni.0 (goes_then _ _ _ _ _ ti.0 vi.0))) (ended_is v.0.1 d.0 d.1) in
    let kind = either_kind r.kind (subst (λ n. is_entry n ≡ true) is.kind k) ∙ sym ni.2 in
    let P : Entry × Place → Type 0 = λ y. EntryIs p y.0 y.1 in
    subst P (ok_ok d.2) (record {
      goes = subst (λ w. Goes p w r.after) (λ i. record_of (kind i) (all i)) is.goes;
      fits = record { span = si.1; name = ni.1; type = ti.1; value = vi.1 };
      stands = refl;
    })

pub record EntriesAre (p : Place) (es : List Entry) (q : Place) : Type 0 where
  pub goes : Goes p (entries_of es) q
  pub fit : AllByRecursion EntryFits es
  pub stand : EntriesStand p.at es

pub entries_are : (f : ℕ) (p : Place) (es : List Entry) (q : Place) → Bytes p.bytes → entries f p ≡ Ok (es, q) → EntriesAre p es q
unfolding entries
entries_are zero p es q b e =
    let P : List Entry × Place → Type 0 = λ x. EntriesAre p x.0 x.1 in
    subst P (ok_ok e) (record { goes = record { bytes = refl; at = omega arith }; fit = tt; stand = tt })
entries_are (suc f) p es q b e =
    let P : List Entry × Place → Type 0 = λ x. EntriesAre p x.0 x.1 in
    ⊎_elim
    (λ is.
    let e = rw is at e in
    let x = then_ok (entry p) _ (es, q) e in
    let xi = entry_is p x.0.0 x.0.1 b is x.1 in
    let xb = goes_bytes _ _ _ xi.goes b in
    let xs = then_ok (entries f x.0.1) _ (es, q) x.2 in
    let more = entries_are f x.0.1 xs.0.0 xs.0.1 xb xs.1 in
    subst P (ok_ok xs.2) (record {
      goes = goes_then _ _ _ _ _ xi.goes more.goes;
      fit = (xi.fits, more.fit);
      stand = (xi.stands, subst (λ n. EntriesStand n xs.0.0) xi.goes.at more.stand);
    }))
    (λ isnt.
    let e = rw isnt at e in
    subst P (ok_ok e) (record { goes = record { bytes = refl; at = omega arith }; fit = tt; stand = tt }))
    (cases_Bool (is_entry (next p)))

-- the nodes that fill p, which d nodes hold
pub record NodesAre (d : ℕ) (p : Place) (ns : Nodes) : Type 0 where
  pub written : p.bytes ≡ nodes_of ns
  pub stand : Stand p.at ns
  pub fit : Fit ns
  pub shallow : d + depth ns ≤ 33

-- what reads nodes does so in every place of up to f bytes
abbrev Reads : ℕ → ℕ → (Place → Read Nodes) → Type 0
Reads f d inner = (p : Place) (ns : Nodes) → Bytes p.bytes → length p.bytes ≤ f → inner p ≡ Ok ns → NodesAre d p ns

pub record DocumentIs (d : ℕ) (p : Place) (ns : Nodes) : Type 0 where
  pub written : p.bytes ≡ record_of 1 (nodes_of ns)
  pub stand : Stand (p.at + 6) ns
  pub fit : Fit ns
  pub shallow : d + depth ns ≤ 33

pub document_is : (f d : ℕ) (inner : Place → Read Nodes) (p : Place) (ns : Nodes) → Reads f d inner → Bytes p.bytes → length p.bytes ≤ f + 6 → document inner p ≡ Ok ns → DocumentIs d p ns
unfolding document
document_is f d inner p ns reads b l e =
    let h = then_ok (part_of 1 p) _ ns e in
    let r = h.0 in
    let is = part_of_is 1 p r b h.1 in
    let g = then_ok (inner r.body) _ ns h.2 in
    let t = then_ok (ended r.after) _ ns g.2 in
    let all = goes_all p r.after _ is.0.goes (ended_is r.after t.0 t.1) in
    let long = ap length all ∙ record_long r.kind r.body.bytes in
    let n = reads r.body g.0 is.0.inner (omega arith) g.1 in
    subst (DocumentIs d p) (ok_ok t.2) (record {
      written = all ∙ (λ i. record_of (is.1 i) (n.written i));
      stand = subst (λ m. Stand m g.0) is.0.starts n.stand;
      fit = n.fit;
      shallow = n.shallow;
    })

pub record BlockIs (d : ℕ) (p : Place) (b : Block) : Type 0 where
  pub written : p.bytes ≡ block_of b
  pub stands : BlockStands p.at b
  pub fits : BlockFits b
  pub shallow : d + depth_block b ≤ 33

none_is : (xs : List ℕ) → none xs ≡ true → xs ≡ []
none_is [] e = refl
none_is (x ∷ xs) e = absurd (false≢true e)

pub block_is : (f d : ℕ) (inner : Place → Read Nodes) (p : Place) (x : Block) → Reads f d inner → d ≤ 33 → Bytes p.bytes → length p.bytes ≤ f + 6 → block_at inner p ≡ Ok x → BlockIs d p x
block_is f d inner p x reads small b l e = ⊎_elim
    (λ is. subst (BlockIs d p) (ok_ok (rw is at e)) (record { written = none_is p.bytes is; stands = tt; fits = tt; shallow = omega arith }))
    (λ isnt.
    let h = then_ok (document inner p) _ x (rw isnt at e) in
    let n = document_is f d inner p h.0 reads b l h.1 in
    subst (BlockIs d p) (ok_ok h.2) (record { written = n.written; stands = n.stand; fits = n.fit; shallow = n.shallow }))
    (cases_Bool (none p.bytes))

abbrev fore_of : Fore → List ℕ
fore_of x = span_of x.span ++ (ident_of 3 x.name ++ perhaps_of 4 x.type)

-- a node up to its entries
pub record ForeIs (d : ℕ) (p : Place) (x : Fore) : Type 0 where
  pub few : d ≤ 32
  pub goes : Goes p (record_of 2 (fore_of x ++ x.rest.bytes)) x.after
  pub starts : x.rest.at ≡ p.at + 6 + length (fore_of x)
  pub name : SpanFits x.name.span
  pub type : PerhapsFits x.type
  pub span : SpanFits x.span
  pub inner : Bytes x.rest.bytes

pub fore_is : (d : ℕ) (p : Place) (x : Fore) → Bytes p.bytes → fore d p ≡ Ok x → ForeIs d p x
unfolding fore
fore_is d p x b e =
    let h = then_ok (part_of 2 p) _ x e in
    let r = h.0 in
    let is = part_of_is 2 p r b h.1 in
    let s = then_ok (cond (leb d 32) (spanned p r.body) _) _ x h.2 in
    let sh = holds (leb d 32) _ (spanned p r.body) s.0 s.1 in
    let si = spanned_is p r.body s.0.0 s.0.1 is.0.inner sh.1 in
    let sb = goes_bytes _ _ _ si.0 is.0.inner in
    let n = then_ok (ident 3 s.0.1) _ x s.2 in
    let ni = ident_is 3 s.0.1 n.0.0 n.0.1 sb n.1 in
    let nb = goes_bytes _ _ _ ni.0 sb in
    let t = then_ok (perhaps (eqb (next n.0.1) 4) 4 n.0.1) _ x n.2 in
    let ti = perhaps_is (eqb (next n.0.1) 4) 4 n.0.1 t.0.0 t.0.1 nb t.1 in
    let y : Fore = record { name = n.0.0; type = t.0.0; span = s.0.0; rest = t.0.1; after = r.after } in
    let front : Goes r.body (fore_of y) t.0.1 = goes_then _ _ _ _ _ si.0 (goes_then _ _ _ _ _ ni.0 ti.0) in
    subst (ForeIs d p) (ok_ok t.2) (record {
      few = leb-true d 32 sh.0;
      goes = subst (λ w. Goes p w r.after) (λ i. record_of (is.1 i) (front.bytes i)) is.0.goes;
      starts = front.at ∙ ap (λ m. m + length (fore_of y)) is.0.starts;
      name = ni.1;
      type = ti.1;
      span = si.1;
      inner = goes_bytes _ _ _ ti.0 nb;
    })

-- a node's front at p
pub record FrontIs (d : ℕ) (p : Place) (f : Front) : Type 0 where
  pub few : d ≤ 32
  pub goes : Goes p (record_of 2 (front_of f.head ++ (entries_of f.head.entries ++ f.rest.bytes))) f.after
  pub starts : f.rest.at ≡ p.at + 6 + length (front_of f.head) + length (entries_of f.head.entries)
  pub stand : EntriesStand (p.at + 6 + length (front_of f.head)) f.head.entries
  pub fits : HeadFits f.head
  pub inner : Bytes f.rest.bytes

pub front_is : (d : ℕ) (p : Place) (x : Front) → Bytes p.bytes → front d p ≡ Ok x → FrontIs d p x
unfolding front
front_is d p x b e =
    let h = then_ok (fore d p) _ x e in
    let r = h.0 in
    let is = fore_is d p r b h.1 in
    let es = then_ok (entries (length r.rest.bytes) r.rest) _ x h.2 in
    let ei = entries_are (length r.rest.bytes) r.rest es.0.0 es.0.1 is.inner es.1 in
    subst (FrontIs d p) (ok_ok es.2) (record {
      few = is.few;
      goes = subst (λ w. Goes p (record_of 2 (fore_of r ++ w)) r.after) ei.goes.bytes is.goes;
      starts = ei.goes.at ∙ ap (λ m. m + length (entries_of es.0.0)) is.starts;
      stand = subst (λ m. EntriesStand m es.0.0) is.starts ei.stand;
      fits = record { name = is.name; type = is.type; span = is.span; entries = ei.fit };
      inner = goes_bytes _ _ _ ei.goes is.inner;
    })

pub record NodeIs (d : ℕ) (p : Place) (n : Node) (q : Place) : Type 0 where
  pub goes : Goes p (node_of n) q
  pub stands : NodeStands p.at n
  pub fits : NodeFits n
  pub shallow : d + depth_node n ≤ 33
  pub less : length q.bytes + 6 ≤ length p.bytes

pub node_is : (f d : ℕ) (inner : Place → Read Nodes) (p : Place) (x : Node) (q : Place) → (suc d ≤ 33 → Reads f (suc d) inner) → Bytes p.bytes → length p.bytes ≤ f + 6 → node_at d inner p ≡ Ok (x, q) → NodeIs d p x q
unfolding node_at
node_is f d inner p x q reads b l e =
    let h = then_ok (front d p) _ (x, q) e in
    let r = h.0 in
    let head = r.head in
    let es = entries_of head.entries in
    let is = front_is d p r b h.1 in
    let few = is.few in
    let k = then_ok (block_at inner r.rest) _ (x, q) h.2 in
    let all_long = goes_long p r.after (record_of 2 (front_of head ++ (es ++ r.rest.bytes))) is.goes in
    let rec_long = record_long 2 (front_of head ++ (es ++ r.rest.bytes)) in
    let one = length-append (front_of head) (es ++ r.rest.bytes) in
    let two = length-append es r.rest.bytes in
    let ki = block_is f (suc d) inner r.rest k.0 (reads (omega arith)) (omega arith) is.inner (omega arith) k.1 in
    let deep = ki.shallow in
    let P : Node × Place → Type 0 = λ y. NodeIs d p y.0 y.1 in
    subst P (ok_ok k.2) (record {
      goes = subst (λ w. Goes p (record_of 2 (front_of head ++ (es ++ w))) r.after) ki.written is.goes;
      stands = (refl, is.stand, subst (λ m. BlockStands m k.0) is.starts ki.stands);
      fits = (is.fits, ki.fits);
      shallow = omega arith;
      less = omega arith;
    })

no_more : (xs : List ℕ) → length xs ≤ 0 → xs ≡ []
no_more [] l = refl
no_more (x ∷ xs) l = absurd (omega arith)

pub nodes_are : (f d : ℕ) → d ≤ 33 → Reads f d (nodes f d)
unfolding nodes
nodes_are zero d small p ns b l e = subst (NodesAre d p) (ok_ok e) (record { written = no_more p.bytes l; stand = tt; fit = tt; shallow = omega arith })
nodes_are (suc f) d small p ns b l e = ⊎_elim
    (λ is. subst (NodesAre d p) (ok_ok (rw is at e)) (record { written = none_is p.bytes is; stand = tt; fit = tt; shallow = omega arith }))
    (λ isnt.
    let h = then_ok (node_at d (nodes f (suc d)) p) _ ns (rw isnt at e) in
    let x = h.0.0 in
    let q = h.0.1 in
    let n = node_is f d (nodes f (suc d)) p x q (nodes_are f (suc d)) b (omega arith) h.1 in
    let less = n.less in
    let t = then_ok (nodes f d q) _ ns h.2 in
    let m = nodes_are f d small q t.0 (goes_bytes p q _ n.goes b) (omega arith) t.1 in
    let one = n.shallow in
    let two = m.shallow in
    subst (NodesAre d p) (ok_ok t.2) (record {
      written = n.goes.bytes ∙ ap (λ w. node_of x ++ w) m.written;
      stand = (n.stands, subst (λ k. Stand k t.0) n.goes.at m.stand);
      fit = (n.fits, m.fit);
      shallow = omega arith;
    }))
    (cases_Bool (none p.bytes))

pub accepted : (bs : List ℕ) (ns : Nodes) → Bytes bs → image bs ≡ Ok ns → Exact bs ns
accepted bs ns b e =
    let g = passes (ltb 1048576 (length bs)) _ _ ns e in
    let n = document_is (length bs) 1 (nodes (length bs) 1) (start bs) ns (nodes_are (length bs) 1 (omega arith)) b (omega arith) g.1 in
    let deep = n.shallow in
    record { written = n.written; stand = n.stand; fit = n.fit; shallow = omega arith; short = ltb-false 1048576 (length bs) g.0 }
