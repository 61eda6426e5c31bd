-- Each column that is asked for is one attribute more of the rows' vector.
use Rattle.std.proofs.Common.{◌≡◌, ◌∙◌, ℕ, zero, suc, ◌+◌, ◌<◌, ◌≤◌, ◌^◌, Bool, true, false, ◌||◌, ◌&&◌, List, [], ◌∷◌, ◌++◌, length, length-append, map, refl, sym, ap, subst, arith, eq-eqb, Some, Ok}
use Rattle.std.specs.Prelude.{◌==◌, codes, slice_get}
use Rattle.std.specs.List.{All, list_any}
use Rattle.std.proofs.lemmas.List.Elements.{All-nil, All-cons, All-head, All-tail, All-append}
use Rattle.std.proofs.lemmas.List.Folds.{list_any-append}
use Rattle.std.proofs.lemmas.Option.{get_or_from_slice_get}
use Rattle.control_vectors.specs.Slots.{Slot}
use Rattle.programs.specs.Mentions.{Label}
use Rattle.programs.specs.Vectors.{Vector, Env, known, seen, slots_of}
use Rattle.sql_read.specs.declared.definition.TableDef.{TableDef}
use Rattle.sql_read.specs.Forms.{IsNamed}
use Rattle.table_load.specs.Databases.{coded, vector_of_table}
use Rattle.table_load.specs.Values.{Table, value_at}
use Rattle.table_load.specs.Vectors.{HasColumns}
use Rattle.typed_trees.specs.declared.typed.ColumnRef.{ColumnRef}
use Rattle.typed_trees.specs.Names.{same_column}
use Rattle.query_answers.specs.Answers.{Row}
use Rattle.expr_lower.specs.declared.places.ColumnPlace.{ColumnPlace}
use Rattle.voodoo_ops.specs.Attributes.{upserted}
use Rattle.voodoo_ops.specs.Meaning.{effect}
use Rattle.program_writers.specs.Names.{IsBelow}
use Rattle.program_writers.specs.Statements.{mark, with_attribute}
use Rattle.program_writers.specs.Writers.{tell, through, make, numbered}
use Rattle.program_writers.proofs.Numbers.{below_more}
use Rattle.plan_programs.specs.Rows.{value_path, loaded_path, column_in}
use Rattle.plan_programs.specs.Sites.{Base, base, with_column}
use Rattle.held_rows.specs.Held.{Held, column, one, Told, Holds}
use Rattle.held_rows.specs.Vectors.{IsBeside}
use Rattle.held_rows.proofs.Upserted.{upsert_holds}
use Rattle.writer_runs.specs.Runs.{Makes, Sees}
use Rattle.writer_runs.proofs.Composed.{makes_tell, makes_one}
use Rattle.lowered_rows.proofs.Making.{makes_behind, makes_less}
use Rattle.lowered_stages.specs.Parts.{on_table}
use Rattle.lowered_stages.specs.Stages.{column_told}
use Rattle.lowered_rows.proofs.Paths.{values_apart, mark_apart}
use Rattle.lowered_rows.proofs.Stores.{column_is, loaded_is}

-- ---- places

abbrev pub column_of : ℕ → ℕ → ColumnRef
column_of source c = record { source = source; column = c }

abbrev pub place : ℕ → ℕ → ℕ → ColumnPlace
place source c n = record { column = column_of source c; path = value_path n }

-- the columns in order have the paths from `.v` and this number on
abbrev pub AreNumbered : ℕ → List ColumnPlace → Type 0
AreNumbered j [] = Unit {0}
AreNumbered j (p ∷ ps) = (p.path ≡ value_path j) × AreNumbered (j + 1) ps

pub numbered_more : (j : ℕ) (ps : List ColumnPlace) (x : ColumnPlace) → AreNumbered j ps → x.path ≡ value_path (j + length ps) → AreNumbered j (ps ++ x ∷ [])
numbered_more j [] x h e = (e ∙ ap value_path (omega arith), tt)
numbered_more j (p ∷ ps) x h e = (h.0, numbered_more (j + 1) ps x h.1 (e ∙ ap value_path (omega arith)))

-- a column has a place
abbrev pub Has : ℕ → List ColumnPlace → ℕ → Type 0
Has source ps c = list_any (λ p. same_column p.column (column_of source c)) ps ≡ true

or_true : (b : Bool) → (b || true) ≡ true
or_true true = refl
or_true false = refl

same_itself : (source c : ℕ) → same_column (column_of source c) (column_of source c) ≡ true
same_itself source c = ap (λ (b : Bool). b && (c == c)) (eq-eqb source source refl) ∙ eq-eqb c c refl

has_more : (source : ℕ) (ps qs : List ColumnPlace) (c : ℕ) → Has source ps c → Has source (ps ++ qs) c
has_more source ps qs c h =
    list_any-append (λ p. same_column p.column (column_of source c)) ps qs
    ∙ ap (λ (b : Bool). b || list_any (λ p. same_column p.column (column_of source c)) qs) h

has_last : (source : ℕ) (ps : List ColumnPlace) (c n : ℕ) → Has source (ps ++ place source c n ∷ []) c
has_last source ps c n =
    list_any-append (λ p. same_column p.column (column_of source c)) ps (place source c n ∷ [])
    ∙ ap (λ (b : Bool). list_any (λ p. same_column p.column (column_of source c)) ps || (b || false)) (same_itself source c)
    ∙ or_true (list_any (λ p. same_column p.column (column_of source c)) ps)

pub map_append : {A B : Type 0} (f : A → B) (xs ys : List A) → map f (xs ++ ys) ≡ map f xs ++ map f ys
map_append f [] ys = refl
map_append {A} {B} f (x ∷ xs) ys = ap (λ (l : List B). f x ∷ l) (map_append f xs ys)

pub record Found {A : Type 0} (xs : List A) (k : ℕ) : Type 0 where
  pub item : A
  pub is : slice_get xs k ≡ Some item

pub found : {A : Type 0} (xs : List A) (k : ℕ) → k < length xs → Found xs k
found [] k h = absurd (omega (arith, h))
found (x ∷ xs) zero h = record { item = x; is = refl }
found (x ∷ xs) (suc k) h = let f = found xs k (omega (arith, h)) in record { item = f.item; is = f.is }

-- ---- what the vector tells of its rows

module _ (texts : List (List ℕ)) (source : ℕ) where
  abbrev pub told : List ColumnPlace → List (Told Row)
  told ps = (mark, one) ∷ map (column_told texts on_table) ps

  -- a new path is beside those that are there
  beside_columns : (n j : ℕ) (ps : List ColumnPlace) → AreNumbered j ps → j + length ps ≤ n → n < 2 ^ 64 → All (IsBeside (value_path n)) (map (column_told texts on_table) ps)
  beside_columns n j [] h few small = All-nil (IsBeside (value_path n))
  beside_columns n j (p ∷ ps) h few small =
      All-cons (IsBeside (value_path n)) (column_told texts on_table p) (map (column_told texts on_table) ps)
      (subst (λ (l : Label). IsBeside (value_path n) (l, (column_told texts on_table p).1)) (sym h.0) (values_apart j n (omega (arith, few)) small))
      (beside_columns n (j + 1) ps h.1 (omega (arith, few)) small)

  pub beside_all : (ps : List ColumnPlace) → AreNumbered 0 ps → length ps < 2 ^ 64 → All (IsBeside (value_path (length ps))) (told ps)
  beside_all ps h small =
      All-cons (IsBeside (value_path (length ps))) (mark, one) (map (column_told texts on_table) ps) (mark_apart (length ps)) (beside_columns (length ps) 0 ps h (omega arith) small)

  -- the attribute that comes first in a vector stands last among what is told
  last_first : (v : Vector) (held : Held Row) (ps : List ColumnPlace) (x : ColumnPlace) → Holds v held (column_told texts on_table x ∷ told ps) → Holds v held (told (ps ++ x ∷ []))
  last_first v held ps x h = record {
    len = h.len;
    each =
        let P : Told Row → Type 0 = λ t. slots_of v.attributes t.0 ≡ column t.1 held in
        let rest = All-tail P (column_told texts on_table x) (told ps) h.each in
        All-cons P (mark, one) (map (column_told texts on_table) (ps ++ x ∷ [])) (All-head P (mark, one) (map (column_told texts on_table) ps) rest)
        (subst (All P) (sym (map_append (column_told texts on_table) ps (x ∷ [])))
        (All-append P (map (column_told texts on_table) ps) (column_told texts on_table x ∷ []) (All-tail P (mark, one) (map (column_told texts on_table) ps) rest)
        (All-cons P (column_told texts on_table x) [] (All-head P (column_told texts on_table x) (told ps) h.each) (All-nil P))));
  }

  -- ---- the rows' vector by its name, and the table's

  abbrev pub held : List Row → Held Row
  held rows = map (λ r. Some r) rows

  pub record Stands (rows : List Row) (ps : List ColumnPlace) (v : Label) (k : ℕ) (env : Env) : Type 0 where
    pub vector : Vector
    pub sees : Sees env v vector
    pub below : IsBelow k v
    pub holds : Holds vector (held rows) (told ps)

  pub record Loads (table : Label) (tv : Vector) (k : ℕ) (env : Env) : Type 0 where
    pub sees : Sees env table tv
    pub below : IsBelow k table

  pub still_loads : (table : Label) (tv : Vector) (k next : ℕ) (env after : Env) → k ≤ next → ((name : Label) → IsBelow k name → after name ≡ env name) → Loads table tv k env → Loads table tv next after
  still_loads table tv k next env after up kept l = record { sees = kept table l.below ∙ l.sees; below = below_more k next table up l.below }

  column_held : (f : Row → Slot) (rows : List Row) → map f rows ≡ column f (held rows)
  column_held f [] = refl
  column_held f (r ∷ rows) = ap (λ (l : List Slot). f r ∷ l) (column_held f rows)

  -- ---- one column

  module _ (store : Env) (def : TableDef) (t : Table) (table : Label) (good : HasColumns def) where
    abbrev pub tv : Vector
    tv = seen (vector_of_table texts def t)

    slots_are : (c : ℕ) → c < length def.columns → slots_of tv.attributes (loaded_path def c) ≡ column (λ row. coded texts (value_at c row)) (held t.rows)
    slots_are c h =
        let f = found def.columns c h in
        let name : IsNamed f.item = subst IsNamed (get_or_from_slice_get def.columns c f.item f.item f.is) (good.named c f.item h) in
        ap (slots_of tv.attributes) (loaded_is def c f.item name f.is) ∙ column_is texts def t c f.item good.apart f.is ∙ column_held (λ row. coded texts (value_at c row)) t.rows

    more_made : (c k : ℕ) (env : Env) (ps : List ColumnPlace) (v : Label) → c < length def.columns → AreNumbered 0 ps → length ps < 2 ^ 64 → Stands t.rows ps v k env → Loads table tv k env
        → Makes store (make (codes "rows") (with_attribute v (value_path (length ps)) table (loaded_path def c))) k env
        (λ name next after. Stands t.rows (ps ++ place source c (length ps) ∷ []) name next after × Loads table tv next after)
    more_made c k env ps v h n few s l =
        let p = value_path (length ps) in
        let q = loaded_path def c in
        let made : Vector = upserted s.vector p tv q in
        let is : effect store env (with_attribute v p table q) ≡ Some (Ok made) = λ i. Some (Ok (upserted (known (s.sees i)) p (known (l.sees i)) q)) in
        let m = makes_one store (codes "rows") (with_attribute v p table q) k env made refl is in
        record {
          after = m.after;
          ran = m.ran;
          holds = (
            record {
              vector = made;
              sees = m.holds.0;
              below = m.holds.1;
              holds = last_first made (held t.rows) ps (place source c (length ps)) (upsert_holds s.vector tv p q (held t.rows) (λ row. coded texts (value_at c row)) (told ps) s.holds (slots_are c h) (beside_all ps n few));
            },
            still_loads table tv k (k + 1) env m.after (omega arith) m.kept l,
          );
          kept = m.kept;
          ascends = m.ascends;
        }

    abbrev OneMore : ℕ → List ColumnPlace → Base → ℕ → Env → Type 0
    OneMore c ps b next after = Stands t.rows (ps ++ place source c (length ps) ∷ []) b.vector next after × Loads table tv next after

    column_made : (c k : ℕ) (env : Env) (ps : List ColumnPlace) (v : Label) → c < length def.columns → AreNumbered 0 ps → length ps < 2 ^ 64 → Stands t.rows ps v k env → Loads table tv k env
        → Makes store (column_in def source table (base v ps []) c) k env (OneMore c ps)
    column_made c k env ps v h n few s l =
        let first = more_made c k env ps v h n few s l in
        let p = value_path (length ps) in
        makes_behind Label Base store (make (codes "rows") (with_attribute v p table (loaded_path def c))) (λ rows. tell (with_column rows (column_of source c) p (base v ps []))) k env
        (λ name next after. Stands t.rows (ps ++ place source c (length ps) ∷ []) name next after × Loads table tv next after) (OneMore c ps) first
        (makes_tell Base store (with_column (numbered (codes "rows") k) (column_of source c) p (base v ps [])) (k + 1) first.after (OneMore c ps) first.holds)

    -- ---- each column

    pub record Done (cs : List ℕ) (ps : List ColumnPlace) (b : Base) (next : ℕ) (after : Env) : Type 0 where
      pub places : List ColumnPlace
      pub is : b ≡ base b.vector places []
      pub stands : Stands t.rows places b.vector next after
      pub sources : All (λ p. p.column.source ≡ source) places
      pub keeps : (c : ℕ) → Has source ps c → Has source places c
      pub each : All (λ c. Has source places c) cs

    one_more : (c : ℕ) (cs : List ℕ) (ps : List ColumnPlace) → AreNumbered 0 ps → length ps + length (c ∷ cs) ≤ 64 → All (λ p. p.column.source ≡ source) ps
        → AreNumbered 0 (ps ++ place source c (length ps) ∷ []) × ((length (ps ++ place source c (length ps) ∷ []) + length cs ≤ 64) × All (λ p. p.column.source ≡ source) (ps ++ place source c (length ps) ∷ []))
    one_more c cs ps n few from = (
      numbered_more 0 ps (place source c (length ps)) n (ap value_path (omega arith)),
      (
        omega (arith, few, length-append ps (place source c (length ps) ∷ [])),
        All-append (λ p. p.column.source ≡ source) ps (place source c (length ps) ∷ []) from (All-cons (λ p. p.column.source ≡ source) (place source c (length ps)) [] refl (All-nil (λ p. p.column.source ≡ source))),
      ),
    )

    -- what is made of the columns behind one holds of all
    with_first : (c : ℕ) (cs : List ℕ) (ps : List ColumnPlace) (b : Base) (next : ℕ) (after : Env) → Done cs (ps ++ place source c (length ps) ∷ []) b next after → Done (c ∷ cs) ps b next after
    with_first c cs ps b next after d = record {
      places = d.places;
      is = d.is;
      stands = d.stands;
      sources = d.sources;
      keeps = λ x h. d.keeps x (has_more source ps (place source c (length ps) ∷ []) x h);
      each = All-cons (λ x. Has source d.places x) c cs (d.keeps c (has_last source ps c (length ps))) d.each;
    }

    pub columns_made : (cs : List ℕ) (k : ℕ) (env : Env) (ps : List ColumnPlace) (v : Label) → All (λ c. c < length def.columns) cs → AreNumbered 0 ps → length ps + length cs ≤ 64 → All (λ p. p.column.source ≡ source) ps → Stands t.rows ps v k env → Loads table tv k env
        → Makes store (through (column_in def source table) (base v ps []) cs) k env (Done cs ps)
    columns_made [] k env ps v h n few from s l =
        makes_tell Base store (base v ps []) k env (Done [] ps) (record { places = ps; is = refl; stands = s; sources = from; keeps = λ c has. has; each = All-nil (λ c. Has source ps c) })
    columns_made (c ∷ cs) k env ps v h n few from s l =
        let ready = one_more c cs ps n few from in
        let now = ps ++ place source c (length ps) ∷ [] in
        let name = numbered (codes "rows") k in
        let within = All-head (λ x. x < length def.columns) c cs h in
        let first = column_made c k env ps v within n (omega (arith, few)) s l in
        let later = columns_made cs (k + 1) first.after now name (All-tail (λ x. x < length def.columns) c cs h) ready.0 ready.1.0 ready.1.1 first.holds.0 first.holds.1 in
        makes_behind Base Base store (column_in def source table (base v ps []) c) (λ b. through (column_in def source table) b cs) k env (OneMore c ps) (Done (c ∷ cs) ps) first
        (makes_less Base store (through (column_in def source table) (base name now []) cs) (k + 1) first.after (Done cs now) (Done (c ∷ cs) ps) later (λ after kept d. with_first c cs ps _ _ after d))
