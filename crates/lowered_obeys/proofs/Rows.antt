-- The rows of a table: one mark, and the columns that are asked for, each of which carries the column as it is loaded.
use Rattle.std.proofs.Common.{◌≡◌, ℕ, ◌+◌, ◌<◌, ◌≤◌, ◌^◌, ◌==◌, Bool, true, false, ◌||◌, not, List, [], ◌∷◌, ◌++◌, map, length, length-append, refl, sym, ap, ◌∙◌, arith, if◌then◌else◌, codes, Some, le_trans}
use Rattle.std.specs.Prelude.{All, filter}
use Rattle.std.specs.List.{list_any}
use Rattle.std.specs.Str.{bytes_eq}
use Rattle.std.proofs.lemmas.Bool.{and_parts, false≢true, eqb-true}
use Rattle.std.proofs.lemmas.List.Elements.{All-head, All-tail}
use Rattle.std.proofs.lemmas.List.Folds.{list_any-append}
use Rattle.std.proofs.lemmas.Slice.Eq.{bytes_eq-Decides}
use Rattle.control_vectors.specs.Controls.{Control}
use Rattle.key_paths.specs.Substructures.{is_at_or_below}
use Rattle.programs.specs.declared.op.Op.TheVariants as op
use Rattle.programs.specs.declared.op.Size.TheVariants as size
use Rattle.programs.specs.Mentions.{Label, has_name}
use Rattle.programs.specs.Outlines.{Outline, Shapes}
use Rattle.sql_read.specs.declared.definition.TableDef.{TableDef}
use Rattle.typed_trees.specs.declared.typed.ColumnRef.{ColumnRef}
use Rattle.typed_trees.specs.Names.{same_column}
use Rattle.expr_lower.specs.declared.places.ColumnPlace.{ColumnPlace}
use Rattle.expr_lower.specs.Statements.{column_path}
use Rattle.program_writers.specs.Names.{IsBelow}
use Rattle.program_writers.specs.Statements.{out, mark, ones, with_attribute}
use Rattle.program_writers.specs.Writers.{tell, ◌>>=◌, through, make, numbered}
use Rattle.program_writers.proofs.Numbers.{below_more}
use Rattle.plan_programs.specs.Rows.{value_path, loaded_path, column_in, marked, rows_of}
use Rattle.plan_programs.specs.Sites.{Base, path_in, marked_alone, with_column}
use Rattle.lowered_rows.proofs.Paths.{values_apart, mark_apart}
use Rattle.attribute_origins.specs.Traces.{Origin, origin, Trace, Traced, Traces, trace_at, handed, all_handed, upserted}
use Rattle.attribute_origins.specs.Origins.{traced}
use Rattle.lowered_obeys.proofs.Traced.{Knows, own, made_as, range_trace, range_traced, load_traced, upsert_traced}
use Rattle.lowered_obeys.proofs.Leaving.{Agrees, Leaves, knows_still, less_leaves, behind_leaves, each_both, tells, then_each, through_leaves, MakesIt, Each}
use Rattle.lowered_obeys.proofs.Calm.{Calm, plain_leaves}
use Rattle.lowered_obeys.proofs.Standing.{HasPlace, Carries, HasMark, StandsIn}
use Rattle.lowered_obeys.proofs.Upserted.{upserted_new, upserted_other, upserted_below}

-- ---- attributes of some paths

named_step : (f : Label → Trace) → ((p : Label) → (f p).path ≡ p) → (x : Label) (paths : List Label) (p : Label) → (has_name paths p ≡ true → trace_at (map f paths) p ≡ Some (f p)) → (b : Bool) → bytes_eq x p ≡ b → (b || has_name paths p) ≡ true → (if bytes_eq (f x).path p then Some (f x) else trace_at (map f paths) p) ≡ Some (f p)
named_step f same x paths p more true e h = ap (λ (b : Bool). if b then Some (f x) else trace_at (map f paths) p) (ap (λ (q : Label). bytes_eq q p) (same x) ∙ e) ∙ ap (λ (q : Label). Some (f q)) ((bytes_eq-Decides x p).0 e)
named_step f same x paths p more false e h = ap (λ (b : Bool). if b then Some (f x) else trace_at (map f paths) p) (ap (λ (q : Label). bytes_eq q p) (same x) ∙ e) ∙ more h

named_found : (f : Label → Trace) → ((p : Label) → (f p).path ≡ p) → (paths : List Label) (p : Label) → has_name paths p ≡ true → trace_at (map f paths) p ≡ Some (f p)
named_found f same [] p h = absurd (false≢true h)
named_found f same (x ∷ paths) p h = named_step f same x paths p (λ g. named_found f same paths p g) (bytes_eq x p) refl h

-- ---- the path of a column among one more

column_more : (ps : List ColumnPlace) (x : ColumnPlace) (c : ColumnRef) → list_any (λ p. same_column p.column c) ps ≡ true → column_path (ps ++ x ∷ []) c ≡ column_path ps c
column_more [] x c h = absurd (false≢true h)
column_more (p ∷ ps) x c h = by (same_column p.column c) h (λ g. column_more ps x c g)
  where
    by : (b : Bool) → (b || list_any (λ p. same_column p.column c) ps) ≡ true → (list_any (λ p. same_column p.column c) ps ≡ true → column_path (ps ++ x ∷ []) c ≡ column_path ps c) → (if b then p.path else column_path (ps ++ x ∷ []) c) ≡ (if b then p.path else column_path ps c)
    by true g more = refl
    by false g more = more g

column_last : (ps : List ColumnPlace) (x : ColumnPlace) (c : ColumnRef) → list_any (λ p. same_column p.column c) ps ≡ false → same_column x.column c ≡ true → column_path (ps ++ x ∷ []) c ≡ x.path
column_last [] x c none e = ap (λ (b : Bool). if b then x.path else out) e
column_last (p ∷ ps) x c none e = by (same_column p.column c) none (λ g. column_last ps x c g e)
  where
    by : (b : Bool) → (b || list_any (λ p. same_column p.column c) ps) ≡ false → (list_any (λ p. same_column p.column c) ps ≡ false → column_path (ps ++ x ∷ []) c ≡ x.path) → (if b then p.path else column_path (ps ++ x ∷ []) c) ≡ x.path
    by true g more = absurd cc
    by false g more = more g

last_is : (ps : List ColumnPlace) (x : ColumnPlace) (c : ColumnRef) → list_any (λ p. same_column p.column c) ps ≡ false → list_any (λ p. same_column p.column c) (ps ++ x ∷ []) ≡ true → same_column x.column c ≡ true
last_is ps x c none h = or_false (same_column x.column c) (sym (ap (λ (b : Bool). b || (same_column x.column c || false)) none) ∙ sym (list_any-append (λ p. same_column p.column c) ps (x ∷ [])) ∙ h)
  where
    or_false : (b : Bool) → (b || false) ≡ true → b ≡ true
    or_false true e = refl
    or_false false e = absurd cc

-- ---- a new value beside a mark and other values

mark_stays : (m len n : ℕ) (traces : List Trace) (new : Trace) → HasMark m traces → HasMark m (upserted len (value_path n) traces (Some new))
mark_stays m len n traces new h = record {
  one = handed len h.one.path h.one;
  alone =
      upserted_below len (value_path n) mark traces new refl ∙ ap (λ (l : List Trace). all_handed len (filter (λ t. not (is_at_or_below t.path (value_path n))) l)) h.alone
      ∙ ap (λ (b : Bool). all_handed len (if not b then h.one ∷ [] else [])) (ap (λ (p : Label). is_at_or_below p (value_path n)) h.path ∙ mark_apart n);
  path = h.path;
  last = h.last;
  root = h.root;
}

-- ---- one column

module _ (source : ℕ) (def : TableDef) (table : Label) (o : Outline) where
  -- where a column is made
  abbrev pub loaded : ColumnRef → Origin
  loaded c = origin table (loaded_path def c.column)

  -- the table, and what stands so far
  pub record Loading (m : ℕ) (rest : List ℕ) (b : Base) (next : ℕ) (made : Traces) : Type 0 where
    pub stands : StandsIn m loaded b next made
    pub vector : Traced
    pub known : Knows made table vector
    pub there : (q : Label) → has_name o.paths q ≡ true → trace_at vector.traces q ≡ Some (own table q o.len)
    pub below : IsBelow next table
    pub apart : (c : ColumnRef) → HasPlace b c → (n : ℕ) → length b.columns ≤ n → n < 2 ^ 64 → is_at_or_below (path_in b c) (value_path n) ≡ false
    pub few : length b.columns + length rest ≤ 64
    pub names : All (λ k. has_name o.paths (loaded_path def k) ≡ true) rest

  module _ (T : Shapes) (select : Control) (groups : List Origin) where
    -- a column of the base with one more
    one_more : (m : ℕ) (k : ℕ) (rest : List ℕ) (b : Base) (l next : ℕ) (made between : Traces) (name : Label) → Loading m (k ∷ rest) b l made → Agrees l made between → l ≤ next → IsBelow next name
        → Knows between name (traced T made name (with_attribute b.vector (value_path (length b.columns)) table (loaded_path def k))) → Loading m rest (with_column name (record { source = source; column = k }) (value_path (length b.columns)) b) next between
    one_more m k rest b l next made between name h same le below e =
        let n = length b.columns in
        let x : ColumnPlace = record { column = record { source = source; column = k }; path = value_path n } in
        let q = loaded_path def k in
        let named = All-head (λ j. has_name o.paths (loaded_path def j) ≡ true) k rest h.names in
        let v = h.stands.vector in
        let new = own table q o.len in
        let is = upsert_traced T made name b.vector (value_path n) table q v h.vector new h.stands.known h.known (h.there q named) in
        let u : Traced = made_as (with_attribute b.vector (value_path n) table q) v.len (upserted v.len (value_path n) v.traces (Some new)) in
        let at : (c : ColumnRef) → HasPlace (with_column name (record { source = source; column = k }) (value_path n) b) c → Carries u.traces (column_path (b.columns ++ x ∷ []) c) (loaded c) = λ c has. by c has (list_any (λ p. same_column p.column c) b.columns) refl in
        let beside : (c : ColumnRef) → HasPlace (with_column name (record { source = source; column = k }) (value_path n) b) c → (i : ℕ) → length (b.columns ++ x ∷ []) ≤ i → i < 2 ^ 64 → is_at_or_below (column_path (b.columns ++ x ∷ []) c) (value_path i) ≡ false = λ c has i most small. further c has i (let a = length-append b.columns (x ∷ []) in omega (arith, a, most)) small (list_any (λ p. same_column p.column c) b.columns) refl in
        record {
          stands = record { vector = u; known = e ∙ ap (λ (w : Traced). Some w) is; marks = mark_stays m v.len n v.traces new h.stands.marks; columns = at; below = below };
          vector = h.vector;
          known = knows_still l made between table h.vector same h.below h.known;
          there = h.there;
          below = below_more l next table le h.below;
          apart = beside;
          few = let a = length-append b.columns (x ∷ []) in let f = h.few in omega (arith, a, f);
          names = All-tail (λ j. has_name o.paths (loaded_path def j) ≡ true) k rest h.names;
        }
      where
        n : ℕ
        n = length b.columns

        x : ColumnPlace
        x = record { column = record { source = source; column = k }; path = value_path n }

        new : Trace
        new = own table (loaded_path def k) o.len

        traces : List Trace
        traces = upserted h.stands.vector.len (value_path n) h.stands.vector.traces (Some new)

        by : (c : ColumnRef) → list_any (λ p. same_column p.column c) (b.columns ++ x ∷ []) ≡ true → (t : Bool) → list_any (λ p. same_column p.column c) b.columns ≡ t → Carries traces (column_path (b.columns ++ x ∷ []) c) (loaded c)
        by c has true here =
            let old = h.stands.columns c here in
            let few = h.few in
            let path = column_more b.columns x c here in
            record {
              one = handed h.stands.vector.len old.one.path old.one;
              there = ap (trace_at traces) path ∙ upserted_other h.stands.vector.len (value_path n) (path_in b c) h.stands.vector.traces new old.one (h.apart c here n (omega arith) (omega (arith, few))) old.there;
              root = old.root;
            }
        by c has false none =
            let mine = last_is b.columns x c none has in
            let path = column_last b.columns x c none mine in
            let same = eqb-true k c.column (and_parts (source == c.source) (k == c.column) mine).1 in
            record {
              one = handed h.stands.vector.len (value_path n) new;
              there = ap (trace_at traces) path ∙ upserted_new h.stands.vector.len (value_path n) h.stands.vector.traces new;
              root = ap (λ (j : ℕ). origin table (loaded_path def j)) same;
            }

        further : (c : ColumnRef) → list_any (λ p. same_column p.column c) (b.columns ++ x ∷ []) ≡ true → (i : ℕ) → n < i → i < 2 ^ 64 → (t : Bool) → list_any (λ p. same_column p.column c) b.columns ≡ t → is_at_or_below (column_path (b.columns ++ x ∷ []) c) (value_path i) ≡ false
        further c has i more small true here = ap (λ (p : Label). is_at_or_below p (value_path i)) (column_more b.columns x c here) ∙ h.apart c here i (omega (arith, more)) small
        further c has i more small false none = ap (λ (p : Label). is_at_or_below p (value_path i)) (column_last b.columns x c none (last_is b.columns x c none has)) ∙ values_apart n i more small

    column_leaves : (m k : ℕ) (rest : List ℕ) (b : Base) (l : ℕ) (made : Traces) → Loading m (k ∷ rest) b l made → Leaves T (column_in def source table b k) l made (Loading m rest) (Each (Calm select groups))
    column_leaves m k rest b l made h =
        let upsert = with_attribute b.vector (value_path (length b.columns)) table (loaded_path def k) in
        then_each T (Calm select groups) (make (codes "rows") upsert) (λ rows. tell (with_column rows (record { source = source; column = k }) (value_path (length b.columns)) b)) l made (MakesIt l (λ name. traced T made name upsert)) (Loading m rest)
        (plain_leaves T select groups (codes "rows") upsert l made refl refl refl)
        (λ name next between le p same. tells T (Calm select groups) _ next between (Loading m rest) (one_more m k rest b l next made between name h same le p.below p.known))

    columns_leave : (m : ℕ) (columns : List ℕ) (b : Base) (k : ℕ) (made : Traces) → Loading m columns b k made → Leaves T (through (column_in def source table) b columns) k made (Loading m []) (Each (Calm select groups))
    columns_leave m columns b k made h = through_leaves T (Calm select groups) (column_in def source table) (λ rest c. Loading m rest c) (λ j rest c l between g. column_leaves m j rest c l between g) columns b k made h

-- ---- the table is loaded, and its rows are marked

module _ (T : Shapes) (select : Control) (groups : List Origin) (source : ℕ) (def : TableDef) (o : Outline) where
  marked_leaves : (table : Label) (columns : List ℕ) (m k : ℕ) (made : Traces) → m ≤ k → Knows made table (made_as (op.Load def.name) o.len (map (λ p. own table p o.len) o.paths)) → IsBelow k table → length columns ≤ 64 → All (λ c. has_name o.paths (loaded_path def c) ≡ true) columns
      → Leaves T (marked table >>= λ vector. through (column_in def source table) (marked_alone vector) columns) k made (λ b next after. StandsIn m (loaded source def table o) b next after) (Each (Calm select groups))
  marked_leaves table columns m k made le e below few names =
      let range = op.Range (size.Of table) mark ones in
      then_each T (Calm select groups) (marked table) (λ vector. through (column_in def source table) (marked_alone vector) columns) k made (MakesIt k (λ name. traced T made name range)) (λ b next after. StandsIn m (loaded source def table o) b next after)
      (plain_leaves T select groups (codes "rows") range k made refl refl refl)
      (λ name next between le2 p same.
      let there = p.known ∙ ap (λ (v : Traced). Some v) (range_traced T made name table mark ones _ e) in
      less_leaves T (through (column_in def source table) (marked_alone name) columns) next between (Loading source def table o m []) (λ b next2 after. StandsIn m (loaded source def table o) b next2 after) (Each (Calm select groups)) (Each (Calm select groups)) (λ b next2 after le3 same3 h. h.stands) (λ final l x. x)
      (columns_leave source def table o T select groups m columns (marked_alone name) next between (record {
        stands = record {
          vector = _;
          known = there;
          marks = record { one = range_trace name mark o.len ones; alone = refl; path = refl; last = next; root = record { number = p.from.number; has = p.from.has; least = le_trans le p.from.least; less = p.from.less } };
          columns = λ c has. absurd (false≢true has);
          below = p.below;
        };
        vector = _;
        known = knows_still k made between table _ same below e;
        there = λ q h. named_found (λ p. own table p o.len) (λ p. refl) o.paths q h;
        below = below_more k next table le2 below;
        apart = λ c has. absurd (false≢true has);
        few = omega (arith, few);
        names = names;
      })))

  pub rows_leave : (columns : List ℕ) (k : ℕ) (made : Traces) → T def.name ≡ Some o → length columns ≤ 64 → All (λ c. has_name o.paths (loaded_path def c) ≡ true) columns
      → Leaves T (rows_of def source columns) k made (λ b next after. (k + 1 ≤ next) × StandsIn (k + 1) (loaded source def (numbered (codes "table") k) o) b next after) (Each (Calm select groups))
  rows_leave columns k made is few names =
      let load = op.Load def.name in
      let table = numbered (codes "table") k in
      let first = plain_leaves T select groups (codes "table") load k made refl refl refl in
      behind_leaves T (make (codes "table") load) (λ table. marked table >>= λ vector. through (column_in def source table) (marked_alone vector) columns) k made (MakesIt k (λ name. traced T made name load)) (λ b next after. (k + 1 ≤ next) × StandsIn (k + 1) (loaded source def table o) b next after)
      (Each (Calm select groups)) (Each (Calm select groups)) (Each (Calm select groups)) (each_both (Calm select groups)) first
      (less_leaves T (marked table >>= λ vector. through (column_in def source table) (marked_alone vector) columns) (k + 1) _ (λ b next after. StandsIn (k + 1) (loaded source def table o) b next after) (λ b next after. (k + 1 ≤ next) × StandsIn (k + 1) (loaded source def table o) b next after) (Each (Calm select groups)) (Each (Calm select groups))
      (λ b next after le same h. (le, h)) (λ final l x. x)
      (marked_leaves table columns (k + 1) (k + 1) _ (omega arith) (first.holds.known ∙ ap (λ (v : Traced). Some v) (load_traced T made table def.name o is)) first.holds.below few names))
