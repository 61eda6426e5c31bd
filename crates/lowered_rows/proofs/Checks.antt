-- The statements that load rows pass their check.
use Rattle.std.proofs.Common.{◌≡◌, ◌∙◌, ℕ, ◌+◌, ◌<◌, ◌≤◌, ◌^◌, true, false, List, [], ◌∷◌, ◌++◌, length, length-append, map, get_or, refl, sym, ap, subst, arith, Some}
use Rattle.std.specs.Prelude.{codes}
use Rattle.std.specs.Fmt.{decimal}
use Rattle.std.specs.List.{All}
use Rattle.std.specs.Option.{option_map}
use Rattle.std.proofs.lemmas.List.Elements.{All-nil, All-cons, All-head, All-tail, All-append}
use Rattle.std.proofs.lemmas.Option.{get_or_from_slice_get, slice_get_within}
use Rattle.key_paths.specs.Substructures.{is_at_or_below}
use Rattle.programs.specs.declared.op.Op.TheVariants as op
use Rattle.programs.specs.declared.op.Size.TheVariants as size
use Rattle.programs.specs.Check.{Known}
use Rattle.programs.specs.Mentions.{Label, has_name}
use Rattle.programs.specs.Outlines.{Shapes, outline_of, outlines}
use Rattle.programs.specs.Vectors.{tables}
use Rattle.sql_read.specs.declared.definition.TableDef.{TableDef}
use Rattle.sql_read.specs.Forms.{IsNamed}
use Rattle.table_load.specs.Databases.{database_of}
use Rattle.table_load.specs.Values.{Table}
use Rattle.table_load.specs.Vectors.{HasColumns}
use Rattle.table_load.proofs.ColumnNames.{has_columns}
use Rattle.expr_lower.specs.declared.places.ColumnPlace.{ColumnPlace}
use Rattle.program_writers.specs.Statements.{mark, ones, with_attribute}
use Rattle.program_writers.specs.Writers.{tell, ◌>>=◌, through, make, numbered}
use Rattle.plan_programs.specs.Rows.{value_path, loaded_path, column_in, marked}
use Rattle.plan_programs.specs.Sites.{Base, base, marked_alone, with_column}
use Rattle.writer_checks.specs.Checks.{IsFresh, HasShape, Passes}
use Rattle.writer_checks.specs.Laws.{Shaped}
use Rattle.writer_checks.proofs.Composing.{tell_passes, behind_passes}
use Rattle.writer_checks.proofs.Going.{still_has, weaker, through_passes}
use Rattle.writer_checks.proofs.Passing.{operator_laws}
use Rattle.writer_checks.proofs.Routes.{path_laws}
use Rattle.lowered_stages.specs.Parts.{RowsPasses}
use Rattle.lowered_stages.specs.Stages.{IsShaped, paths_of}
use Rattle.lowered_rows.proofs.Loaded.{column_of, place, AreNumbered, numbered_more, map_append, found}
use Rattle.lowered_rows.proofs.Paths.{values_apart, mark_apart}
use Rattle.lowered_rows.proofs.Shapes.{table_outline, table_shape, has_column, one_of}
use Rattle.lowered_rows.proofs.Stores.{table_is, loaded_is}

-- ---- paths

abbrev place_paths : List ColumnPlace → List Label
place_paths ps = map (λ p. p.path) ps

beside_places : (n j : ℕ) (ps : List ColumnPlace) → AreNumbered j ps → j + length ps ≤ n → n < 2 ^ 64 → All (λ r. is_at_or_below r (value_path n) ≡ false) (place_paths ps)
beside_places n j [] h few small = All-nil (λ r. is_at_or_below r (value_path n) ≡ false)
beside_places n j (p ∷ ps) h few small =
    All-cons (λ r. is_at_or_below r (value_path n) ≡ false) p.path (place_paths ps)
    (subst (λ (l : Label). is_at_or_below l (value_path n) ≡ false) (sym h.0) (values_apart j n (omega (arith, few)) small))
    (beside_places n (j + 1) ps h.1 (omega (arith, few)) small)

-- the path that comes first stands last
last_first : (names ps qs : List Label) (p : Label) → All (λ q. has_name names q ≡ true) (p ∷ mark ∷ ps) → qs ≡ ps ++ p ∷ [] → All (λ q. has_name names q ≡ true) (mark ∷ qs)
last_first names ps qs p h e =
    let P : Label → Type 0 = λ q. has_name names q ≡ true in
    let rest = All-tail P p (mark ∷ ps) h in
    All-cons P mark qs (All-head P mark ps rest)
    (subst (All P) (sym e) (All-append P ps (p ∷ []) (All-tail P mark ps rest) (All-cons P p [] (All-head P p (mark ∷ ps) h) (All-nil P))))

-- ---- one column

module _ (source : ℕ) (def : TableDef) (table : Label) (len : ℕ) (names : List Label) where
  -- what is known between two columns
  record Loading (cs : List ℕ) (b : Base) (shapes : Shapes) : Type 0 where
    places : List ColumnPlace
    is : b ≡ base b.vector places []
    numbered_are : AreNumbered 0 places
    few : length places + length cs ≤ 64
    within : All (λ c. c < length def.columns) cs
    shape : HasShape shapes b.vector len (mark ∷ place_paths places)
    loaded : HasShape shapes table len names

  module _ (shapes : Shapes) (small : len ≤ 2 ^ 22) (each : (c : ℕ) → c < length def.columns → has_name names (loaded_path def c) ≡ true) where
    one_column : (c : ℕ) (cs : List ℕ) (v : Label) (ps : List ColumnPlace) (k : ℕ) (known : Known) → IsFresh k known.vectors → AreNumbered 0 ps → length ps + length (c ∷ cs) ≤ 64 → All (λ x. x < length def.columns) (c ∷ cs)
        → HasShape known.vectors v len (mark ∷ place_paths ps) → HasShape known.vectors table len names → Passes shapes (column_in def source table (base v ps []) c) k known (Loading cs)
    one_column c cs v ps k known fresh n few within shape loaded =
        let p = value_path (length ps) in
        let q = loaded_path def c in
        let name = numbered (codes "rows") k in
        let flat = path_laws.numbered_flat (codes "v") (length ps) refl (omega (arith, few)) in
        let beside = All-cons (λ r. is_at_or_below r p ≡ false) mark (place_paths ps) (mark_apart (length ps)) (beside_places (length ps) 0 ps n (omega arith) (omega (arith, few))) in
        let first = operator_laws.upsert shapes (codes "rows") v p table q len (mark ∷ place_paths ps) len k known refl fresh
        (path_laws.attribute_one (118 ∷ decimal (length ps)) flat (omega arith)) small shape
        (one_of known.vectors table len names q (each c (All-head (λ x. x < length def.columns) c cs within)) loaded)
        (path_laws.none_above_one known.vectors v (118 ∷ decimal (length ps)) (codes "mark") len (place_paths ps) flat shape) beside in
        let made = first.holds in
        let next : Loading cs (with_column name (column_of source c) p (base v ps [])) first.after.vectors = record {
          places = ps ++ place source c (length ps) ∷ [];
          is = refl;
          numbered_are = numbered_more 0 ps (place source c (length ps)) n (ap value_path (omega arith));
          few = omega (arith, few, length-append ps (place source c (length ps) ∷ []));
          within = All-tail (λ x. x < length def.columns) c cs within;
          shape = record {
            outline = made.outline;
            known = made.known;
            len_is = made.len_is;
            clear = made.clear;
            shallow = made.shallow;
            each = last_first made.outline.paths (place_paths ps) (place_paths (ps ++ place source c (length ps) ∷ [])) p made.each (map_append (λ (x : ColumnPlace). x.path) ps (place source c (length ps) ∷ []));
          };
          loaded = still_has k known.vectors first.after.vectors table len names fresh first.kept loaded;
        } in
        behind_passes Label Base shapes (make (codes "rows") (with_attribute v p table q)) (λ rows. tell (with_column rows (column_of source c) p (base v ps []))) k known (Shaped len (p ∷ mark ∷ place_paths ps)) (Loading cs) first
        (tell_passes Base shapes (with_column name (column_of source c) p (base v ps [])) (k + 1) first.after (Loading cs) first.fresh next)

    each_column : (c : ℕ) (cs : List ℕ) (b : Base) (k : ℕ) (known : Known) → IsFresh k known.vectors → Loading (c ∷ cs) b known.vectors → Passes shapes (column_in def source table b c) k known (Loading cs)
    each_column c cs b k known fresh l =
        subst (λ (x : Base). Passes shapes (column_in def source table x c) k known (Loading cs)) (sym l.is) (one_column c cs b.vector l.places k known fresh l.numbered_are l.few l.within l.shape l.loaded)

    all_shaped : (b : Base) (known : Shapes) → Loading [] b known → IsShaped len b known
    all_shaped b known l = subst (λ (ps : List Label). HasShape known b.vector len ps) (sym (paths_are b l.places l.is)) l.shape
      where
        append_nil : (xs : List Label) → xs ++ [] ≡ xs
        append_nil [] = refl
        append_nil (x ∷ xs) = ap (λ (l : List Label). x ∷ l) (append_nil xs)

        paths_are : (b : Base) (ps : List ColumnPlace) → b ≡ base b.vector ps [] → paths_of b ≡ mark ∷ place_paths ps
        paths_are b ps e = ap paths_of e ∙ ap (λ (l : List Label). mark ∷ l) (append_nil (place_paths ps))

    columns_pass : (columns : List ℕ) (v : Label) (k : ℕ) (known : Known) → IsFresh k known.vectors → length columns ≤ 64 → All (λ c. c < length def.columns) columns → HasShape known.vectors v len (mark ∷ []) → HasShape known.vectors table len names
        → Passes shapes (through (column_in def source table) (marked_alone v) columns) k known (λ b after. IsShaped len b after)
    columns_pass columns v k known fresh few within shape loaded =
        weaker shapes (through (column_in def source table) (marked_alone v) columns) k known (Loading []) (λ b after. IsShaped len b after) (λ b after kept l. all_shaped b after l)
        (through_passes shapes (column_in def source table) Loading each_column columns (marked_alone v) k known fresh
        (record { places = []; is = refl; numbered_are = tt; few = omega (arith, few); within = within; shape = shape; loaded = loaded }))

-- ---- the table is loaded, and its rows are marked

column_names : (texts : List (List ℕ)) (def : TableDef) (t : Table) → HasColumns def → (c : ℕ) → c < length def.columns → has_name (table_outline texts def t).paths (loaded_path def c) ≡ true
column_names texts def t good c h =
    let f = found def.columns c h in
    let name : IsNamed f.item = subst IsNamed (get_or_from_slice_get def.columns c f.item f.item f.is) (good.named c f.item h) in
    ap (has_name (table_outline texts def t).paths) (loaded_is def c f.item name f.is) ∙ has_column texts def t good c f.item f.is

no_paths : (shapes : Shapes) (a : Label) (len : ℕ) (ps : List Label) → HasShape shapes a len ps → HasShape shapes a len []
no_paths shapes a len ps s = record { outline = s.outline; known = s.known; len_is = s.len_is; clear = s.clear; shallow = s.shallow; each = All-nil (λ q. has_name s.outline.paths q ≡ true) }

pub rows_passes : RowsPasses
rows_passes defs ts n source def t columns db e f h few k known fresh before =
    let texts = (database_of defs ts).dictionary in
    let shapes = outlines (tables (database_of defs ts).store) in
    let o = table_outline texts def t in
    let len = length t.rows in
    let table = numbered (codes "table") k in
    let vector = numbered (codes "rows") (k + 1) in
    let good : HasColumns def = subst HasColumns (get_or_from_slice_get defs n def def e) (has_columns defs db.clean db.formed n def (slice_get_within defs n def e)) in
    let few_rows : length (get_or ts n t).rows ≤ 2 ^ 20 = db.short n t (slice_get_within ts n t f) in
    let short : len ≤ 2 ^ 20 = subst (λ (x : Table). length x.rows ≤ 2 ^ 20) (get_or_from_slice_get ts n t t f) few_rows in
    let small : len ≤ 2 ^ 22 = omega (arith, short) in
    let is : shapes def.name ≡ Some o = ap (option_map outline_of) (table_is defs ts n def t db.clean e f) in
    let first = operator_laws.load shapes (codes "table") def.name o k known refl fresh (table_shape texts def t good shapes is) is small in
    let second = operator_laws.range shapes (codes "rows") (size.Of table) mark ones len (k + 1) first.after refl first.fresh (path_laws.attribute_one (codes "mark") refl (omega arith)) (no_paths first.after.vectors table len o.paths first.holds) small in
    let loaded = still_has (k + 1) first.after.vectors second.after.vectors table len o.paths first.fresh second.kept first.holds in
    let third = columns_pass source def table len o.paths shapes small (column_names texts def t good) columns vector (k + 1 + 1) second.after second.fresh few h second.holds loaded in
    behind_passes Label Base shapes (make (codes "table") (op.Load def.name)) (λ table. marked table >>= λ vector. through (column_in def source table) (marked_alone vector) columns) k known
    (Shaped len o.paths) (λ b after. IsShaped len b after) first
    (behind_passes Label Base shapes (marked table) (λ vector. through (column_in def source table) (marked_alone vector) columns) (k + 1) first.after (Shaped len (mark ∷ [])) (λ b after. IsShaped len b after) second third)
