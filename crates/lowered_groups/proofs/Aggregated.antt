-- Aggregates of the values of rows: counts, totals, means, least and greatest.
use Rattle.std.proofs.Common.{◌≡◌, ◌∙◌, ℕ, min, pos, true, List, [], ◌∷◌, length, map, refl, sym, ap, subst, arith, Option, Some, None, Result, Ok, Err, codes}
use Rattle.std.proofs.lemmas.Simd.{map-map}
use Rattle.control_vectors.specs.Folds.{fold_slots}
use Rattle.control_vectors.specs.Slots.{Slot, Cell, all_slots}
use Rattle.control_vectors.specs.declared.FoldKind.TheVariants as number
use Rattle.control_vectors.specs.declared.Over.{Over}
use Rattle.control_vectors.specs.declared.PairKind.{PairKind}
use Rattle.control_vectors.specs.declared.PairKind.TheVariants as pair
use Rattle.slot_wise.specs.Pairs.{pair_slot}
use Rattle.programs.specs.declared.family.FoldOperator.TheVariants as fold
use Rattle.programs.specs.declared.op.Operand.TheVariants.{Column}
use Rattle.programs.specs.Mentions.{Label}
use Rattle.programs.specs.Vectors.{Vector, Env, known, column_of}
use Rattle.programs.specs.Vectors as vectors
use Rattle.voodoo_ops.specs.Slotwise.{pair_cells}
use Rattle.typed_trees.specs.declared.typed.AggregateKind.{AggregateKind}
use Rattle.typed_trees.specs.declared.typed.AggregateKind.TheVariants as of
use Rattle.query_answers.specs.Answers.{FromRow, Group}
use Rattle.expr_steps.specs.Lowered.{Bytes}
use Rattle.held_groups.specs.Aggregates.{pair_cell, nought, there, cell_of_aggregate}
use Rattle.held_groups.specs.Heads.{zero_of}
use Rattle.held_groups.proofs.Aggregates.{there_law}
use Rattle.held_rows.specs.Held.{Held, at, column}
use Rattle.held_rows.specs.Laws.{both_at}
use Rattle.held_rows.specs.Vectors.{Tells}
use Rattle.held_rows.proofs.Paired.{pair_laws}
use Rattle.program_writers.specs.Names.{is_word}
use Rattle.program_writers.specs.Statements.{out, attribute}
use Rattle.program_writers.specs.Statements as statements
use Rattle.program_writers.specs.Writers.{Writer, ◌>>=◌, make}
use Rattle.plan_programs.specs.Groups.{Folding, folded, is_there, counted, count, mean, aggregated}
use Rattle.writer_runs.specs.Runs.{Makes, Delivers}
use Rattle.writer_runs.proofs.Composed.{makes_bind}
use Rattle.lowered_groups.proofs.Cells.{cells, slot_of, absorbed, AreOk, ok_cells, paired_cell, both_cells, first_spreads, second_spreads}
use Rattle.lowered_groups.proofs.Folds.{Gives, gives_column, gives_later, gives_tells, pair_makes, IsFolding, folding_later, fold_cell, zero_row, NowCells, MakesCells, folded_makes}
use Rattle.lowered_groups.proofs.Parts.{Has, NowHas, delivers_after, delivers_then, delivers_pair}

-- ---- two columns, where a place may be Over

same_min : (n : ℕ) → min n n ≡ n
same_min n = omega arith

column_made : (store : Env) (m : Writer Label) (k : ℕ) (env : Env) (n : ℕ) (r : Result (List Slot) Over) → Delivers store m k env (column_of out n r) NowHas → Delivers store m k env r (λ xs. NowHas (vectors.column out n xs))
column_made store m k env n (Ok xs) d = d
column_made store m k env n (Err e) d = d

pub pair_delivers : {A : Type 0} (store : Env) (word : Label) (k : ℕ) (env : Env) (kind : PairKind) (n m : Label) (held : Held A) (f g : A → Slot) (ys : List Cell) → is_word word ≡ true
    → Tells env n out f held → Tells env m out g held → map (both_at kind f g) held ≡ ys
    → Delivers store (make word (statements.pair kind (attribute n out) (attribute m out))) k env (all_slots ys) (λ xs. NowHas (vectors.column out (length held) xs))
pair_delivers {A} store word k env kind n m held f g ys w t u are =
    let long : min (known (env n)).len (known (env m)).len ≡ length held = ap (λ (l : ℕ). min l (known (env m)).len) t.len ∙ ap (min (length held)) u.len ∙ same_min (length held) in
    column_made store (make word (statements.pair kind (attribute n out) (attribute m out))) k env (length held) (all_slots ys)
    (subst (λ (r : Result Vector Over). Delivers store (make word (statements.pair kind (attribute n out) (attribute m out))) k env r NowHas)
    (ap (λ (l : ℕ). column_of out l (all_slots (pair_cells kind env (Column n out) (Column m out)))) long
    ∙ ap (λ (l : List Cell). column_of out (length held) (all_slots l)) (pair_laws.cells kind env n out m out held f g t u ∙ are))
    (delivers_pair store word k env w kind (record { x = Column n out; y = Column m out; out = out })))

-- cells that stand at places are slots where none is Over
pub gives_cells : (k : ℕ) (env : Env) (gs : Held Group) (c : Group → Cell) (xs : List Slot) (name : Label) → all_slots (cells c gs) ≡ Ok xs → Has k env name (vectors.column out (length gs) xs) → Gives k env gs name (λ g. slot_of (c g))
gives_cells k env gs c xs name e h = gives_column k env gs name (λ g. slot_of (c g)) (subst (λ (l : List Slot). Has k env name (vectors.column out (length gs) l)) (ok_cells c gs xs e).1 h)

nought_ok : (gs : Held Group) → AreOk (λ (g : Group). nought) gs
nought_ok [] = tt
nought_ok (None ∷ gs) = nought_ok gs
nought_ok (Some g ∷ gs) = (refl, nought_ok gs)

-- an aggregate of the rows of a group
abbrev pub aggregate_cell : AggregateKind → (FromRow → Slot) → Group → Cell
aggregate_cell kind g group = cell_of_aggregate kind (map g group.rows)

-- ---- what is there of a value

same_slot : Slot → Slot
same_slot x = slot_of (pair_slot pair.Equals x x)

is_same : (x : Slot) → pair_slot pair.Equals x x ≡ Ok (same_slot x)
unfolding same_slot
is_same None = refl
is_same (Some z) = refl

same_there : (x : Slot) → pair_slot pair.Fill (same_slot x) (Some (pos 0)) ≡ Ok (there x)
unfolding same_slot
same_there None = there_law None
same_there (Some z) = there_law (Some z)

module _ (store : Env) (texts : List Bytes) (f : Folding) (rows : Held FromRow) (gs : Held Group) where
  there_makes : (k : ℕ) (env : Env) → IsFolding texts k env f rows gs → (value : Label) (g : FromRow → Slot) → Gives k env rows value g
      → Makes store (is_there f value) k env (λ name next after. Gives next after rows name (λ r. there (g r)))
  there_makes k env i value g gives =
      makes_bind Label Label store (make (codes "same") (statements.pair pair.Equals (attribute value out) (attribute value out))) (λ same. make (codes "there") (statements.pair pair.Fill (attribute same out) (attribute f.nought out))) k env
      (NowHas (vectors.column out (length rows) (column (λ r. same_slot (g r)) rows))) (λ name next after. Gives next after rows name (λ r. there (g r)))
      (pair_makes store (codes "same") k env pair.Equals value out value out rows g g (λ r. same_slot (g r)) refl tells tells equal)
      (λ same next between more has kept.
      let first = gives_column next between rows same (λ r. same_slot (g r)) has in
      let zero = gives_later k next env between rows f.nought zero_row more kept i.nought in
      given next between
      (pair_makes store (codes "there") next between pair.Fill same out f.nought out rows (λ r. same_slot (g r)) zero_row (λ r. there (g r)) refl
      (gives_tells next between rows same (λ r. same_slot (g r)) first) (gives_tells next between rows f.nought zero_row zero) filled))
    where
      tells : Tells env value out g rows
      tells = gives_tells k env rows value g gives

      equal : (r : Option FromRow) → both_at pair.Equals g g r ≡ Ok (at (λ r. same_slot (g r)) r)
      equal None = refl
      equal (Some r) = is_same (g r)

      filled : (r : Option FromRow) → both_at pair.Fill (λ r. same_slot (g r)) zero_row r ≡ Ok (at (λ r. there (g r)) r)
      filled None = refl
      filled (Some r) = same_there (g r)

      given : (next : ℕ) (between : Env) {m : Writer Label} → Makes store m next between (NowHas (vectors.column out (length rows) (column (λ r. there (g r)) rows))) → Makes store m next between (λ name l after. Gives l after rows name (λ r. there (g r)))
      given next between {m} made = record {
        after = made.after;
        ran = made.ran;
        holds = gives_column (m next).next made.after rows (m next).told (λ r. there (g r)) made.holds;
        kept = made.kept;
        ascends = made.ascends;
      }

  total_makes : (k : ℕ) (env : Env) → IsFolding texts k env f rows gs → (value : Label) (g : FromRow → Slot) → Gives k env rows value g → MakesCells store (folded f fold.Sum value) k env gs (fold_cell number.Sum g)
  total_makes k env i value g gives = folded_makes store texts f rows gs k env i fold.Sum number.Sum (λ v a. refl) value g gives

  -- how many are there
  abbrev there_cell : (FromRow → Slot) → Group → Cell
  there_cell g = fold_cell number.Sum (λ r. there (g r))

  counted_makes : (k : ℕ) (env : Env) → IsFolding texts k env f rows gs → (value : Label) (g : FromRow → Slot) → Gives k env rows value g → MakesCells store (counted f value) k env gs (there_cell g)
  counted_makes k env i value g gives =
      delivers_after store (is_there f value) (folded f fold.Sum) k env (λ name next after. Gives next after rows name (λ r. there (g r))) (all_slots (cells (there_cell g) gs)) (NowCells gs)
      (there_makes k env i value g gives)
      (λ name next between more has kept. total_makes next between (folding_later texts k next env between f rows gs more kept i) name (λ r. there (g r)) has)

  abbrev count_cell : (FromRow → Slot) → Group → Cell
  count_cell g = paired_cell pair.Fill (there_cell g) (λ group. nought)

  count_makes : (k : ℕ) (env : Env) → IsFolding texts k env f rows gs → (value : Label) (g : FromRow → Slot) → Gives k env rows value g → MakesCells store (count f value) k env gs (count_cell g)
  count_makes k env i value g gives =
      let c = there_cell g in
      let d = λ (group : Group). nought in
      subst (λ (r : Result (List Slot) Over). Delivers store (count f value) k env r (NowCells gs))
      (absorbed (all_slots (cells c gs)) (all_slots (cells (count_cell g) gs)) (λ e over. first_spreads pair.Fill c d gs e over))
      (delivers_then store (counted f value) (λ n. make (codes "count") (statements.pair pair.Fill (attribute n out) (attribute f.zero out))) k env (all_slots (cells c gs)) (NowCells gs)
      (λ xs. all_slots (cells (count_cell g) gs)) (NowCells gs) (counted_makes k env i value g gives)
      (λ xs e n next between more has kept.
      let zero = gives_later k next env between gs f.zero zero_of more kept i.zero in
      pair_delivers store (codes "count") next between pair.Fill n f.zero gs (λ group. slot_of (c group)) zero_of (cells (count_cell g) gs) refl
      (gives_tells next between gs n (λ group. slot_of (c group)) (gives_cells next between gs c xs n e has)) (gives_tells next between gs f.zero zero_of zero)
      (both_cells pair.Fill c d gs refl (ok_cells c gs xs e).0 (nought_ok gs))))

  abbrev mean_cell : (FromRow → Slot) → Group → Cell
  mean_cell g = paired_cell pair.Divide (fold_cell number.Sum g) (there_cell g)

  -- the total is there already
  mean_behind : (k : ℕ) (env : Env) → IsFolding texts k env f rows gs → (value total : Label) (g : FromRow → Slot) → Gives k env rows value g → Gives k env gs total (λ group. slot_of (fold_cell number.Sum g group)) → AreOk (fold_cell number.Sum g) gs
      → MakesCells store (counted f value >>= λ n. make (codes "mean") (statements.pair pair.Divide (attribute total out) (attribute n out))) k env gs (mean_cell g)
  mean_behind k env i value total g gives sum fine =
      let c = fold_cell number.Sum g in
      let d = there_cell g in
      subst (λ (r : Result (List Slot) Over). Delivers store (counted f value >>= λ n. make (codes "mean") (statements.pair pair.Divide (attribute total out) (attribute n out))) k env r (NowCells gs))
      (absorbed (all_slots (cells d gs)) (all_slots (cells (mean_cell g) gs)) (λ e over. second_spreads pair.Divide c d gs e over))
      (delivers_then store (counted f value) (λ n. make (codes "mean") (statements.pair pair.Divide (attribute total out) (attribute n out))) k env (all_slots (cells d gs)) (NowCells gs)
      (λ xs. all_slots (cells (mean_cell g) gs)) (NowCells gs) (counted_makes k env i value g gives)
      (λ xs e n next between more has kept.
      pair_delivers store (codes "mean") next between pair.Divide total n gs (λ group. slot_of (c group)) (λ group. slot_of (d group)) (cells (mean_cell g) gs) refl
      (gives_tells next between gs total (λ group. slot_of (c group)) (gives_later k next env between gs total (λ group. slot_of (c group)) more kept sum))
      (gives_tells next between gs n (λ group. slot_of (d group)) (gives_cells next between gs d xs n e has))
      (both_cells pair.Divide c d gs refl fine (ok_cells d gs xs e).0)))

  mean_makes : (k : ℕ) (env : Env) → IsFolding texts k env f rows gs → (value : Label) (g : FromRow → Slot) → Gives k env rows value g → MakesCells store (mean f value) k env gs (mean_cell g)
  mean_makes k env i value g gives =
      let c = fold_cell number.Sum g in
      subst (λ (r : Result (List Slot) Over). Delivers store (mean f value) k env r (NowCells gs))
      (absorbed (all_slots (cells c gs)) (all_slots (cells (mean_cell g) gs)) (λ e over. first_spreads pair.Divide c (there_cell g) gs e over))
      (delivers_then store (folded f fold.Sum value) (λ total. counted f value >>= λ n. make (codes "mean") (statements.pair pair.Divide (attribute total out) (attribute n out))) k env (all_slots (cells c gs)) (NowCells gs)
      (λ xs. all_slots (cells (mean_cell g) gs)) (NowCells gs) (total_makes k env i value g gives)
      (λ xs e total next between more has kept.
      mean_behind next between (folding_later texts k next env between f rows gs more kept i) value total g (gives_later k next env between rows value g more kept gives)
      (gives_cells next between gs c xs total e has) (ok_cells c gs xs e).0))

  -- ---- an aggregate

  there_is : (g : FromRow → Slot) (group : Group) → there_cell g group ≡ fold_slots number.Sum (map there (map g group.rows))
  there_is g group = ap (fold_slots number.Sum) (sym (map-map there g group.rows))

  pub aggregated_makes : (k : ℕ) (env : Env) → IsFolding texts k env f rows gs → (kind : AggregateKind) (value : Label) (g : FromRow → Slot) → Gives k env rows value g → MakesCells store (aggregated f kind value) k env gs (aggregate_cell kind g)
  aggregated_makes k env i of.Sum value g gives = total_makes k env i value g gives
  aggregated_makes k env i of.Min value g gives = folded_makes store texts f rows gs k env i fold.Min number.Min (λ v a. refl) value g gives
  aggregated_makes k env i of.Max value g gives = folded_makes store texts f rows gs k env i fold.Max number.Max (λ v a. refl) value g gives
  aggregated_makes k env i of.Count value g gives =
      let same : count_cell g ≡ aggregate_cell of.Count g = λ j group. pair_cell pair.Fill (there_is g group j) nought in
      subst (MakesCells store (count f value) k env gs) same (count_makes k env i value g gives)
  aggregated_makes k env i of.Avg value g gives =
      let same : mean_cell g ≡ aggregate_cell of.Avg g = λ j group. pair_cell pair.Divide (fold_cell number.Sum g group) (there_is g group j) in
      subst (MakesCells store (mean f value) k env gs) same (mean_makes k env i value g gives)
