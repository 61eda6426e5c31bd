-- Folds over the runs of rows: what each gives stands where the groups stand.
use Rattle.std.proofs.Common.{◌≡◌, ◌∙◌, ℕ, ◌≤◌, pos, Bool, true, List, [], ◌∷◌, length, map, get_or, refl, sym, ap, subst, Option, Some, None, Result, Ok, Err, codes}
use Rattle.std.specs.Prelude.{slice_index_or}
use Rattle.std.proofs.lemmas.List.Elements.{All-head, All-nil}
use Rattle.control_vectors.specs.Folds.{fold_slots}
use Rattle.control_vectors.specs.Slots.{Slot, Cell, all_slots}
use Rattle.control_vectors.specs.declared.FoldKind.{FoldKind}
use Rattle.control_vectors.specs.declared.FoldKind.TheVariants as number
use Rattle.control_vectors.specs.declared.Over.{Over}
use Rattle.control_vectors.specs.declared.PairKind.{PairKind}
use Rattle.slot_folds.specs.Folds.{folded}
use Rattle.programs.specs.declared.family.FoldOperator.{FoldOperator}
use Rattle.programs.specs.declared.op.FoldArgs.{FoldArgs}
use Rattle.programs.specs.declared.op.Operand.TheVariants.{Column}
use Rattle.programs.specs.Mentions.{Label}
use Rattle.programs.specs.Vectors.{Vector, Env, slots_of, known, column_of}
use Rattle.programs.specs.Vectors as vectors
use Rattle.voodoo_ops.specs.Attributes.{upserted}
use Rattle.voodoo_ops.specs.Folds as ops
use Rattle.voodoo_ops.specs.Runs.{run_marks}
use Rattle.typed_values.specs.Values.{On}
use Rattle.query_answers.specs.Answers.{FromRow, Group, on_row}
use Rattle.expr_steps.specs.Lowered.{Bytes}
use Rattle.held_groups.specs.Heads.{zero_of}
use Rattle.held_rows.specs.Held.{Held, at, column, Holds}
use Rattle.held_rows.specs.Laws.{both_at}
use Rattle.held_rows.specs.Vectors.{Tells}
use Rattle.held_rows.proofs.Paired.{pair_laws}
use Rattle.held_rows.proofs.Upserted.{first_slots, upsert_holds}
use Rattle.held_runs.specs.Laws.{one_cell}
use Rattle.program_writers.specs.Names.{IsBelow, is_word}
use Rattle.program_writers.specs.Statements.{out, val, run, attribute, with_attribute, fold_args, fold_of, at_places}
use Rattle.program_writers.specs.Statements as statements
use Rattle.program_writers.specs.Writers.{Writer, tell, ◌>>=◌, make}
use Rattle.program_writers.proofs.Numbers.{below_more}
use Rattle.plan_programs.specs.Groups.{Folding, collected}
use Rattle.plan_programs.specs.Groups as groups
use Rattle.plan_programs.specs.Sites.{Base}
use Rattle.writer_runs.specs.Runs.{Makes, Delivers}
use Rattle.writer_runs.proofs.Composed.{makes_tell}
use Rattle.lowered_stages.specs.Stages.{StandsAt}
use Rattle.lowered_groups.proofs.Cells.{cells, absorbed, first_of, first_over_of}
use Rattle.lowered_groups.proofs.Marks.{marks_stay}
use Rattle.lowered_groups.proofs.Parts.{Has, Kept, has_later, is_known, NowHas, delivers_after, delivers_then, makes_upsert, makes_gather, delivers_fold, delivers_pair}

-- ---- columns of what stands at places

-- a vector whose `.out` tells this of rows or groups
pub record Gives {A : Type 0} (k : ℕ) (env : Env) (held : Held A) (name : Label) (f : A → Slot) : Type 0 where
  pub vector : Vector
  pub has : Has k env name vector
  pub len : vector.len ≡ length held
  pub slots : slots_of vector.attributes out ≡ column f held

pub gives_column : {A : Type 0} (k : ℕ) (env : Env) (held : Held A) (name : Label) (f : A → Slot) → Has k env name (vectors.column out (length held) (column f held)) → Gives k env held name f
gives_column k env held name f h = record { vector = vectors.column out (length held) (column f held); has = h; len = refl; slots = first_slots out (column f held) [] }

abbrev pub gives_later : {A : Type 0} (k next : ℕ) (before after : Env) (held : Held A) (name : Label) (f : A → Slot) → k ≤ next → Kept k before after → Gives k before held name f → Gives next after held name f
gives_later k next before after held name f more kept g = record { vector = g.vector; has = has_later k next before after name g.vector more kept g.has; len = g.len; slots = g.slots }

-- an attribute of a vector, as slot-wise operators read it
pub tells_of : {A : Type 0} (k : ℕ) (env : Env) (held : Held A) (name p : Label) (v : Vector) (f : A → Slot) → Has k env name v → v.len ≡ length held → slots_of v.attributes p ≡ column f held → Tells env name p f held
tells_of k env held name p v f h len slots =
    let same : known (env name) ≡ v = is_known k env name v h in
    record { len = ap (λ (x : Vector). x.len) same ∙ len; slots = ap (λ (x : Vector). slots_of x.attributes p) same ∙ slots }

pub gives_tells : {A : Type 0} (k : ℕ) (env : Env) (held : Held A) (name : Label) (f : A → Slot) → Gives k env held name f → Tells env name out f held
gives_tells k env held name f g = tells_of k env held name out g.vector f g.has g.len g.slots

-- ---- slot by slot

pub pair_makes : {A : Type 0} (store : Env) (word : Label) (k : ℕ) (env : Env) (kind : PairKind) (n p m q : Label) (held : Held A) (f g h : A → Slot) → is_word word ≡ true
    → Tells env n p f held → Tells env m q g held → ((r : Option A) → both_at kind f g r ≡ Ok (at h r))
    → Makes store (make word (statements.pair kind (attribute n p) (attribute m q))) k env (NowHas (vectors.column out (length held) (column h held)))
pair_makes {A} store word k env kind n p m q held f g h w t u are =
    let made = pair_laws.made kind env n p m q out held f g h t u (λ i d l. are (get_or held i d)) in
    subst (λ (r : Result Vector Over). Delivers store (make word (statements.pair kind (attribute n p) (attribute m q))) k env r NowHas) made
    (delivers_pair store word k env w kind (record { x = Column n p; y = Column m q; out = out }))

-- ---- what aggregates are folded over

-- one group, at the one place of its vector
pub record OneFold (k : ℕ) (env : Env) (first : Label) (rows : Held FromRow) (gs : Held Group) (marks : List Bool) : Type 0 where
  pub group : Group
  pub alone : gs ≡ Some group ∷ []
  pub none : length rows ≡ 0 → group.rows ≡ []
  pub first_is : Has k env first (vectors.column out 1 (Some (pos 0) ∷ []))
  pub cells_are : (kind : FoldKind) (g : FromRow → Slot) → folded kind marks (column g rows) ≡ one_cell (length rows) (fold_slots kind (map g group.rows))

-- the fold of the rows of a group
abbrev pub fold_cell : FoldKind → (FromRow → Slot) → Group → Cell
fold_cell kind g group = fold_slots kind (map g group.rows)

-- each group where its run begins
pub record EachFold (rows : Held FromRow) (gs : Held Group) (marks : List Bool) : Type 0 where
  pub len : length gs ≡ length rows
  pub cells_are : (kind : FoldKind) (g : FromRow → Slot) → folded kind marks (column g rows) ≡ cells (fold_cell kind g) gs

abbrev pub Collects : ℕ → Env → Option Label → Held FromRow → Held Group → List Bool → Type 0
Collects k env None rows gs marks = EachFold rows gs marks
Collects k env (Some first) rows gs marks = OneFold k env first rows gs marks

abbrev pub zero_row : FromRow → Slot
zero_row r = Some (pos 0)

-- rows stand at a folding's rows, and the groups' folds come to stand at their places
pub record IsFolding (texts : List Bytes) (k : ℕ) (env : Env) (f : Folding) (rows : Held FromRow) (gs : Held Group) : Type 0 where
  pub stands : StandsAt texts env f.rows on_row rows
  pub rows_below : IsBelow k f.rows.vector
  pub nought : Gives k env rows f.nought zero_row
  pub runs : Vector
  pub runs_has : Has k env f.runs runs
  pub runs_len : runs.len ≡ length rows
  pub zero : Gives k env gs f.zero zero_of
  pub folds : Collects k env f.first rows gs (run_marks runs run)

abbrev collects_later : (k next : ℕ) (before after : Env) (first : Option Label) (rows : Held FromRow) (gs : Held Group) (marks : List Bool) → k ≤ next → Kept k before after → Collects k before first rows gs marks → Collects next after first rows gs marks
collects_later k next before after None rows gs marks more kept c = c
collects_later k next before after (Some first) rows gs marks more kept c = record {
  group = c.group;
  alone = c.alone;
  none = c.none;
  first_is = has_later k next before after first (vectors.column out 1 (Some (pos 0) ∷ [])) more kept c.first_is;
  cells_are = c.cells_are;
}

abbrev pub stands_later : {A : Type 0} (texts : List Bytes) (on : A → On) (k : ℕ) (before after : Env) (b : Base) (held : Held A) → IsBelow k b.vector → Kept k before after → StandsAt texts before b on held → StandsAt texts after b on held
stands_later texts on k before after b held below kept s = record { vector = s.vector; sees = kept b.vector below ∙ s.sees; holds = s.holds }

abbrev pub folding_later : (texts : List Bytes) (k next : ℕ) (before after : Env) (f : Folding) (rows : Held FromRow) (gs : Held Group) → k ≤ next → Kept k before after → IsFolding texts k before f rows gs → IsFolding texts next after f rows gs
folding_later texts k next before after f rows gs more kept i = record {
  stands = stands_later texts on_row k before after f.rows rows i.rows_below kept i.stands;
  rows_below = below_more k next f.rows.vector more i.rows_below;
  nought = gives_later k next before after rows f.nought zero_row more kept i.nought;
  runs = i.runs;
  runs_has = has_later k next before after f.runs i.runs more kept i.runs_has;
  runs_len = i.runs_len;
  zero = gives_later k next before after gs f.zero zero_of more kept i.zero;
  folds = collects_later k next before after f.first rows gs (run_marks i.runs run) more kept i.folds;
}

-- ---- the fold of a value

-- cells come to stand at the groups' places, or one of them is Over
abbrev pub NowCells : Held Group → List Slot → Label → ℕ → Env → Type 0
NowCells gs slots name next after = Has next after name (vectors.column out (length gs) slots)

abbrev pub MakesCells : Env → Writer Label → ℕ → Env → Held Group → (Group → Cell) → Type 0
MakesCells store m k env gs c = Delivers store m k env (all_slots (cells c gs)) (NowCells gs)

-- where the folds of runs are these slots
collected_makes : (store : Env) (first : Option Label) (fold : Label) (k : ℕ) (env : Env) (rows : Held FromRow) (gs : Held Group) (marks : List Bool) (kind : FoldKind) (g : FromRow → Slot) (xs : List Slot)
    → Collects k env first rows gs marks → all_slots (folded kind marks (column g rows)) ≡ Ok xs → Has k env fold (vectors.column out (length rows) xs) → MakesCells store (collected first fold) k env gs (fold_cell kind g)
collected_makes store None fold k env rows gs marks kind g xs c e h =
    subst (λ (r : Result (List Slot) Over). Delivers store (tell fold) k env r (NowCells gs)) (sym e ∙ ap all_slots (c.cells_are kind g))
    (makes_tell Label store fold k env (NowCells gs xs) (subst (λ (n : ℕ). Has k env fold (vectors.column out n xs)) (sym c.len) h))
collected_makes store (Some first) fold k env rows gs marks kind g xs c e h =
    let x = fold_cell kind g c.group in
    let y = slice_index_or xs 0 None in
    let none : length rows ≡ 0 → x ≡ Ok None = λ n. nothing kind (ap (λ (l : List FromRow). map g l) (c.none n)) in
    let is : all_slots (x ∷ []) ≡ Ok (y ∷ []) = first_of (length rows) x none xs (sym (ap all_slots (c.cells_are kind g)) ∙ e) in
    subst (λ (l : Held Group). MakesCells store (collected (Some first) fold) k env l (fold_cell kind g)) (sym c.alone)
    (subst (λ (r : Result (List Slot) Over). Delivers store (make (codes "one") (at_places fold first)) k env r (NowCells (Some c.group ∷ []))) (sym is)
    (makes_gather store (codes "one") k env refl fold first (vectors.column out (length rows) xs) (vectors.column out 1 (Some (pos 0) ∷ [])) h c.first_is))
  where
    nothing : (kind : FoldKind) {slots : List Slot} → slots ≡ [] → fold_slots kind slots ≡ Ok None
    nothing number.Sum n = ap (fold_slots number.Sum) n
    nothing number.Min n = ap (fold_slots number.Min) n
    nothing number.Max n = ap (fold_slots number.Max) n

-- and where one of these is Over, one of the groups' is
collected_over : (k : ℕ) (env : Env) (first : Option Label) (rows : Held FromRow) (gs : Held Group) (marks : List Bool) (kind : FoldKind) (g : FromRow → Slot) (e : Over)
    → Collects k env first rows gs marks → all_slots (folded kind marks (column g rows)) ≡ Err e → all_slots (cells (fold_cell kind g) gs) ≡ Err e
collected_over k env None rows gs marks kind g e c h = sym (ap all_slots (c.cells_are kind g)) ∙ h
collected_over k env (Some first) rows gs marks kind g e c h =
    subst (λ (l : Held Group). all_slots (cells (fold_cell kind g) l) ≡ Err e) (sym c.alone)
    (first_over_of (length rows) (fold_cell kind g c.group) e (sym (ap all_slots (c.cells_are kind g)) ∙ h))

column_made : (store : Env) (m : Writer Label) (k : ℕ) (env : Env) (n : ℕ) (r : Result (List Slot) Over) → Delivers store m k env (column_of out n r) NowHas → Delivers store m k env r (λ xs. NowHas (vectors.column out n xs))
column_made store m k env n (Ok xs) d = d
column_made store m k env n (Err e) d = d

module _ (store : Env) (texts : List Bytes) (f : Folding) (rows : Held FromRow) (gs : Held Group) where
  fold_makes : (k : ℕ) (env : Env) (i : IsFolding texts k env f rows gs) (op : FoldOperator) (kind : FoldKind) (same : (v : Vector) (a : FoldArgs) → ops.folded_by op v a ≡ ops.fold kind v a) (values : Label) (v : Vector) (g : FromRow → Slot)
      → slots_of v.attributes out ≡ column g rows → Has k env values (upserted i.runs val v out)
      → Delivers store (make (codes "fold") (fold_of op (fold_args values))) k env (all_slots (folded kind (run_marks i.runs run) (column g rows))) (λ xs. NowHas (vectors.column out (length rows) xs))
  fold_makes k env i op kind same values v g slots h =
      let u = upserted i.runs val v out in
      let holds : Holds u rows ((val, g) ∷ []) = upsert_holds i.runs v val out rows g [] (record { len = i.runs_len; each = All-nil (λ t. slots_of i.runs.attributes t.0 ≡ column t.1 rows) }) slots (All-nil _) in
      let value_is : slots_of u.attributes val ≡ column g rows = All-head (λ t. slots_of u.attributes t.0 ≡ column t.1 rows) (val, g) [] holds.each in
      column_made store (make (codes "fold") (fold_of op (fold_args values))) k env (length rows) (all_slots (folded kind (run_marks i.runs run) (column g rows)))
      (subst (λ (r : Result Vector Over). Delivers store (make (codes "fold") (fold_of op (fold_args values))) k env r NowHas)
      (same u (fold_args values)
      ∙ ap (λ (n : ℕ). column_of out n (all_slots (folded kind (run_marks u run) (slots_of u.attributes val)))) holds.len
      ∙ ap (λ (l : List Bool). column_of out (length rows) (all_slots (folded kind l (slots_of u.attributes val)))) (marks_stay i.runs v out)
      ∙ ap (λ (l : List Slot). column_of out (length rows) (all_slots (folded kind (run_marks i.runs run) l))) value_is)
      (delivers_fold store (codes "fold") k env refl op (fold_args values) u h))

  pub folded_makes : (k : ℕ) (env : Env) → IsFolding texts k env f rows gs → (op : FoldOperator) (kind : FoldKind) → ((v : Vector) (a : FoldArgs) → ops.folded_by op v a ≡ ops.fold kind v a) → (value : Label) (g : FromRow → Slot)
      → Gives k env rows value g → MakesCells store (groups.folded f op value) k env gs (fold_cell kind g)
  folded_makes k env i op kind same value g gives =
      delivers_after store (make (codes "values") (with_attribute f.runs val value out)) (λ values. make (codes "fold") (fold_of op (fold_args values)) >>= collected f.first) k env
      (NowHas (upserted i.runs val gives.vector out)) (all_slots (cells (fold_cell kind g) gs)) (NowCells gs)
      (makes_upsert store (codes "values") k env refl f.runs val value out i.runs gives.vector i.runs_has gives.has)
      (λ values next between more has kept.
      let j = folding_later texts k next env between f rows gs more kept i in
      let runs_folded = all_slots (folded kind (run_marks i.runs run) (column g rows)) in
      subst (λ (r : Result (List Slot) Over). Delivers store (make (codes "fold") (fold_of op (fold_args values)) >>= collected f.first) next between r (NowCells gs))
      (absorbed runs_folded (all_slots (cells (fold_cell kind g) gs)) (λ e over. collected_over next between f.first rows gs (run_marks i.runs run) kind g e j.folds over))
      (delivers_then store (make (codes "fold") (fold_of op (fold_args values))) (collected f.first) next between runs_folded (λ xs. NowHas (vectors.column out (length rows) xs)) (λ xs. all_slots (cells (fold_cell kind g) gs)) (NowCells gs)
      (fold_makes next between j op kind same values gives.vector g gives.slots has)
      (λ xs e fold later after on here left.
      collected_makes store f.first fold later after rows gs (run_marks i.runs run) kind g xs (collects_later next later between after f.first rows gs (run_marks i.runs run) on left j.folds) e here)))
