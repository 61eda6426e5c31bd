-- Conditions over the rows that stand at a base: a slot for each row, which holds where each of them is true.
use Rattle.std.proofs.Common.{◌≡◌, ◌∙◌, ℕ, List, [], ◌∷◌, ◌++◌, length, refl, sym, ap, subst, append-nil, append_assoc, Option, Some, Result, codes}
use Rattle.std.specs.List.{All}
use Rattle.std.proofs.lemmas.List.Elements.{All-head, All-tail}
use Rattle.control_vectors.specs.Slots.{Slot}
use Rattle.control_vectors.specs.declared.Over.{Over}
use Rattle.control_vectors.specs.declared.PairKind.TheVariants as pair_kind
use Rattle.programs.specs.Mentions.{Label}
use Rattle.programs.specs.Vectors.{Vector, Env, slots_of, known}
use Rattle.programs.specs.Vectors as vectors
use Rattle.typed_trees.specs.declared.typed.TypedExpr.{TypedExpr}
use Rattle.typed_trees.specs.Types.{DataType}
use Rattle.typed_values.specs.Values.{On, value}
use Rattle.query_answers.specs.Overs.{each}
use Rattle.expr_steps.specs.Lowered.{Bytes}
use Rattle.held_rows.specs.Held.{Held, present, column, one}
use Rattle.held_rows.specs.Vectors.{Tells as Told}
use Rattle.held_rows.proofs.Paired.{pair_laws}
use Rattle.held_values.specs.Lifted.{values_told}
use Rattle.held_values.specs.Truths.{truths_told, all_evaluated}
use Rattle.held_values.proofs.Truths.{truth_laws}
use Rattle.program_writers.specs.Names.{IsBelow}
use Rattle.program_writers.specs.Statements.{out, mark, pair, attribute}
use Rattle.program_writers.specs.Writers.{Writer, make, through}
use Rattle.program_writers.proofs.Numbers.{below_more}
use Rattle.plan_programs.specs.Sites.{Base, value_of}
use Rattle.plan_programs.specs.Rows.{everywhere, and_true}
use Rattle.writer_runs.specs.Runs.{Makes, Delivers, Sees}
use Rattle.writer_runs.proofs.Composed.{makes_tell, makes_one}
use Rattle.lowered_stages.specs.Laws.{Tells}
use Rattle.lowered_stages.specs.Stages.{StandsAt}
use Rattle.lowered_stages.specs.Parts.{CanValue, CanValueAll}
use Rattle.lowered_kept.specs.Values.{ValueRuns}
use Rattle.lowered_kept.proofs.Delivering.{makes_more, delivers_bind, delivers_makes}
use Rattle.lowered_kept.proofs.Valued.{mark_held}

module _ {A : Type 0} (held : Held A) where
  -- what a vector tells is what operators read of it
  pub read_of : (f : A → Slot) (name : Label) (env : Env) → Tells held f name env → Told env name out f held
  read_of f name env t = record {
    len = ap (λ (o : Option Vector). (known o).len) t.sees ∙ t.len;
    slots = ap (λ (o : Option Vector). slots_of (known o).attributes out) t.sees ∙ t.slots;
  }

  -- it tells the same where its name is left alone
  pub tells_still : (f : A → Slot) (k : ℕ) (name : Label) (env after : Env) → ((n : Label) → IsBelow k n → after n ≡ env n) → IsBelow k name → Tells held f name env → Tells held f name after
  tells_still f k name env after kept below t = record { vector = t.vector; sees = kept name below ∙ t.sees; len = t.len; slots = t.slots }

module _ {A : Type 0} (texts : List Bytes) (on : A → On) (held : Held A) (b : Base) where
  pub stands_still : (k : ℕ) (env after : Env) → ((n : Label) → IsBelow k n → after n ≡ env n) → IsBelow k b.vector → StandsAt texts env b on held → StandsAt texts after b on held
  stands_still k env after kept below st = record { vector = st.vector; sees = kept b.vector below ∙ st.sees; holds = st.holds }

  -- what so many conditions make of each row
  abbrev pub IsTruth : List TypedExpr → Label → ℕ → Env → Type 0
  IsTruth parts name next after = IsBelow next name × Tells held (truths_told texts on parts) name after

  mark_read : (env : Env) → StandsAt texts env b on held → Told env b.vector mark one held
  mark_read env st = record {
    len = ap (λ (o : Option Vector). (known o).len) st.sees ∙ st.holds.len;
    slots = ap (λ (o : Option Vector). slots_of (known o).attributes mark) st.sees ∙ mark_held texts on held st.vector b st.holds.each;
  }

  pub everywhere_makes : (store env : Env) (k : ℕ) → StandsAt texts env b on held → Makes store (everywhere b) k env (IsTruth [])
  everywhere_makes store env k st =
      let v = vectors.column out (length held) (column (truths_told texts on []) held) in
      let read = mark_read env st in
      let made = pair_laws.made pair_kind.Equals env b.vector mark b.vector mark out held one one one read read (truth_laws.first held) in
      makes_more store (everywhere b) k env (λ name next after. Sees after name v × IsBelow next name) (IsTruth [])
      (λ name next after h. (h.1, record { vector = v; sees = h.0; len = refl; slots = refl }))
      (makes_one store (codes "all") (pair pair_kind.Equals (attribute b.vector mark) (attribute b.vector mark)) k env v refl (ap (λ (r : Result Vector Over). Some r) made))

  module _ (values : ValueRuns) (at : ℕ → Option DataType) (store : Env) where
    abbrev and_op : Label → Label → Writer Label
    and_op all x = make (codes "all") (pair pair_kind.LogicalAnd (attribute all out) (attribute x out))

    and_makes : (done : List TypedExpr) (e : TypedExpr) (all x : Label) (k : ℕ) (env : Env) → Tells held (truths_told texts on done) all env → Tells held (values_told texts on e) x env → Makes store (and_op all x) k env (IsTruth (done ++ e ∷ []))
    and_makes done e all x k env told more =
        let f = truths_told texts on (done ++ e ∷ []) in
        let v = vectors.column out (length held) (column f held) in
        let made =
        pair_laws.made pair_kind.LogicalAnd env all out x out out held (truths_told texts on done) (values_told texts on e) f (read_of held (truths_told texts on done) all env told) (read_of held (values_told texts on e) x env more)
        (truth_laws.more texts on done e held)
        in
        makes_more store (and_op all x) k env (λ name next after. Sees after name v × IsBelow next name) (IsTruth (done ++ e ∷ []))
        (λ name next after h. (h.1, record { vector = v; sees = h.0; len = refl; slots = refl }))
        (makes_one store (codes "all") (pair pair_kind.LogicalAnd (attribute all out) (attribute x out)) k env v refl (ap (λ (r : Result Vector Over). Some r) made))

    and_delivers : (done : List TypedExpr) (e : TypedExpr) (all : Label) (k : ℕ) (env : Env) → CanValue at b e → CanValueAll texts at on (present held) e → IsBelow k b.vector → StandsAt texts env b on held → IsTruth done all k env
        → Delivers store (and_true texts b all e) k env (each (λ a. value (on a) e) (present held)) (λ xs. IsTruth (done ++ e ∷ []))
    and_delivers done e all k env can stand below st truth =
        delivers_makes store (value_of texts (codes "where") b e) (and_op all) k env (each (λ a. value (on a) e) (present held))
        (λ xs name next after. IsBelow next name × Tells held (values_told texts on e) name after) (λ xs. IsTruth (done ++ e ∷ []))
        (values A texts at on held store env b (codes "where") e k refl below st can stand)
        (λ xs x next between up made kept. and_makes done e all x next between (tells_still held (truths_told texts on done) k all env between kept truth.0 truth.1) made.1)

    pub truths_deliver : (rest done : List TypedExpr) (all : Label) (k : ℕ) (env : Env) → All (CanValue at b) rest → All (CanValueAll texts at on (present held)) rest → IsBelow k b.vector → StandsAt texts env b on held → IsTruth done all k env
        → Delivers store (through (and_true texts b) all rest) k env (all_evaluated on rest (present held)) (λ u. IsTruth (done ++ rest))
    truths_deliver [] done all k env cans stand below st truth = makes_tell Label store all k env (IsTruth (done ++ [])) (subst (λ (l : List TypedExpr). IsTruth l all k env) (sym (append-nil done)) truth)
    truths_deliver (e ∷ rest) done all k env cans stand below st truth =
        delivers_bind store (and_true texts b all e) (λ next. through (and_true texts b) next rest) k env (each (λ a. value (on a) e) (present held)) (λ xs. all_evaluated on rest (present held))
        (λ xs. IsTruth (done ++ e ∷ [])) (λ u. IsTruth (done ++ (e ∷ rest)))
        (and_delivers done e all k env (All-head (CanValue at b) e rest cans) (All-head (CanValueAll texts at on (present held)) e rest stand) below st truth)
        (λ xs next_all next between up made kept.
        subst (λ (l : List TypedExpr). Delivers store (through (and_true texts b) next_all rest) next between (all_evaluated on rest (present held)) (λ u. IsTruth l)) (append_assoc done (e ∷ []) rest)
        (truths_deliver rest (done ++ e ∷ []) next_all next between (All-tail (CanValue at b) e rest cans) (All-tail (CanValueAll texts at on (present held)) e rest stand)
        (below_more k next b.vector up below) (stands_still k env between kept below st) made))
