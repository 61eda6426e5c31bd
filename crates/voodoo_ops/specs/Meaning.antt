-- What a program means: its reached statements, each by its operator's meaning, in order; then the named results.
use Rattle.std.specs.Prelude.{ℕ, List, [], ◌∷◌, Option, Some, None, Result, Ok, Err}
use Rattle.control_vectors.specs.declared.Over.{Over}
use Rattle.programs.specs.declared.op.Size.{Size}
use Rattle.programs.specs.declared.op.Size.TheVariants.{Number, Of}
use Rattle.programs.specs.declared.op.Op.{Op}
use Rattle.programs.specs.Families.{Family, family, Load, Persist, Range, Cross, Zip, Project, Upsert, Gather, Scatter, Rank, Materialize, Break, Fold, Order, Pair, BitShift}
use Rattle.programs.specs.declared.op.Statement.{Statement}
use Rattle.programs.specs.Mentions.{Label}
use Rattle.programs.specs.Vectors.{Vector, Env, nothing, put, known, Named}
use Rattle.programs.specs.Reaching.{reached}
use Rattle.voodoo_ops.specs.Ranges.{ranged, crossed}
use Rattle.voodoo_ops.specs.Attributes.{zipped, projected, upserted}
use Rattle.voodoo_ops.specs.Slotwise.{paired, shifted}
use Rattle.voodoo_ops.specs.Moves.{gather, scatter, ranked, order}
use Rattle.voodoo_ops.specs.Folds.{folded_by}

-- ---- statements
abbrev pub Run : Type 0
Run = Result Env Over

-- the vector of a name
abbrev pub at_name : Env → Label → Vector
at_name env a = known (env a)

abbrev pub size_of : Env → Size → ℕ
size_of env (Number n) = n
size_of env (Of a) = (at_name env a).len

-- what an operator makes of the vectors by name, over a store of tables; none for a Persist
abbrev pub effect_by : Env → Env → Family → Option (Result Vector Over)
effect_by store env (Load t) = Some (Ok (at_name store t))
effect_by store env (Persist a) = None
effect_by store env (Range size p control) = Some (Ok (ranged (size_of env size) p control))
effect_by store env (Cross a p b q) = Some (Ok (crossed (at_name env a).len p (at_name env b).len q))
effect_by store env (Zip a b) = Some (Ok (zipped (at_name env a) (at_name env b)))
effect_by store env (Project a p q) = Some (Ok (projected (at_name env a) p q))
effect_by store env (Upsert a p b q) = Some (Ok (upserted (at_name env a) p (at_name env b) q))
effect_by store env (Gather a b pos) = Some (Ok (gather (at_name env a) (at_name env b) pos))
effect_by store env (Scatter a size b pos) = Some (Ok (scatter (at_name env a) (size_of env size) (at_name env b) pos))
effect_by store env (Rank kind r) = Some (Ok (ranked kind (at_name env r.a) (at_name env r.b) r))
effect_by store env (Materialize a) = Some (Ok (at_name env a))
effect_by store env (Break a) = Some (Ok (at_name env a))
effect_by store env (Fold kind f) = Some (folded_by kind (at_name env f.a) f)
effect_by store env (Order a mark out keys) = Some (Ok (order (at_name env a) mark out keys))
effect_by store env (Pair kind p) = Some (paired kind env p)
effect_by store env (BitShift x by out) = Some (shifted env x by out)

abbrev pub effect : Env → Env → Op → Option (Result Vector Over)
effect store env op = effect_by store env (family op)

abbrev pub after_effect : Env → Label → Option (Result Vector Over) → Run
after_effect env n None = Ok env
after_effect env n (Some (Err e)) = Err e
after_effect env n (Some (Ok v)) = Ok (put env n v)

-- the vectors after one more statement
abbrev pub step : Env → Env → Label → Op → Run
step store env n op = after_effect env n (effect store env op)

abbrev pub then_run : Run → (Env → Run) → Run
then_run (Err e) next = Err e
then_run (Ok env) next = next env

-- the vectors after some more statements
abbrev pub run_from : Env → List Statement → Env → Run
run_from store [] env = Ok env
run_from store (s ∷ rest) env = then_run (step store env s.name s.op) (run_from store rest)

-- ---- the program
abbrev pub result_of : Env → Label → Family → Named → Named
result_of env n (Persist a) rest = (n, known (env a)) ∷ rest
result_of env n _ rest = rest

-- the named results, in the order of the Persist statements
abbrev pub results : Env → List Statement → Named
results env [] = []
results env (s ∷ rest) = result_of env s.name (family s.op) (results env rest)

abbrev pub shown : Run → List Statement → Result Named Over
shown (Err e) statements = Err e
shown (Ok env) statements = Ok (results env statements)

-- what a program means over a store of tables: its named results, or Over
abbrev pub meaning : Env → List Statement → Result Named Over
meaning store program =
    let kept = (reached [] program).kept in shown (run_from store kept nothing) kept
