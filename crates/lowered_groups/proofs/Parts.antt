-- Parts that make what they tell, or are Over, one behind another; and the vectors that statements make.
use Rattle.std.proofs.Common.{◌≡◌, ◌∙◌, ℕ, ◌≤◌, true, List, refl, ap, Some, Result, Ok, Err}
use Rattle.control_vectors.specs.Controls.{Control}
use Rattle.control_vectors.specs.declared.Over.{Over}
use Rattle.control_vectors.specs.declared.PairKind.{PairKind}
use Rattle.control_vectors.specs.declared.PairKind.TheVariants as pair
use Rattle.programs.specs.declared.family.FoldOperator.{FoldOperator}
use Rattle.programs.specs.declared.family.FoldOperator.TheVariants as fold
use Rattle.programs.specs.declared.op.FoldArgs.{FoldArgs}
use Rattle.programs.specs.declared.op.Op.{Op}
use Rattle.programs.specs.declared.op.Op.TheVariants as op
use Rattle.programs.specs.declared.op.PairArgs.{PairArgs}
use Rattle.programs.specs.declared.op.Size.TheVariants as size
use Rattle.programs.specs.declared.order_keys.OrderPath.{OrderPath}
use Rattle.programs.specs.Families.{family, Fold, Pair, pair_of, fold_of}
use Rattle.programs.specs.Mentions.{Label}
use Rattle.programs.specs.Vectors.{Vector, Env, known}
use Rattle.voodoo_ops.specs.Attributes.{projected, upserted}
use Rattle.voodoo_ops.specs.Folds.{folded_by}
use Rattle.voodoo_ops.specs.Meaning.{effect, effect_by}
use Rattle.voodoo_ops.specs.Moves.{gather, order}
use Rattle.voodoo_ops.specs.Ranges.{ranged}
use Rattle.voodoo_ops.specs.Slotwise.{paired}
use Rattle.program_writers.specs.Names.{IsBelow, is_word}
use Rattle.program_writers.specs.Statements.{out, with_attribute, at_places}
use Rattle.program_writers.specs.Writers.{Writer, ◌>>=◌, make}
use Rattle.program_writers.proofs.Numbers.{below_more}
use Rattle.query_answers.specs.Overs as overs
use Rattle.writer_runs.specs.Runs.{Makes, Delivers, Sees}
use Rattle.writer_runs.proofs.Composed.{makes_bind, fails_first, fails_behind, makes_one, fails_one}

-- ---- vectors by name

-- the vector of a name whose number is below k
pub record Has (k : ℕ) (env : Env) (name : Label) (v : Vector) : Type 0 where
  pub sees : Sees env name v
  pub below : IsBelow k name

-- names below k are left alone
abbrev pub Kept : ℕ → Env → Env → Type 0
Kept k before after = (name : Label) → IsBelow k name → after name ≡ before name

pub has_later : (k next : ℕ) (before after : Env) (name : Label) (v : Vector) → k ≤ next → Kept k before after → Has k before name v → Has next after name v
has_later k next before after name v more kept h = record { sees = kept name h.below ∙ h.sees; below = below_more k next name more h.below }

pub is_known : (k : ℕ) (env : Env) (name : Label) (v : Vector) → Has k env name v → known (env name) ≡ v
is_known k env name v h = ap known h.sees

-- ---- parts

-- a part behind one that makes what it tells
pub delivers_after : {A B C : Type 0} (store : Env) (m : Writer A) (f : A → Writer B) (k : ℕ) (env : Env) (P : A → ℕ → Env → Type 0) (r : Result C Over) (Q : C → B → ℕ → Env → Type 0)
    → Makes store m k env P
    → ((a : A) (next : ℕ) (between : Env) → k ≤ next → P a next between → Kept k env between → Delivers store (f a) next between r Q)
    → Delivers store (m >>= f) k env r Q
delivers_after {A} {B} {C} store m f k env P (Ok c) Q made more = makes_bind A B store m f k env P (Q c) made more
delivers_after {A} {B} {C} store m f k env P (Err e) Q made more = fails_behind A B store m f k env P made more

-- a part behind one that may be Over
pub delivers_then : {A B C D : Type 0} (store : Env) (m : Writer A) (f : A → Writer B) (k : ℕ) (env : Env) (r : Result C Over) (P : C → A → ℕ → Env → Type 0) (s : C → Result D Over) (Q : D → B → ℕ → Env → Type 0)
    → Delivers store m k env r P
    → ((c : C) → r ≡ Ok c → (a : A) (next : ℕ) (between : Env) → k ≤ next → P c a next between → Kept k env between → Delivers store (f a) next between (s c) Q)
    → Delivers store (m >>= f) k env (overs.◌>>=◌ r s) Q
delivers_then {A} {B} {C} {D} store m f k env (Ok c) P s Q made more = delivers_after store m f k env (P c) (s c) Q made (more c refl)
delivers_then {A} {B} {C} {D} store m f k env (Err e) P s Q made more = fails_first A B store m f k env made

-- what is told may be said in another way
pub delivers_weaker : {A C : Type 0} (store : Env) (m : Writer A) (k : ℕ) (env : Env) (r : Result C Over) (P Q : C → A → ℕ → Env → Type 0)
    → ((c : C) (a : A) (next : ℕ) (after : Env) → r ≡ Ok c → k ≤ next → Kept k env after → P c a next after → Q c a next after) → Delivers store m k env r P → Delivers store m k env r Q
delivers_weaker store m k env (Ok c) P Q f g = record {
  after = g.after;
  ran = g.ran;
  holds = f c (m k).told (m k).next g.after refl g.ascends g.kept g.holds;
  kept = g.kept;
  ascends = g.ascends;
}
delivers_weaker store m k env (Err e) P Q f g = g

-- ---- one statement

abbrev pub NowHas : Vector → Label → ℕ → Env → Type 0
NowHas v name next after = Has next after name v

pub makes_has : (store : Env) (word : Label) (op : Op) (k : ℕ) (env : Env) (v : Vector) → is_word word ≡ true → effect store env op ≡ Some (Ok v) → Makes store (make word op) k env (NowHas v)
makes_has store word op k env v w e =
    let g = makes_one store word op k env v w e in
    record { after = g.after; ran = g.ran; holds = record { sees = g.holds.0; below = g.holds.1 }; kept = g.kept; ascends = g.ascends }

pub delivers_has : (store : Env) (word : Label) (op : Op) (k : ℕ) (env : Env) (r : Result Vector Over) → is_word word ≡ true → effect store env op ≡ Some r → Delivers store (make word op) k env r NowHas
delivers_has store word op k env (Ok v) w e = makes_has store word op k env v w e
delivers_has store word op k env (Err o) w e = fails_one store word op k env e

module _ (store : Env) (word : Label) (k : ℕ) (env : Env) (w : is_word word ≡ true) where
  pub makes_range : (n : ℕ) (p : Label) (c : Control) → Makes store (make word (op.Range (size.Number n) p c)) k env (NowHas (ranged n p c))
  makes_range n p c = makes_has store word (op.Range (size.Number n) p c) k env (ranged n p c) w refl

  pub makes_range_of : (a p : Label) (c : Control) (v : Vector) → Has k env a v → Makes store (make word (op.Range (size.Of a) p c)) k env (NowHas (ranged v.len p c))
  makes_range_of a p c v h = makes_has store word (op.Range (size.Of a) p c) k env (ranged v.len p c) w (ap (λ (x : Vector). Some (Ok (ranged x.len p c))) (is_known k env a v h))

  pub makes_upsert : (a p b q : Label) (u v : Vector) → Has k env a u → Has k env b v → Makes store (make word (with_attribute a p b q)) k env (NowHas (upserted u p v q))
  makes_upsert a p b q u v h g =
      makes_has store word (with_attribute a p b q) k env (upserted u p v q) w
      (ap (λ (x : Vector). Some (Ok (upserted x p (known (env b)) q))) (is_known k env a u h) ∙ ap (λ (x : Vector). Some (Ok (upserted u p x q))) (is_known k env b v g))

  pub makes_project : (a p q : Label) (u : Vector) → Has k env a u → Makes store (make word (op.Project a p q)) k env (NowHas (projected u p q))
  makes_project a p q u h = makes_has store word (op.Project a p q) k env (projected u p q) w (ap (λ (x : Vector). Some (Ok (projected x p q))) (is_known k env a u h))

  pub makes_gather : (a b : Label) (u v : Vector) → Has k env a u → Has k env b v → Makes store (make word (at_places a b)) k env (NowHas (gather u v out))
  makes_gather a b u v h g =
      makes_has store word (at_places a b) k env (gather u v out) w
      (ap (λ (x : Vector). Some (Ok (gather x (known (env b)) out))) (is_known k env a u h) ∙ ap (λ (x : Vector). Some (Ok (gather u x out))) (is_known k env b v g))

  pub makes_order : (a mark : Label) (keys : List OrderPath) (u : Vector) → Has k env a u → Makes store (make word (op.Order a mark out keys)) k env (NowHas (order u mark out keys))
  makes_order a mark keys u h = makes_has store word (op.Order a mark out keys) k env (order u mark out keys) w (ap (λ (x : Vector). Some (Ok (order x mark out keys))) (is_known k env a u h))

  pub delivers_fold : (kind : FoldOperator) (f : FoldArgs) (u : Vector) → Has k env f.a u → Delivers store (make word (fold_of kind f)) k env (folded_by kind u f) NowHas
  delivers_fold kind f u h =
      delivers_has store word (fold_of kind f) k env (folded_by kind u f) w
      (ap (effect_by store env) (fold_family kind f) ∙ ap (λ (x : Vector). Some (folded_by kind x f)) (is_known k env f.a u h))
    where
      fold_family : (kind : FoldOperator) (f : FoldArgs) → family (fold_of kind f) ≡ Fold kind f
      fold_family fold.Sum f = refl
      fold_family fold.Min f = refl
      fold_family fold.Max f = refl
      fold_family fold.Select f = refl
      fold_family fold.Scan f = refl

  pub delivers_pair : (kind : PairKind) (p : PairArgs) → Delivers store (make word (pair_of kind p)) k env (paired kind env p) NowHas
  delivers_pair kind p = delivers_has store word (pair_of kind p) k env (paired kind env p) w (ap (effect_by store env) (pair_family kind p))
    where
      pair_family : (kind : PairKind) (p : PairArgs) → family (pair_of kind p) ≡ Pair kind p
      pair_family pair.Add p = refl
      pair_family pair.Subtract p = refl
      pair_family pair.Multiply p = refl
      pair_family pair.Divide p = refl
      pair_family pair.Modulo p = refl
      pair_family pair.Greater p = refl
      pair_family pair.Equals p = refl
      pair_family pair.LogicalAnd p = refl
      pair_family pair.LogicalOr p = refl
      pair_family pair.Fill p = refl

-- ---- a part behind one that may be Over, which itself is not

pub delivers_makes : {A B C : Type 0} (store : Env) (m : Writer A) (f : A → Writer B) (k : ℕ) (env : Env) (r : Result C Over) (P : C → A → ℕ → Env → Type 0) (Q : C → B → ℕ → Env → Type 0)
    → Delivers store m k env r P
    → ((c : C) → r ≡ Ok c → (a : A) (next : ℕ) (between : Env) → k ≤ next → P c a next between → Kept k env between → Makes store (f a) next between (Q c))
    → Delivers store (m >>= f) k env r Q
delivers_makes {A} {B} {C} store m f k env (Ok c) P Q made more = makes_bind A B store m f k env (P c) (Q c) made (more c refl)
delivers_makes {A} {B} {C} store m f k env (Err e) P Q made more = fails_first A B store m f k env made
